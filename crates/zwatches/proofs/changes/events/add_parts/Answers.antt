use Rattle.std.proofs.Common.{◌≡◌, [], ◌++◌, drop, sym, ap, ◌∙◌, arith}
use Rattle.std.proofs.lemmas.List.{append-nil}
use Rattle.zwatches.specs.changes.Events.{parts_events}
use Rattle.zwatches.proofs.changes_lemmas.Parts.{none_left}
use Rattle.zwatches.proofs.changes.events.add_parts.Goals as goal

pub returns : goal.returns
returns c =
    let place = c.loop-place.place in
    let known = c.loop-place.events.items in
    let none : parts_events (drop place c.args.parts.now) (drop place c.args.replies.now) ≡ [] =
    none_left c.args.parts.now c.args.replies.now place (omega arith) in
    sym (append-nil known) ∙ ap (λ more. known ++ more) (sym none) ∙ c.loop-place.invariant
