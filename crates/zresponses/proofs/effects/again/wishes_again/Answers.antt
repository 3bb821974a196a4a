use Rattle.std.proofs.Common.{◌≡◌, [], ◌++◌, drop, sym, ap, ◌∙◌, arith}
use Rattle.std.proofs.lemmas.List.{append-nil}
use Rattle.zresponses.specs.effects.Wishes as table
use Rattle.zresponses.proofs.effects_lemmas.Ends.{none_again}
use Rattle.zresponses.proofs.effects.again.wishes_again.Goals as goal

pub returns : goal.returns
returns c =
    let place = c.loop-place.place in
    let known = c.loop-place.list.items in
    let none : table.wishes_again c.args.kind c.args.seen.now (drop place c.args.calls.now) (drop place c.args.replies.now) ≡ [] =
    none_again c.args.kind c.args.seen.now c.args.calls.now c.args.replies.now place (omega arith) in
    sym (append-nil known) ∙ ap (λ more. known ++ more) (sym none) ∙ c.loop-place.invariant
