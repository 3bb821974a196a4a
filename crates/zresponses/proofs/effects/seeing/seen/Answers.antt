use Rattle.std.proofs.Common.{◌≡◌, [], ◌++◌, drop, sym, ap, ◌∙◌, arith}
use Rattle.std.proofs.lemmas.List.{append-nil}
use Rattle.zresponses.specs.effects.Looking as table
use Rattle.zresponses.proofs.effects_lemmas.Ends.{none_seen}
use Rattle.zresponses.proofs.effects.seeing.seen.Goals as goal

pub returns : goal.returns
returns c =
    let index = c.loop-index.index in
    let known = c.loop-index.events.items in
    let none : table.seen c.args.zxid (drop index c.args.paths.now) (drop index c.args.replies.now) ≡ [] =
    none_seen c.args.zxid c.args.paths.now c.args.replies.now index (omega arith) in
    sym (append-nil known) ∙ ap (λ more. known ++ more) (sym none) ∙ c.loop-index.invariant
