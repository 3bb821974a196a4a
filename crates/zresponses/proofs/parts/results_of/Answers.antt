use Rattle.std.proofs.Common.{◌≡◌, [], ◌++◌, drop, sym, ap, ◌∙◌, arith}
use Rattle.std.proofs.lemmas.List.{append-nil}
use Rattle.zresponses.specs.Results.{part_results}
use Rattle.zresponses.proofs.PartsDone.{none_left}
use Rattle.zresponses.proofs.parts.results_of.Goals as goal

pub returns : goal.returns
returns c =
    let place = c.loop-place.place in
    let known = c.loop-place.results.items in
    let none : part_results c.args.clock.now c.args.at.now (drop place c.args.asked.now) (drop place c.args.parts.now) (drop place c.args.replies.now) ≡ [] =
    none_left c.args.clock.now c.args.at.now c.args.asked.now c.args.parts.now c.args.replies.now place (omega arith) in
    sym (append-nil known) ∙ ap (λ more. known ++ more) (sym none) ∙ c.loop-place.invariant
