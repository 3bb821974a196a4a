use Rattle.std.proofs.Common.{◌+◌, ◌||◌, drop, sym, ap, ◌∙◌}
use Rattle.std.specs.FinSet.{items}
use Rattle.zwatches.specs.Events.{above}
use Rattle.zwatches.specs.support.Groups.{found_by}
use Rattle.zwatches.proofs.Above.{found_more, found_last}
use Rattle.zwatches.proofs.firing.has_above.Goals as goal

pub returns-then-has : goal.returns-then-has
returns-then-has c =
    let rows = items c.args.watches.now in
    let step = found_more rows c.args.names.now c.loop-depth.depth c.loop-depth-test.true c.has.result c.has.ensures in
    sym (sym c.loop-depth.invariant ∙ step ∙ ap (λ b. b || found_by rows (drop (c.loop-depth.depth + 1) (above c.args.names.now))) c.if-has.true)

pub loop-depth-preserved : goal.loop-depth-preserved
loop-depth-preserved c =
    let rows = items c.args.watches.now in
    let step = found_more rows c.args.names.now c.loop-depth.depth c.loop-depth-test.true c.has.result c.has.ensures in
    sym (step ∙ ap (λ b. b || found_by rows (drop (c.loop-depth.depth + 1) (above c.args.names.now))) c.if-has.false)
    ∙ c.loop-depth.invariant

pub returns : goal.returns
returns c =
    found_last (items c.args.watches.now) c.args.names.now c.loop-depth.depth c.loop-depth-test.false c.loop-depth.auto.depth-end c.has-2.result c.has-2.ensures
    ∙ c.loop-depth.invariant
