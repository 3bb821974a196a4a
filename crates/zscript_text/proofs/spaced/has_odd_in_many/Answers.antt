use Rattle.std.proofs.Common.{◌≡◌, ◌+◌, ◌-◌, subst, arith}
use Rattle.zscript_text.specs.support.Spaced.{IsOddAmong}
use Rattle.zscript_text.proofs.OddPairs.{run_after}
use Rattle.zscript_text.proofs.spaced.has_odd_in_many.Goals as goal

pub returns : goal.returns
returns c =
    let pairs = c.args.pairs in
    let found = c.has_odd_in_lanes-2.result in
    let many = c.requires.many in
    let back : pairs - 16 + 16 ≡ pairs = omega arith in
    subst (λ to. IsOddAmong c.args.line.now 0 to found) back
    (run_after c.args.line.now c.loop-at.at (pairs - 16) (pairs - 16 + 16) found (omega arith) c.loop-at.invariant.none c.has_odd_in_lanes-2.ensures)
