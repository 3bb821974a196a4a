use Rattle.std.proofs.Common.{◌≤◌, refl, arith}
use Rattle.std.proofs.lemmas.Bool.Decides.{nat_tests}
use Rattle.zprotocol.specs.traces.Traces.{stamps_rise}
use Rattle.zprotocol.specs.traces.support.Places.{place_count}
use Rattle.zprotocol.proofs.traces_lemmas.Places.{each_trace}
use Rattle.zaudit.proofs.stamps.all_rise.Goals as goal

pub returns-clause-yes : goal.returns-clause-yes
returns-clause-yes c holds =
    let t = c.args.traces.now in
    let ended : place_count t ≤ c.loop-place.place = grind (arith, nat_tests, c.loop-place-test.false, c.count_of-place-end.ensures.count) in
    each_trace t stamps_rise refl (λ j lt. c.loop-place.invariant j (omega (arith, lt, ended)))
