use Rattle.std.proofs.Common.{◌<◌, ◌+◌, inl, refl, sym, ◌∙◌, arith}
use Rattle.zprotocol.specs.declared.limits.TheConstants.{MAX_SERVERS}
use Rattle.zprotocol.specs.declared.world.event.Event.TheVariants.{Take}
use Rattle.zworld.specs.support.Settling.{Point}
use Rattle.zworld.proofs.Needs.{can_run_out, could_at_first, short_is_enabled, still_or_could, tried_or_could}
use Rattle.zworld.proofs.Results.{on_err}
use Rattle.zworld.proofs.Skips.{empty_link}
use Rattle.zworld.proofs.Tries.{acted_where, stepped_tries}
use Rattle.zworld.proofs.Turns.{comes_to, none_had, no_turn, one_more_turn, spent_turns, shorter}
use Rattle.zworld.proofs.processes.Processes.pass.Goals as goal

pub loop-turn-init : goal.loop-turn-init
loop-turn-init c =
    let old : Point = record { held = c.args.self.now; left = c.args.left; seen = c.args.seen.now.items } in
    let found = c.next_turn-turn.ensures in (
      found.few.0,
      found.few.1,
      comes_to c.args.strict c.args.clients 0 0 old old (none_had c.args.strict c.args.clients old) (omega arith) c.requires
          c.next_turn-turn.result found.few.0 found.few.1 (found.ahead (omega arith))
          (λ p q few reaches before. empty_link _ c.args.self.now p q c.self.view_is (found.empty p q few reaches before)) (omega arith),
      inl (refl, refl),
    )

pub overflow_add-turn : goal.overflow_add-turn
overflow_add-turn c = omega (arith, c.loop-turn.invariant.1)

-- a receiver that takes no part has no turn
pub loop-turn-smaller-then-turn-count : goal.loop-turn-smaller-then-turn-count
loop-turn-smaller-then-turn-count c =
    let found = c.next_turn-turn-then-turn-count.ensures in
    let turn = c.loop-turn.turn in
    shorter turn.sender turn.receiver c.next_turn-turn-then-turn-count.result (omega (arith, c.loop-turn-test.true, c.requires))
    c.loop-turn.invariant.1 found.few.0 found.few.1 (found.ahead (omega (arith, c.loop-turn-test.true, c.requires)))

pub loop-turn-preserved-then-turn-count : goal.loop-turn-preserved-then-turn-count
loop-turn-preserved-then-turn-count c =
    let strict = c.args.strict in let clients = c.args.clients in let turn = c.loop-turn.turn in
    let old : Point = record { held = c.args.self.now; left = c.args.left; seen = c.args.seen.now.items } in
    let here : Point = record { held = c.loop-turn.self; left = c.loop-turn.left; seen = c.loop-turn.seen.items } in
    let far = c.loop-turn.invariant in
    let small : turn.sender < MAX_SERVERS + 1 + clients = omega (arith, c.loop-turn-test.true) in
    let found = c.next_turn-turn-then-turn-count.ensures in (
      found.few.0,
      found.few.1,
      comes_to strict clients turn.sender (turn.receiver + 1) old here
          (no_turn strict clients turn.sender turn.receiver old here (far.2.0 small) (omega (arith, c.if-turn-count.true))) small c.requires
          c.next_turn-turn-then-turn-count.result found.few.0 found.few.1 (found.ahead (omega (arith, small, c.requires)))
          (λ p q few reaches before. empty_link _ c.loop-turn.self p q c.self-in-loop-turn.view_is (found.empty p q few reaches before))
          (omega (arith, far.1)),
      far.3,
    )

pub returns-then-left-eq0-clause-done : goal.returns-then-left-eq0-clause-done
returns-then-left-eq0-clause-done c =
    let turn = c.loop-turn.turn in
    let old : Point = record { held = c.args.self.now; left = c.args.left; seen = c.args.seen.now.items } in
    let here : Point = record { held = c.loop-turn.self; left = c.loop-turn.left; seen = c.loop-turn.seen.items } in
    let small : turn.sender < MAX_SERVERS + 1 + c.args.clients = omega (arith, c.loop-turn-test.true) in
    spent_turns c.args.strict c.args.clients turn.sender turn.receiver old here (c.loop-turn.invariant.2.0 small) small c.if-left-eq0.true

pub returns-then-left-eq0-clause-moved : goal.returns-then-left-eq0-clause-moved
returns-then-left-eq0-clause-moved c = c.loop-turn.invariant.3

pub returns-in_err-did-clause-needed : goal.returns-in_err-did-clause-needed
returns-in_err-did-clause-needed c =
    let here = c.loop-turn in
    let some : 0 < here.left = omega (arith, c.if-left-eq0.false) in
    on_err c.from_residual.result
    (could_at_first c.args.self.now here.self c.args.left here.left here.invariant.3
    (can_run_out here.self (Take c.in-Some.from c.in-Some-at.to) here.left some refl c.in_err-did.ensures.needed))

pub returns-then-must_stop-clause-needed : goal.returns-then-must_stop-clause-needed
returns-then-must_stop-clause-needed c =
    let here = c.loop-turn in
    let some : 0 < here.left = omega (arith, c.if-left-eq0.false) in
    let event = Take c.in-Some.from c.in-Some-at.to in
    let stepped = c.in_ok-did.ensures.stepped in
    could_at_first c.args.self.now here.self c.args.left here.left here.invariant.3
    (can_run_out here.self event here.left some refl
    (short_is_enabled here.self c.take.new.self event c.in_ok-did.did stepped.0 c.args.strict stepped.2
    (sym c.must_stop.ensures ∙ c.if-must_stop.true)))

-- one more channel has its turn
pub loop-turn-smaller : goal.loop-turn-smaller
loop-turn-smaller c =
    let found = c.next_turn-turn-in-loop-turn.ensures in
    let turn = c.loop-turn.turn in
    shorter turn.sender turn.receiver c.next_turn-turn-in-loop-turn.result (omega (arith, c.loop-turn-test.true, c.requires))
    c.loop-turn.invariant.1 found.few.0 found.few.1 (found.ahead (omega (arith, c.loop-turn-test.true, c.requires)))

pub loop-turn-preserved : goal.loop-turn-preserved
loop-turn-preserved c =
    let strict = c.args.strict in let clients = c.args.clients in let turn = c.loop-turn.turn in
    let from = c.in-Some.from in let to = c.in-Some-at.to in
    let old : Point = record { held = c.args.self.now; left = c.args.left; seen = c.args.seen.now.items } in
    let before : Point = record { held = c.loop-turn.self; left = c.loop-turn.left; seen = c.loop-turn.seen.items } in
    let here : Point = record { held = c.take.new.self; left = c.left_after-left.result; seen = c.take.new.seen.items } in
    let far = c.loop-turn.invariant in
    let small : turn.sender < MAX_SERVERS + 1 + clients = omega (arith, c.loop-turn-test.true) in
    let some : 0 < before.left = omega (arith, c.if-left-eq0.false) in
    let stepped = c.in_ok-did.ensures.stepped in
    let found = c.next_turn-turn-in-loop-turn.ensures in (
      found.few.0,
      found.few.1,
      comes_to strict clients turn.sender (turn.receiver + 1) old here
          (one_more_turn strict clients turn.sender turn.receiver old before (far.2.0 small) from to here c.in-Some.ensures.some c.in-Some-at.ensures.some
          (omega (arith, c.if-turn-count.false))
          (stepped_tries strict before.held here.held (Take from to) c.in_ok-did.did stepped.0 stepped.2 before.left here.left before.seen
          here.seen some c.left_after-left.ensures stepped.1 (λ strictly. acted_where strict c.in_ok-did.did strictly
          (sym c.must_stop.ensures ∙ c.if-must_stop.false)))) small c.requires
          c.next_turn-turn-in-loop-turn.result found.few.0 found.few.1 (found.ahead (omega (arith, small, c.requires)))
          (λ p q few reaches ahead. empty_link _ c.take.new.self p q c.self-in-loop-turn-2.view_is (found.empty p q few reaches ahead))
          (omega (arith, far.1)),
      still_or_could c.args.self.now before.held here.held c.args.left before.left here.left far.3
          (tried_or_could before.held here.held (Take from to) c.in_ok-did.did stepped.0 before.left here.left stepped.2 some refl
          c.left_after-left.ensures),
    )

pub returns-clause-done : goal.returns-clause-done
returns-clause-done c = c.loop-turn.invariant.2.1 (omega (arith, c.loop-turn-test.false))

pub returns-clause-moved : goal.returns-clause-moved
returns-clause-moved c = c.loop-turn.invariant.3
