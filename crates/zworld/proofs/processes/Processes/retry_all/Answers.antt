use Rattle.std.proofs.Common.{◌≡◌, ◌<◌, ◌+◌, ◌-◌, true, [], inl, refl, sym, subst, append-nil, arith}
use Rattle.zprotocol.specs.declared.world.event.Event.TheVariants.{Retry}
use Rattle.zprotocol.specs.world.Settle.{retry_events}
use Rattle.zworld.specs.support.Settling.{Point, Tries}
use Rattle.zworld.proofs.Needs.{can_run_out, could_at_first, still_or_could, tried_or_could}
use Rattle.zworld.proofs.Results.{on_err}
use Rattle.zworld.proofs.Tries.{goes_nowhere, one_more_retry, retried_acted, spent_retries, stepped_tries}
use Rattle.zworld.proofs.processes.Processes.retry_all.Goals as goal

pub loop-number-init : goal.loop-number-init
loop-number-init c = (λ seen. goes_nowhere true (λ s. s) (record { held = c.args.self.now; left = c.args.left; seen = seen }), inl (refl, refl))

pub returns-then-left-eq0-clause-done : goal.returns-then-left-eq0-clause-done
returns-then-left-eq0-clause-done c seen =
    let n = c.loop-number.number in
    let old : Point = record { held = c.args.self.now; left = c.args.left; seen = seen } in
    let here : Point = record { held = c.loop-number.self; left = c.loop-number.left; seen = seen } in
    let below : n < c.args.clients = c.loop-number-test.true in
    let all : n + (c.args.clients - n) ≡ c.args.clients = omega (arith, below) in
    subst (λ m. Tries true (retry_events m) old here) all
    (spent_retries true n (c.args.clients - n) old here c.if-left-eq0.true (c.loop-number.invariant.0 seen))

pub loop-number-preserved : goal.loop-number-preserved
loop-number-preserved c =
    let some : 0 < c.loop-number.left = omega (arith, c.if-left-eq0.false) in (
      λ seen.
          let old : Point = record { held = c.args.self.now; left = c.args.left; seen = seen } in
          let before : Point = record { held = c.loop-number.self; left = c.loop-number.left; seen = seen } in
          let here : Point = record { held = c.retry.new.self; left = c.left_after-left.result; seen = seen } in
          one_more_retry true c.loop-number.number c.in-Some.client old before here c.in-Some.ensures.client.0 (c.loop-number.invariant.0 seen)
          (stepped_tries true before.held here.held (Retry c.in-Some.client) c.in_ok-did.did [] c.in_ok-did.ensures.stepped
          before.left here.left seen seen some c.left_after-left.ensures (sym (append-nil seen))
          (λ strictly. retried_acted before.held c.in-Some.client c.in_ok-did.did c.in_ok-did.ensures.stepped.fits)),
      still_or_could c.args.self.now c.loop-number.self c.retry.new.self c.args.left c.loop-number.left c.left_after-left.result
          c.loop-number.invariant.1
          (tried_or_could c.loop-number.self c.retry.new.self (Retry c.in-Some.client) c.in_ok-did.did [] c.loop-number.left c.left_after-left.result
          c.in_ok-did.ensures.stepped some refl c.left_after-left.ensures),
    )

pub returns-clause-done : goal.returns-clause-done
returns-clause-done c seen =
    let last : c.loop-number.number ≡ c.args.clients = omega arith in
    subst (λ n. Tries true (retry_events n) (record { held = c.args.self.now; left = c.args.left; seen = seen })
    (record { held = c.loop-number.self; left = c.loop-number.left; seen = seen }))
    last (c.loop-number.invariant.0 seen)

pub returns-then-left-eq0-clause-moved : goal.returns-then-left-eq0-clause-moved
returns-then-left-eq0-clause-moved c = c.loop-number.invariant.1

pub returns-clause-moved : goal.returns-clause-moved
returns-clause-moved c = c.loop-number.invariant.1

pub returns-in_err-did-clause-needed : goal.returns-in_err-did-clause-needed
returns-in_err-did-clause-needed c =
    let here = c.loop-number in
    let some : 0 < here.left = omega (arith, c.if-left-eq0.false) in
    on_err c.from_residual.result
    (could_at_first c.args.self.now here.self c.args.left here.left here.invariant.1
    (can_run_out here.self (Retry c.in-Some.client) here.left some refl c.in_err-did.ensures.needed))
