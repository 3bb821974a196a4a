use Rattle.std.proofs.Common.{inl, refl}
use Rattle.zworld.proofs.Results.{on_err}
use Rattle.zprotocol.specs.world.Settle.{deliveries}
use Rattle.zworld.proofs.Needs.{could_at_first, still_or_could}
use Rattle.zworld.proofs.Passes.{first_pass, next_pass, last_pass, all_passes}
use Rattle.zworld.proofs.Tries.{both_added}
use Rattle.zworld.proofs.processes.Processes.passes.Goals as goal

pub loop-pass-init : goal.loop-pass-init
loop-pass-init c = (
  first_pass c.args.strict (deliveries c.args.clients) c.args.limit
      (record { held = c.args.self.now; left = c.args.left; seen = c.args.seen.now.items }),
  inl (refl, refl),
)

pub returns-in_err-left-clause-partly : goal.returns-in_err-left-clause-partly
returns-in_err-left-clause-partly c =
    let here = c.loop-pass.invariant.0 in
    on_err c.from_residual.result
    (both_added c.args.seen.now.items c.loop-pass.seen.items c.pass.new.seen.items (here.1, here.2) c.in_err-left.ensures.partly)

pub returns-then-left-before-clause-done : goal.returns-then-left-before-clause-done
returns-then-left-before-clause-done c =
    last_pass c.args.strict (deliveries c.args.clients) c.args.limit c.loop-pass.pass
    (record { held = c.args.self.now; left = c.args.left; seen = c.args.seen.now.items })
    (record { held = c.loop-pass.self; left = c.loop-pass.left; seen = c.loop-pass.seen.items })
    (record { held = c.pass.new.self; left = c.in_ok-left.left; seen = c.pass.new.seen.items })
    c.loop-pass-test.true c.loop-pass.invariant.0 c.if-left-before.true c.in_ok-left.ensures.done

pub loop-pass-preserved : goal.loop-pass-preserved
loop-pass-preserved c = (
  next_pass c.args.strict (deliveries c.args.clients) c.args.limit c.loop-pass.pass
      (record { held = c.args.self.now; left = c.args.left; seen = c.args.seen.now.items })
      (record { held = c.loop-pass.self; left = c.loop-pass.left; seen = c.loop-pass.seen.items })
      (record { held = c.pass.new.self; left = c.in_ok-left.left; seen = c.pass.new.seen.items })
      c.loop-pass-test.true c.loop-pass.invariant.0 c.if-left-before.false c.in_ok-left.ensures.done,
  still_or_could c.args.self.now c.loop-pass.self c.pass.new.self c.args.left c.loop-pass.left c.in_ok-left.left
      c.loop-pass.invariant.1 c.in_ok-left.ensures.moved,
)

pub returns-clause-done : goal.returns-clause-done
returns-clause-done c =
    all_passes c.args.strict (deliveries c.args.clients) c.args.limit c.loop-pass.pass
    (record { held = c.args.self.now; left = c.args.left; seen = c.args.seen.now.items })
    (record { held = c.loop-pass.self; left = c.loop-pass.left; seen = c.loop-pass.seen.items })
    c.loop-pass-test.false c.loop-pass.invariant.0

pub returns-then-left-before-clause-moved : goal.returns-then-left-before-clause-moved
returns-then-left-before-clause-moved c =
    still_or_could c.args.self.now c.loop-pass.self c.pass.new.self c.args.left c.loop-pass.left c.in_ok-left.left
    c.loop-pass.invariant.1 c.in_ok-left.ensures.moved

pub returns-clause-moved : goal.returns-clause-moved
returns-clause-moved c = c.loop-pass.invariant.1

pub returns-in_err-left-clause-needed : goal.returns-in_err-left-clause-needed
returns-in_err-left-clause-needed c =
    on_err c.from_residual.result
    (could_at_first c.args.self.now c.loop-pass.self c.args.left c.loop-pass.left c.loop-pass.invariant.1 c.in_err-left.ensures.needed)
