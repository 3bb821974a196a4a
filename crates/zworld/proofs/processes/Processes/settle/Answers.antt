use Rattle.std.proofs.Common.{sym, ap, ◌∙◌}
use Rattle.zworld.specs.links.support.Counts.{passing}
use Rattle.zprotocol.specs.world.Settle.{retry_events}
use Rattle.zworld.specs.Held.{Held}
use Rattle.zworld.specs.support.Standing.{waits}
use Rattle.zworld.proofs.Needs.{could_at_first, still_or_could}
use Rattle.zworld.proofs.Passes.{settles, settles_at_once}
use Rattle.zworld.proofs.Results.{on_err}
use Rattle.zworld.proofs.Skips.{no_retries}
use Rattle.zworld.proofs.Tries.{strict_tries}
use Rattle.zworld.proofs.processes.Processes.settle.Goals as goal

-- where no one waits, nothing is sent once more
pub returns-then-self-eq0-clause-settled : goal.returns-then-self-eq0-clause-settled
returns-then-self-eq0-clause-settled c =
    settles_at_once c.args.strict c.args.self.now c.passes.new.self c.args.limit c.in_ok-left.left c.args.seen.now.items c.passes.new.seen.items
    c.clients-clients.result c.settled.result c.clients-clients.ensures.same c.settled.ensures
    (λ history outcomes t stands. no_retries c.clients-clients.result c.passes.new.self history c.in_ok-left.left outcomes t
    (ap (λ (h : Held). passing waits h.actors) (sym c.self.view_is) ∙ sym c.self.invariant.counted ∙ c.if-self-eq0.true) stands)
    c.in_ok-left.ensures.done

pub returns-clause-settled : goal.returns-clause-settled
returns-clause-settled c =
    settles c.args.strict c.args.self.now c.passes-2.new.self c.args.limit c.in_ok-left-3.left c.args.seen.now.items c.passes-2.new.seen.items
    c.clients-clients.result c.in_ok-left.left c.in_ok-left-2.left c.passes.new.self c.retry_all.new.self c.passes.new.seen.items c.settled-2.result
    c.clients-clients.ensures.same c.settled-2.ensures c.in_ok-left.ensures.done
    (strict_tries c.args.strict (retry_events c.clients-clients.result)
    (record { held = c.passes.new.self; left = c.in_ok-left.left; seen = c.passes.new.seen.items })
    (record { held = c.retry_all.new.self; left = c.in_ok-left-2.left; seen = c.passes.new.seen.items })
    (c.in_ok-left-2.ensures.done c.passes.new.seen.items)) c.in_ok-left-3.ensures.done

pub returns-in_err-left-2-clause-needed : goal.returns-in_err-left-2-clause-needed
returns-in_err-left-2-clause-needed c =
    on_err c.from_residual-in_err-left-2.result
    (could_at_first c.args.self.now c.passes.new.self c.args.limit c.in_ok-left.left c.in_ok-left.ensures.moved c.in_err-left-2.ensures.needed)

pub returns-in_err-left-3-clause-needed : goal.returns-in_err-left-3-clause-needed
returns-in_err-left-3-clause-needed c =
    on_err c.from_residual-in_err-left-3.result
    (could_at_first c.args.self.now c.retry_all.new.self c.args.limit c.in_ok-left-2.left
    (still_or_could c.args.self.now c.passes.new.self c.retry_all.new.self c.args.limit c.in_ok-left.left c.in_ok-left-2.left
    c.in_ok-left.ensures.moved c.in_ok-left-2.ensures.moved) c.in_err-left-3.ensures.needed)
