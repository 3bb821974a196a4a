use Rattle.std.proofs.Common.{ap, sym, subst, ◌∙◌, arith, rules}
use Rattle.ztree.specs.declared.limits.TreeLimits.{TreeLimits}
use Rattle.ztree.specs.Tree.{with_next_zxid}
use Rattle.ztree.specs.Sessions.{with_session}
use Rattle.zcalls.specs.Bounds.{IsBounded}
use Rattle.zcalls.specs.Step.{granted_timeout}
use Rattle.zcalls.proofs.Timed.{opened_bounded, granted-least, granted-most}
use Rattle.zops.proofs.session_calls.open.Goals as goal

pub returns-clause-left : goal.returns-clause-left
returns-clause-left c =
    let t = c.args.store.now.tree in
    let ticks = c.args.ticks in
    let least = c.keeps_lawful.ensures.allowed.least_timeout in
    let now = c.raise.ensures.tree ∙ ap with_next_zxid c.in_ok-open_session.ensures.tree ∙ ap (λ timeout. with_next_zxid (with_session t c.args.client timeout)) c.granted-timeout.ensures
    ∙ ap (λ (l : TreeLimits). with_next_zxid (with_session t c.args.client (granted_timeout l.timeout ticks))) c.limits-2.ensures in
    record {
      bounded = subst IsBounded (sym now) (opened_bounded t c.args.client (granted_timeout t.limits.timeout ticks) c.requires.steady.bounded c.requires.zxid (granted-least t.limits.timeout ticks least) (granted-most t.limits.timeout ticks least));
      given = let same = c.raise.ensures.same.1 in let more = c.in_ok-open_session.ensures.same.1 in omega (arith, same, more);
    }

pub returns-clause-done : goal.returns-clause-done
returns-clause-done c = search rules
