use Rattle.std.proofs.Common.{sym, subst, ◌∙◌}
use Rattle.std.specs.FinMap.{entries}
use Rattle.ztree.proofs.Maps.{none_some}
use Rattle.zstore.specs.Restored.{with_session_rows}
use Rattle.zops.specs.Restored.{with_plain}
use Rattle.ztree_service.specs.Machines.{tree_in}
use Rattle.ztree_service.proofs.Anew.{SessionsAreLeft, session_can, session_next, session_there, sessions_all}
use Rattle.ztree_service.proofs.fresh.put_sessions.Goals as goal

pub loop-id-init : goal.loop-id-init
loop-id-init c =
    sessions_all (tree_in c.args.machine.now) c.args.restoring.now c.into_iter-id-iterator.result.rest.items
    (c.into_iter-id-iterator.ensures.into_iter_gives.0 ∙ c.requires.ids) c.requires.can

pub unreachable-requires : goal.unreachable-requires
unreachable-requires c =
    let t = tree_in c.args.machine.now in
    let target = with_plain c.args.restoring.now (with_session_rows c.args.restoring.now.service.plain (entries t.sessions)) in
    let left = subst (SessionsAreLeft t target c.loop-id.restoring) c.in-Some.ensures.steps.0 c.loop-id.invariant in
    let there = session_there t target c.loop-id.restoring c.in-Some.id c.next.new.self.rest.items left in
    none_some there.0 (sym c.in_default.is ∙ c.session.ensures ∙ there.1)

pub memory-requires : goal.memory-requires
memory-requires c =
    let t = tree_in c.args.machine.now in
    let target = with_plain c.args.restoring.now (with_session_rows c.args.restoring.now.service.plain (entries t.sessions)) in
    let left = subst (SessionsAreLeft t target c.loop-id.restoring) c.in-Some.ensures.steps.0 c.loop-id.invariant in
    c.in-Err.ensures.fault
    (session_can t target c.loop-id.restoring c.in-Some.id c.next.new.self.rest.items c.in-Some-session.session
    (sym c.session.ensures ∙ c.in-Some-session.is) left)

pub loop-id-preserved : goal.loop-id-preserved
loop-id-preserved c =
    let t = tree_in c.args.machine.now in
    let target = with_plain c.args.restoring.now (with_session_rows c.args.restoring.now.service.plain (entries t.sessions)) in
    let left = subst (SessionsAreLeft t target c.loop-id.restoring) c.in-Some.ensures.steps.0 c.loop-id.invariant in
    session_next t target c.loop-id.restoring c.in-Some.id c.next.new.self.rest.items c.in-Some-session.session
    (sym c.session.ensures ∙ c.in-Some-session.is) c.put_session.new.self left
    c.in_default-put_session.ensures.state
