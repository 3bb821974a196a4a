use Rattle.std.proofs.Common.{◌+◌, ◌*◌, cond, Some, None, refl, ap, sym, subst, ◌∙◌, arith}
use Rattle.std.specs.FinMap as finite
use Rattle.std.specs.Option.{option_and_then}
use Rattle.ztree.proofs.Maps.{has_some, is_there}
use Rattle.ztree.proofs.Ending.{found-ended}
use Rattle.zstore.specs.StoreView.{while_there}
use Rattle.ztree.specs.Tree.{Tree, parent_of, has_node}
use Rattle.ztree.specs.Sessions.{without_session, without_sessions}
use Rattle.zcalls.specs.declared.limits.TheConstants.{MAX_RAISES}
use Rattle.zcalls.proofs.Ends.{RoomForEnds, AreLive, room_before, ended-room, few_ephemerals, ended-ends, due_live}
use Rattle.zcalls.proofs.Timed.{few_nodes}
use Rattle.zops.proofs.session_calls.end_all.Goals as goal

pub loop-id-init : goal.loop-id-init
loop-id-init c =
    let t = c.args.store.now.tree in
    let all = c.into_iter-id-iterator.ensures.into_iter_gives.0 in
    record {
      did = ap (without_sessions t) (sym all);
      room = room_before (MAX_RAISES * t.zxid) t.nodes c.requires.ready.steady.bounded.counters (few_nodes t c.keeps_lawful.ensures);
      zxid = refl;
      live = subst (AreLive t.sessions) (sym (all ∙ c.requires.due)) (due_live t.sessions (t.time + 1));
      still = λ id path at there. at;
      given = refl;
    }

pub end_session-requires-clause-counters : goal.end_session-requires-clause-counters
end_session-requires-clause-counters c path n e owned parent found =
    let room = (c.loop-id.invariant.room (parent_of path) parent found).cversion in
    let gone = few_ephemerals c.loop-id.store.tree.nodes c.in-Some.id in
    let few = c.requires.ready.zxid in
    omega (arith, room, gone, few)

pub loop-id-preserved : goal.loop-id-preserved
loop-id-preserved c =
    let here = c.loop-id.invariant in
    let before = c.loop-id.store.tree in
    let id = c.in-Some.id in
    let rest = c.next.new.self.rest.items in
    let steps = c.in-Some.ensures.steps.0 in
    let now = c.end_session.ensures.tree in
    record {
      did = here.did ∙ ap (without_sessions before) steps ∙ ap (λ (u : Tree). without_sessions u rest) (sym now);
      room = subst (λ (u : Tree). RoomForEnds (MAX_RAISES * c.args.store.now.tree.zxid + MAX_RAISES) u.nodes) (sym now) (ended-room (MAX_RAISES * c.args.store.now.tree.zxid + MAX_RAISES) before id here.room);
      zxid = ap (λ (u : Tree). u.zxid) now ∙ (ended-ends before id).zxid ∙ here.zxid;
      live = subst (λ (u : Tree). AreLive u.sessions rest) (sym now) (subst (AreLive before.sessions) steps here.live).1;
      still = λ q path at there.
          let left = has_some (finite.get (without_session before id).nodes path) (ap (λ (u : Tree). has_node u.nodes path) (sym now) ∙ there) in
          let was = found-ended before id path left.0 left.1 in
          c.end_session.ensures.forgotten q
          ∙ ap (option_and_then (while_there c.end_session.new.self.tree.nodes)) (here.still q path at (is_there (finite.get before.nodes path) was.0 was.1))
          ∙ ap (λ b. cond b (Some path) None) there;
      given = c.end_session.ensures.given ∙ here.given;
    }
