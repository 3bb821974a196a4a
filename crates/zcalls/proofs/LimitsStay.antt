-- No call changes the limits of the tree.
use Rattle.std.proofs.Common.{◌≡◌, ℕ, ◌+◌, Bool, true, false, List, Result, Ok, Err, refl, ◌∙◌}
use Rattle.std.specs.Prelude.{nat_le}
use Rattle.std.specs.FinMap as finite
use Rattle.ztree.specs.Tree.{Tree, Path, with_next_zxid}
use Rattle.ztree.specs.Sessions.{with_session, with_renewed_session, without_session}
use Rattle.zcalls.specs.declared.call.Update.{Update}
use Rattle.zcalls.specs.declared.call.Update.TheVariants.{Create, Delete, SetData, SetAcl, Multi, Open, Ping, Close, Tick}
use Rattle.zcalls.specs.declared.change.Change.TheVariants as change
use Rattle.zcalls.specs.declared.change.ChangeReply.{ChangeReply}
use Rattle.zcalls.specs.declared.refusal.Refusal.{Refusal}
use Rattle.zcalls.specs.declared.refusal.Refusal.TheVariants.{SessionGone, TooManySessions, Exhausted}
use Rattle.zcalls.specs.declared.reply.Reply.{Reply}
use Rattle.zcalls.specs.declared.reply.Reply.TheVariants as reply
use Rattle.zcalls.specs.Part.{create_step, delete_step, set_step, acl_step, is_gone}
use Rattle.zcalls.specs.Multi.{Run, run}
use Rattle.zcalls.specs.Step.{step, update_result, change_result, multi_result, granted_timeout, tick_result, after_tick, is_busy, is_exhausted, due_next, stale_next}
use Rattle.zcalls.specs.Laws.{LimitsStay}
use Rattle.zcalls.specs.support.Alone.{ChangesNodesAlone}
use Rattle.zcalls.proofs.Leaving.{Leaves}
use Rattle.zcalls.proofs.NodesAlone.{change-alone, acl-alone, run-alone}
use Rattle.zcalls.proofs.Ends.{ended-ends}
use Rattle.zcalls.proofs.Ticks.{gone-ends, counted-limits}
use Rattle.zcalls.proofs.Sessions.{or_refused}

module _ (t : Tree) where
  -- the tree has the limits of that before the call
  abbrev Has : Tree → Type 0
  Has u = u.limits ≡ t.limits

  either : (u : Tree) (why : Refusal) (did : Reply) (b : Bool) → Has u → Has (or_refused t why (u, did) b).0
  either u why did true same = refl
  either u why did false same = same

  alone-limits : (did : Result (Tree × ChangeReply) Refusal) → Leaves (ChangesNodesAlone t) did → Has (change_result t did).0
  alone-limits (Err refusal) left = refl
  alone-limits (Ok (u, done)) left = left.limits

  together-limits : (did : Run) → Leaves (ChangesNodesAlone t) did → Has (multi_result t did).0
  together-limits (Err (number, refusal)) left = refl
  together-limits (Ok (u, replies)) left = left.limits

  ticked-limits : (ids : List ℕ) (paths : List Path) → Has (tick_result t ids paths).0
  ticked-limits ids paths = counted-limits (is_busy ids paths) (after_tick t ids paths) ∙ (gone-ends ids paths t).limits

  changed-limits : (client : ℕ) (update : Update) → Has (update_result t client update).0
  changed-limits client (Create create) = alone-limits (create_step t client create) (change-alone t client (change.Create create))
  changed-limits client (Delete delete) = alone-limits (delete_step t delete) (change-alone t client (change.Delete delete))
  changed-limits client (SetData set) = alone-limits (set_step t set) (change-alone t client (change.SetData set))
  changed-limits client (SetAcl set) = alone-limits (acl_step t set) (acl-alone t set)
  changed-limits client (Multi parts) = together-limits (run t client parts) (run-alone parts t client)
  changed-limits client (Open ticks) =
      let timeout = granted_timeout t.limits.timeout ticks in
      either (with_next_zxid (with_session t client timeout)) TooManySessions (reply.Opened (t.zxid + 1) timeout) (nat_le t.limits.sessions (finite.len t.sessions)) refl
  changed-limits client (Ping session) = either (with_renewed_session t session) SessionGone reply.Pinged (is_gone t.sessions client session) refl
  changed-limits client (Close session) =
      either (with_next_zxid (without_session t session)) SessionGone reply.Closed (is_gone t.sessions client session) (ended-ends t session).limits
  changed-limits client Tick = ticked-limits (due_next t) (stale_next t)

pub limits_stay : LimitsStay
unfolding step
limits_stay t client update = by (is_exhausted t update)
  where
    by : (b : Bool) → Has t (or_refused t Exhausted (update_result t client update) b).0
    by true = refl
    by false = changed-limits t client update
