-- A call takes one zxid where it makes a change, and else none.
use Rattle.std.proofs.Common.{◌≡◌, ℕ, ◌+◌, Bool, true, false, if◌then◌else◌, List, length, Result, Ok, Err, refl, ap, arith}
use Rattle.std.specs.Prelude.{nat_le}
use Rattle.std.specs.FinMap as finite
use Rattle.ztree.specs.Tree.{Tree, with_next_zxid, Path}
use Rattle.ztree.specs.Sessions.{with_session, with_renewed_session, without_session, due_sessions}
use Rattle.zcalls.specs.declared.change.Change.TheVariants as change
use Rattle.zcalls.specs.declared.change.ChangeReply.{ChangeReply}
use Rattle.zcalls.specs.declared.change.ChangeReply.TheVariants.{Created, Deleted, Set}
use Rattle.zcalls.specs.Change.{reply_of}
use Rattle.zcalls.specs.support.Alone.{ChangesNodesAlone}
use Rattle.zcalls.specs.declared.call.Update.{Update}
use Rattle.zcalls.specs.declared.call.Update.TheVariants.{Create, Delete, SetData, SetAcl, Multi, Open, Ping, Close, Tick}
use Rattle.zcalls.specs.declared.refusal.Refusal.{Refusal}
use Rattle.zcalls.specs.declared.refusal.Refusal.TheVariants.{SessionGone, TooManySessions, Exhausted}
use Rattle.zcalls.specs.declared.reply.Reply.{Reply}
use Rattle.zcalls.specs.declared.reply.Reply.TheVariants as reply
use Rattle.zcalls.specs.Part.{create_step, delete_step, set_step, acl_step, is_gone}
use Rattle.zcalls.specs.Multi.{Run, run}
use Rattle.zcalls.specs.Step.{step, update_result, change_result, multi_result, granted_timeout, tick_result, after_tick, counted_if, is_busy, is_exhausted, stale_next}
use Rattle.zcalls.proofs.Ticks.{gone-ends}
use Rattle.zcalls.specs.CallRuns.{is_change, ChangesTakeOneZxid}
use Rattle.zcalls.proofs.NodesAlone.{change-alone, acl-alone, run-alone}
use Rattle.zcalls.proofs.Leaving.{Leaves}
use Rattle.zcalls.proofs.Ends.{ended-ends}

-- what a call did, and how many zxids it took
abbrev Takes : Tree → Tree × Reply → Type 0
Takes t did = did.0.zxid ≡ t.zxid + (if is_change did.1 then 1 else 0)

none : (n : ℕ) → n ≡ n + 0
none n = omega arith

-- an outcome that makes no change
unchanged : (t u : Tree) (reported : Reply) → is_change reported ≡ false → u.zxid ≡ t.zxid → Takes t (u, reported)
unchanged t u reported isnt same = rw (isnt, same) (none t.zxid)

-- one that makes a change
changes : (t u : Tree) (reported : Reply) → is_change reported ≡ true → u.zxid ≡ t.zxid → Takes t (with_next_zxid u, reported)
changes t u reported does same = rw does (ap (λ z. z + 1) same)

-- a choice of two outcomes
either : (t : Tree) (why : Reply) (did : Tree × Reply) (b : Bool) → is_change why ≡ false → Takes t did → Takes t (if b then (t, why) else did)
either t why did true isnt takes = unchanged t t why isnt refl
either t why did false isnt takes = takes

reply_of-changes : (did : ChangeReply) → is_change (reply_of did) ≡ true
reply_of-changes (Created path) = refl
reply_of-changes Deleted = refl
reply_of-changes (Set stat) = refl

alone-takes : (t : Tree) (did : Result (Tree × ChangeReply) Refusal) → Leaves (ChangesNodesAlone t) did → Takes t (change_result t did)
alone-takes t (Err refusal) left = unchanged t t (reply.Refused refusal) refl refl
alone-takes t (Ok (u, did)) left = changes t u (reply_of did) (reply_of-changes did) left.zxid

together-takes : (t : Tree) (did : Run) → Leaves (ChangesNodesAlone t) did → Takes t (multi_result t did)
together-takes t (Err (number, refusal)) left = unchanged t t (reply.MultiRefused number refusal) refl refl
together-takes t (Ok (u, replies)) left = changes t u (reply.Multi replies) refl left.zxid

ticked-takes : (t : Tree) (ids : List ℕ) (paths : List Path) → Takes t (tick_result t ids paths)
ticked-takes t ids paths = by (is_busy ids paths) refl
  where
    by : (b : Bool) → is_busy ids paths ≡ b → Takes t (counted_if b (after_tick t ids paths), reply.Ticked (t.time + 1) (length ids) (length paths))
    by true some = changes t (after_tick t ids paths) (reply.Ticked (t.time + 1) (length ids) (length paths)) some (gone-ends ids paths t).zxid
    by false none = unchanged t (after_tick t ids paths) (reply.Ticked (t.time + 1) (length ids) (length paths)) none (gone-ends ids paths t).zxid

changed-takes : (t : Tree) (client : ℕ) (update : Update) → Takes t (update_result t client update)
changed-takes t client (Create create) = alone-takes t (create_step t client create) (change-alone t client (change.Create create))
changed-takes t client (Delete delete) = alone-takes t (delete_step t delete) (change-alone t client (change.Delete delete))
changed-takes t client (SetData set) = alone-takes t (set_step t set) (change-alone t client (change.SetData set))
changed-takes t client (SetAcl set) = alone-takes t (acl_step t set) (acl-alone t set)
changed-takes t client (Multi parts) = together-takes t (run t client parts) (run-alone parts t client)
changed-takes t client (Open ticks) =
    let timeout = granted_timeout t.limits.timeout ticks in
    either t (reply.Refused TooManySessions) (with_next_zxid (with_session t client timeout), reply.Opened (t.zxid + 1) timeout) (nat_le t.limits.sessions (finite.len t.sessions)) refl
    (changes t (with_session t client timeout) (reply.Opened (t.zxid + 1) timeout) refl refl)
changed-takes t client (Ping session) =
    either t (reply.Refused SessionGone) (with_renewed_session t session, reply.Pinged) (is_gone t.sessions client session) refl (unchanged t (with_renewed_session t session) reply.Pinged refl refl)
changed-takes t client (Close session) =
    either t (reply.Refused SessionGone) (with_next_zxid (without_session t session), reply.Closed) (is_gone t.sessions client session) refl
    (changes t (without_session t session) reply.Closed refl (ended-ends t session).zxid)
changed-takes t client Tick = ticked-takes t (due_sessions t.sessions (t.time + 1)) (stale_next t)

pub changes_take_one_zxid : ChangesTakeOneZxid
unfolding step
changes_take_one_zxid t client update =
    either t (reply.Refused Exhausted) (update_result t client update) (is_exhausted t update) refl (changed-takes t client update)
