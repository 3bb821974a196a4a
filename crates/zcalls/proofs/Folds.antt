-- What is reported on going through the parts of calls, as an invariant together with the tree.
use Rattle.std.proofs.Common.{◌≡◌, ℕ, ◌+◌, Bool, true, false, if◌then◌else◌, List, [], ◌∷◌, ◌++◌, Option, Some, None, Result, Ok, Err, refl, sym, subst}
use Rattle.std.specs.Prelude.{nat_le}
use Rattle.std.specs.FinMap as finite
use Rattle.std.specs.Option.{option_map_or}
use Rattle.zpath.specs.First.{first_that_holds}
use Rattle.ztree.specs.declared.node.Node.{Node}
use Rattle.ztree.specs.declared.node.Stat.{Stat}
use Rattle.ztree.specs.Tree.{Tree, Nodes, Path, with_next_zxid, with_node, without_node, with_data_at, with_data, with_acl_at, stat_of, ephemerals}
use Rattle.ztree.specs.Sessions.{with_session, with_renewed_session, without_nodes, without_session, without_sessions, due_sessions}
use Rattle.zcalls.specs.declared.call.Check.{Check as ToCheck}
use Rattle.zcalls.specs.declared.call.Create.{Create as ToCreate}
use Rattle.zcalls.specs.declared.call.Delete.{Delete as ToDelete}
use Rattle.zcalls.specs.declared.call.SetData.{SetData as ToSet}
use Rattle.zcalls.specs.declared.call.SetAcl.{SetAcl as ToSetAcl}
use Rattle.zcalls.specs.declared.call.Part.{Part}
use Rattle.zcalls.specs.declared.call.Part.TheVariants as part_of
use Rattle.zcalls.specs.declared.call.Update.{Update}
use Rattle.zcalls.specs.declared.call.Update.TheVariants.{Create, Delete, SetData, SetAcl, Multi, Open, Ping, Close, Tick}
use Rattle.zcalls.specs.declared.refusal.Refusal.{Refusal}
use Rattle.zcalls.specs.declared.refusal.Refusal.TheVariants.{BadVersion, SessionGone, TooManySessions, Exhausted}
use Rattle.zcalls.specs.declared.change.ChangeReply.{ChangeReply}
use Rattle.zcalls.specs.declared.change.ChangeReply.TheVariants as change_reply
use Rattle.zcalls.specs.declared.reply.PartReply.{PartReply}
use Rattle.zcalls.specs.declared.reply.PartReply.TheVariants.{Created, Deleted, Set, Checked}
use Rattle.zcalls.specs.declared.reply.Reply.{Reply}
use Rattle.zcalls.specs.declared.reply.Reply.TheVariants as reply
use Rattle.zcalls.specs.Change.{part_reply_of}
use Rattle.zcalls.specs.Part.{create_step, delete_step, set_step, acl_step, check_step, part_step, reported_as_part, create_refusals, delete_refusals, made_path, owner_of, term_of, unless_refused, on_version, has_other_version, with_node_set, is_gone}
use Rattle.zcalls.specs.Multi.{Run, behind, and_then, run}
use Rattle.zcalls.specs.Step.{step, update_result, change_result, multi_result, granted_timeout, tick_result, after_tick, is_busy, is_exhausted, stale_next}
use Rattle.zcalls.proofs.Leaving.{Leaves, acl_step-leaves}
use Rattle.zcalls.proofs.Ticks.{counted-nodes}
use Rattle.zcalls.specs.CallRuns.{after_calls, Done, and_done, parts_done, where_done, update_done, call_done, calls_done, through}

-- What is preserved by the parts that calls do, by each node that goes and by each write of an
-- access control list, is preserved by all calls. A call of a session does no part, and what it
-- takes away goes node by node.
module _ {S : Type 0} (next : S → Part → PartReply → S) (Inv : S → Nodes → Type 0) where
  -- what a part leaves, where it was done
  abbrev pub LeavesDone : S → Part → Result (Tree × PartReply) Refusal → Type 0
  LeavesDone s part (Err refusal) = Unit {0}
  LeavesDone s part (Ok (u, answer)) = Inv (next s part answer) u.nodes

  reported_unless : (s : S) (part : Part) (o : Option Refusal) (did : Tree × ChangeReply)
      → (o ≡ None → Inv (next s part (part_reply_of did.1)) did.0.nodes) → LeavesDone s part (reported_as_part (unless_refused o did))
  reported_unless s part (Some refusal) did left = tt
  reported_unless s part None did left = left refl

  -- what a create, a delete, a set and a check leave
  pub create-leaves : (s : S) (t : Tree) (client : ℕ) (create : ToCreate) → let made = made_path t.nodes create.kind create.path in
      (first_that_holds (create_refusals t client create) ≡ None → Inv (next s (part_of.Create create) (Created made)) (with_node t made create.bytes (owner_of create.kind.lifetime) (term_of create.kind.lifetime) create.kind.is_sequential).nodes)
      → LeavesDone s (part_of.Create create) (part_step t client (part_of.Create create))
  unfolding create_step
  create-leaves s t client create left =
      let made = made_path t.nodes create.kind create.path in
      reported_unless s (part_of.Create create) (first_that_holds (create_refusals t client create)) (with_node t made create.bytes (owner_of create.kind.lifetime) (term_of create.kind.lifetime) create.kind.is_sequential, change_reply.Created made) left

  pub delete-leaves : (s : S) (t : Tree) (client : ℕ) (delete : ToDelete)
      → Inv (next s (part_of.Delete delete) Deleted) (without_node t delete.path).nodes → LeavesDone s (part_of.Delete delete) (part_step t client (part_of.Delete delete))
  unfolding delete_step
  delete-leaves s t client delete left = reported_unless s (part_of.Delete delete) (first_that_holds (delete_refusals t.nodes delete)) (without_node t delete.path, change_reply.Deleted) (λ e. left)

  pub set-leaves : (s : S) (t : Tree) (client : ℕ) (set : ToSet)
      → ((stat : Stat) → Inv (next s (part_of.SetData set) (Set stat)) (with_data_at t set.path set.bytes).nodes) → LeavesDone s (part_of.SetData set) (part_step t client (part_of.SetData set))
  unfolding set_step
  set-leaves s t client set left = by (finite.get t.nodes set.path) refl
    where
      by : (o : Option Node) → finite.get t.nodes set.path ≡ o → LeavesDone s (part_of.SetData set) (reported_as_part (on_version set.version o (λ n. with_node_set t set.path (with_data set.bytes (t.zxid + 1) t.time n))))
      by None e = tt
      by (Some n) e = on (has_other_version set.version n)
        where
          on : (b : Bool) → LeavesDone s (part_of.SetData set) (reported_as_part (if b then Err BadVersion else Ok (with_node_set t set.path (with_data set.bytes (t.zxid + 1) t.time n))))
          on true = tt
          on false =
              let new = with_data set.bytes (t.zxid + 1) t.time n in
              let stat = stat_of (finite.insert t.nodes set.path new) set.path new in
              subst (λ o. Inv (next s (part_of.SetData set) (Set stat)) (option_map_or (λ n. finite.insert t.nodes set.path (with_data set.bytes (t.zxid + 1) t.time n)) o t.nodes)) e (left stat)

  pub check-leaves : (s : S) (t : Tree) (client : ℕ) (check : ToCheck)
      → Inv (next s (part_of.Check check) Checked) t.nodes → LeavesDone s (part_of.Check check) (part_step t client (part_of.Check check))
  unfolding check_step
  check-leaves s t client check left = by (finite.get t.nodes check.path)
    where
      by : (o : Option Node) → LeavesDone s (part_of.Check check) (on_version check.version o (λ n. (t, Checked)))
      by None = tt
      by (Some n) = on (has_other_version check.version n)
        where
          on : (b : Bool) → LeavesDone s (part_of.Check check) (if b then Err BadVersion else Ok (t, Checked))
          on true = tt
          on false = left

  -- what a run leaves, where it was done, after these parts
  abbrev RunLeaves : S → List Done → Run → Type 0
  RunLeaves s done (Err stopped) = Unit {0}
  RunLeaves s done (Ok (u, replies)) = Inv (through next s done) u.nodes

  through-append : (s : S) (first second : List Done) → through next s (first ++ second) ≡ through next (through next s first) second
  through-append s [] second = refl
  through-append s (done ∷ first) second = through-append (next s done.0 done.1) first second

  module _ (keeps : (s : S) (t : Tree) (client : ℕ) (part : Part) → Inv s t.nodes → LeavesDone s part (part_step t client part)) (drops : (s : S) (t : Tree) (path : Path) → Inv s t.nodes → Inv s (without_node t path).nodes)
      (counts : (s : S) (t : Tree) (path : Path) → Inv s t.nodes → Inv s (with_acl_at t path).nodes) where
    single : (s : S) (t : Tree) (part : Part) (did : Result (Tree × ChangeReply) Refusal) → LeavesDone s part (reported_as_part did) → Inv s t.nodes
        → Inv (through next s (and_done part (reported_as_part did) (λ u. []))) (change_result t did).0.nodes
    single s t part (Err refusal) left inv = inv
    single s t part (Ok (u, answer)) left inv = left

    acl-keeps : (s : S) (t : Tree) (set : ToSetAcl) → Inv s t.nodes → Inv s (change_result t (acl_step t set)).0.nodes
    acl-keeps s t set inv = by (acl_step t set) (acl_step-leaves (λ u. Inv s u.nodes) t set (counts s t set.path inv))
      where
        by : (did : Result (Tree × ChangeReply) Refusal) → Leaves (λ u. Inv s u.nodes) did → Inv s (change_result t did).0.nodes
        by (Err refusal) left = inv
        by (Ok (u, answer)) left = left

    runs : (parts : List Part) (s : S) (t : Tree) (client : ℕ) → Inv s t.nodes → RunLeaves s (parts_done t client parts) (run t client parts)
    unfolding parts_done run
    runs [] s t client inv = inv
    runs (part ∷ parts) s t client inv =
        by (part_step t client part) (keeps s t client part inv) (λ u answer left. runs parts (next s part answer) u client left)
      where
        by : (did : Result (Tree × PartReply) Refusal) → LeavesDone s part did
            → ((u : Tree) (answer : PartReply) → Inv (next s part answer) u.nodes → RunLeaves (next s part answer) (parts_done u client parts) (run u client parts))
            → RunLeaves s (and_done part did (λ u. parts_done u client parts)) (and_then did (λ u. run u client parts))
        by (Err refusal) left more = tt
        by (Ok (u, answer)) left more = on (run u client parts) (more u answer left)
          where
            on : (did : Run) → RunLeaves (next s part answer) (parts_done u client parts) did → RunLeaves s ((part, answer) ∷ parts_done u client parts) (behind answer did)
            on (Err (number, refusal)) h = tt
            on (Ok (v, all)) h = h

    several : (s : S) (t : Tree) (client : ℕ) (parts : List Part) → Inv s t.nodes → Inv (through next s (where_done (run t client parts) (parts_done t client parts))) (multi_result t (run t client parts)).0.nodes
    several s t client parts inv = by (run t client parts) (runs parts s t client inv)
      where
        by : (did : Run) → RunLeaves s (parts_done t client parts) did → Inv (through next s (where_done did (parts_done t client parts))) (multi_result t did).0.nodes
        by (Err (number, refusal)) left = inv
        by (Ok (u, replies)) left = left

    all_dropped-keeps : (paths : List Path) (s : S) (t : Tree) → Inv s t.nodes → Inv s (without_nodes t paths).nodes
    all_dropped-keeps [] s t inv = inv
    all_dropped-keeps (path ∷ paths) s t inv = all_dropped-keeps paths s (without_node t path) (drops s t path inv)

    all_ended-keeps : (ids : List ℕ) (s : S) (t : Tree) → Inv s t.nodes → Inv s (without_sessions t ids).nodes
    all_ended-keeps [] s t inv = inv
    all_ended-keeps (id ∷ ids) s t inv = all_ended-keeps ids s (without_session t id) (all_dropped-keeps (ephemerals t.nodes id) s t inv)

    -- a choice between the tree and what preserves this of its nodes
    either : (s : S) (t : Tree) (why : Reply) (did : Tree × Reply) (b : Bool) → Inv s t.nodes → Inv s did.0.nodes → Inv s (if b then (t, why) else did).0.nodes
    either s t why did true inv left = inv
    either s t why did false inv left = left

    ticks : (s : S) (t : Tree) (ids : List ℕ) (paths : List Path) → Inv s t.nodes → Inv s (tick_result t ids paths).0.nodes
    ticks s t ids paths inv =
        let gone = all_dropped-keeps paths s (without_sessions t ids) (all_ended-keeps ids s t inv) in
        subst (Inv s) (sym (counted-nodes (is_busy ids paths) (after_tick t ids paths))) gone

    update : (s : S) (t : Tree) (client : ℕ) (u : Update) → Inv s t.nodes → Inv (through next s (update_done t client u)) (update_result t client u).0.nodes
    unfolding parts_done
    update s t client (Create create) inv = single s t (part_of.Create create) (create_step t client create) (keeps s t client (part_of.Create create) inv) inv
    update s t client (Delete delete) inv = single s t (part_of.Delete delete) (delete_step t delete) (keeps s t client (part_of.Delete delete) inv) inv
    update s t client (SetData set) inv = single s t (part_of.SetData set) (set_step t set) (keeps s t client (part_of.SetData set) inv) inv
    update s t client (SetAcl set) inv = acl-keeps s t set inv
    update s t client (Multi parts) inv = several s t client parts inv
    update s t client (Open ticks) inv =
        either s t (reply.Refused TooManySessions) (with_next_zxid (with_session t client (granted_timeout t.limits.timeout ticks)), reply.Opened (t.zxid + 1) (granted_timeout t.limits.timeout ticks)) (nat_le t.limits.sessions (finite.len t.sessions)) inv inv
    update s t client (Ping session) inv = either s t (reply.Refused SessionGone) (with_renewed_session t session, reply.Pinged) (is_gone t.sessions client session) inv inv
    update s t client (Close session) inv =
        either s t (reply.Refused SessionGone) (with_next_zxid (without_session t session), reply.Closed) (is_gone t.sessions client session) inv (all_dropped-keeps (ephemerals t.nodes session) s t inv)
    update s t client Tick inv = ticks s t (due_sessions t.sessions (t.time + 1)) (stale_next t) inv

    call : (s : S) (t : Tree) (client : ℕ) (u : Update) → Inv s t.nodes → Inv (through next s (call_done t client u)) (step t client u).0.nodes
    unfolding step
    call s t client u inv = by (is_exhausted t u)
      where
        by : (b : Bool) → Inv (through next s (if b then [] else update_done t client u)) (if b then (t, reply.Refused Exhausted) else update_result t client u).0.nodes
        by true = inv
        by false = update s t client u inv

    pub kept_by_calls : (calls : List (ℕ × Update)) (s : S) (t : Tree) → Inv s t.nodes → Inv (through next s (calls_done t calls)) (after_calls t calls).nodes
    kept_by_calls [] s t inv = inv
    kept_by_calls (one ∷ calls) s t inv =
        let after = (step t one.0 one.1).0 in
        let done = call_done t one.0 one.1 in
        subst (λ s. Inv s (after_calls after calls).nodes) (sym (through-append s done (calls_done after calls)))
        (kept_by_calls calls (through next s done) after (call s t one.0 one.1 inv))
