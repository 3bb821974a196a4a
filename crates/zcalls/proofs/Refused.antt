-- A refused call leaves the tree.
use Rattle.std.proofs.Common.{◌≡◌, ℕ, ◌+◌, Bool, true, false, if◌then◌else◌, List, Option, Some, None, Result, Ok, Err, length, refl, sym, ap, ◌∙◌}
use Rattle.std.specs.Prelude.{nat_le}
use Rattle.std.specs.FinMap as finite
use Rattle.ztree.specs.Tree.{Tree, children, stat_of, with_next_zxid, Path}
use Rattle.ztree.specs.Sessions.{with_session, with_renewed_session, without_session, due_sessions}
use Rattle.ztree.specs.declared.node.Node.{Node}
use Rattle.ztree.specs.declared.node.Stat.{Stat}
use Rattle.zcalls.specs.declared.call.Update.{Update}
use Rattle.zcalls.specs.declared.call.Update.TheVariants.{Create, Delete, SetData, SetAcl, Multi, Open, Ping, Close, Tick}
use Rattle.zcalls.specs.declared.refusal.Refusal.{Refusal}
use Rattle.zcalls.specs.declared.refusal.Refusal.TheVariants.{SessionGone, TooManySessions, Exhausted}
use Rattle.zcalls.specs.declared.change.ChangeReply.{ChangeReply}
use Rattle.zcalls.specs.declared.change.ChangeReply.TheVariants.{Created, Deleted, Set}
use Rattle.zcalls.specs.Change.{reply_of}
use Rattle.zcalls.specs.declared.reply.Reply.{Reply}
use Rattle.zcalls.specs.declared.reply.Reply.TheVariants as reply
use Rattle.zcalls.specs.Part.{create_step, delete_step, set_step, acl_step, is_gone}
use Rattle.zcalls.specs.Multi.{Run, run}
use Rattle.zcalls.specs.Step.{step, query_reply, update_result, change_result, multi_result, granted_timeout, open_result, session_result, tick_result, is_exhausted, stale_next, on_node}
use Rattle.zcalls.specs.Laws.{RefusedChangesNothing, RefusedMultiChangesNothing, CountsTheNames}

-- no change that was done answers a refusal
done_is_not_refused : (did : ChangeReply) (refusal : Refusal) → reply_of did ≡ reply.Refused refusal → ⊥
done_is_not_refused (Created path) refusal e = cc
done_is_not_refused Deleted refusal e = cc
done_is_not_refused (Set stat) refusal e = cc

done_is_no_multi : (did : ChangeReply) (number : ℕ) (refusal : Refusal) → reply_of did ≡ reply.MultiRefused number refusal → ⊥
done_is_no_multi (Created path) number refusal e = cc
done_is_no_multi Deleted number refusal e = cc
done_is_no_multi (Set stat) number refusal e = cc

alone-refused : (t : Tree) (did : Result (Tree × ChangeReply) Refusal) (refusal : Refusal) → (change_result t did).1 ≡ reply.Refused refusal → (change_result t did).0 ≡ t
alone-refused t (Err why) refusal e = refl
alone-refused t (Ok (u, did)) refusal e = absurd (done_is_not_refused did refusal e)

alone-no_multi : (t : Tree) (did : Result (Tree × ChangeReply) Refusal) (number : ℕ) (refusal : Refusal) → (change_result t did).1 ≡ reply.MultiRefused number refusal → (change_result t did).0 ≡ t
alone-no_multi t (Err why) number refusal e = refl
alone-no_multi t (Ok (u, did)) number refusal e = absurd (done_is_no_multi did number refusal e)

together-refused : (t : Tree) (did : Run) (refusal : Refusal) → (multi_result t did).1 ≡ reply.Refused refusal → (multi_result t did).0 ≡ t
together-refused t (Err (number, why)) refusal e = refl
together-refused t (Ok (u, replies)) refusal e = cc

together-no_multi : (t : Tree) (did : Run) (number : ℕ) (refusal : Refusal) → (multi_result t did).1 ≡ reply.MultiRefused number refusal → (multi_result t did).0 ≡ t
together-no_multi t (Err (n, why)) number refusal e = refl
together-no_multi t (Ok (u, replies)) number refusal e = cc

-- what is shown of a reply and a tree, where the tree stays for a refusal
refused_or : (t : Tree) (why : Refusal) (did : Tree × Reply) (P : Tree × Reply → Type 0) → P (t, reply.Refused why) → P did → (b : Bool) → P (if b then (t, reply.Refused why) else did)
refused_or t why did P refused done true = refused
refused_or t why did P refused done false = done

with_session-refused : (t : Tree) (client timeout : ℕ) (refusal : Refusal) → (open_result t client timeout).1 ≡ reply.Refused refusal → (open_result t client timeout).0 ≡ t
with_session-refused t client timeout refusal =
    refused_or t TooManySessions (with_next_zxid (with_session t client timeout), reply.Opened (t.zxid + 1) timeout)
    (λ did. did.1 ≡ reply.Refused refusal → did.0 ≡ t) (λ e. refl) (λ e. cc) (nat_le t.limits.sessions (finite.len t.sessions))

with_session-no_multi : (t : Tree) (client timeout number : ℕ) (refusal : Refusal) → (open_result t client timeout).1 ≡ reply.MultiRefused number refusal → ⊥
with_session-no_multi t client timeout number refusal =
    refused_or t TooManySessions (with_next_zxid (with_session t client timeout), reply.Opened (t.zxid + 1) timeout)
    (λ did. did.1 ≡ reply.MultiRefused number refusal → ⊥) (λ e. cc) (λ e. cc) (nat_le t.limits.sessions (finite.len t.sessions))

on_session-refused : (t : Tree) (client session : ℕ) (did : Tree × Reply) (refusal : Refusal) → (did.1 ≡ reply.Refused refusal → ⊥) → (session_result t client session did).1 ≡ reply.Refused refusal → (session_result t client session did).0 ≡ t
on_session-refused t client session did refusal isnt =
    refused_or t SessionGone did (λ did. did.1 ≡ reply.Refused refusal → did.0 ≡ t) (λ e. refl) (λ e. absurd (isnt e)) (is_gone t.sessions client session)

on_session-no_multi : (t : Tree) (client session : ℕ) (did : Tree × Reply) (number : ℕ) (refusal : Refusal) → (did.1 ≡ reply.MultiRefused number refusal → ⊥) → (session_result t client session did).1 ≡ reply.MultiRefused number refusal → ⊥
on_session-no_multi t client session did number refusal isnt =
    refused_or t SessionGone did (λ did. did.1 ≡ reply.MultiRefused number refusal → ⊥) (λ e. cc) isnt (is_gone t.sessions client session)

tick_is_not_refused : (t : Tree) (ids : List ℕ) (paths : List Path) (refusal : Refusal) → (tick_result t ids paths).1 ≡ reply.Refused refusal → ⊥
tick_is_not_refused t ids paths refusal e = cc

tick_is_no_multi : (t : Tree) (ids : List ℕ) (paths : List Path) (number : ℕ) (refusal : Refusal) → (tick_result t ids paths).1 ≡ reply.MultiRefused number refusal → ⊥
tick_is_no_multi t ids paths number refusal e = cc

changed-refused : (t : Tree) (client : ℕ) (update : Update) (refusal : Refusal) → (update_result t client update).1 ≡ reply.Refused refusal → (update_result t client update).0 ≡ t
changed-refused t client (Create create) refusal e = alone-refused t (create_step t client create) refusal e
changed-refused t client (Delete delete) refusal e = alone-refused t (delete_step t delete) refusal e
changed-refused t client (SetData set) refusal e = alone-refused t (set_step t set) refusal e
changed-refused t client (SetAcl set) refusal e = alone-refused t (acl_step t set) refusal e
changed-refused t client (Multi parts) refusal e = together-refused t (run t client parts) refusal e
changed-refused t client (Open ticks) refusal e = with_session-refused t client (granted_timeout t.limits.timeout ticks) refusal e
changed-refused t client (Ping session) refusal e = on_session-refused t client session (with_renewed_session t session, reply.Pinged) refusal (λ e. cc) e
changed-refused t client (Close session) refusal e = on_session-refused t client session (with_next_zxid (without_session t session), reply.Closed) refusal (λ e. cc) e
changed-refused t client Tick refusal e = absurd (tick_is_not_refused t (due_sessions t.sessions (t.time + 1)) (stale_next t) refusal e)

changed-no_multi : (t : Tree) (client : ℕ) (update : Update) (number : ℕ) (refusal : Refusal) → (update_result t client update).1 ≡ reply.MultiRefused number refusal → (update_result t client update).0 ≡ t
changed-no_multi t client (Create create) number refusal e = alone-no_multi t (create_step t client create) number refusal e
changed-no_multi t client (Delete delete) number refusal e = alone-no_multi t (delete_step t delete) number refusal e
changed-no_multi t client (SetData set) number refusal e = alone-no_multi t (set_step t set) number refusal e
changed-no_multi t client (SetAcl set) number refusal e = alone-no_multi t (acl_step t set) number refusal e
changed-no_multi t client (Multi parts) number refusal e = together-no_multi t (run t client parts) number refusal e
changed-no_multi t client (Open ticks) number refusal e = absurd (with_session-no_multi t client (granted_timeout t.limits.timeout ticks) number refusal e)
changed-no_multi t client (Ping session) number refusal e = absurd (on_session-no_multi t client session (with_renewed_session t session, reply.Pinged) number refusal (λ e. cc) e)
changed-no_multi t client (Close session) number refusal e = absurd (on_session-no_multi t client session (with_next_zxid (without_session t session), reply.Closed) number refusal (λ e. cc) e)
changed-no_multi t client Tick number refusal e = absurd (tick_is_no_multi t (due_sessions t.sessions (t.time + 1)) (stale_next t) number refusal e)

pub refused_changes_nothing : RefusedChangesNothing
unfolding step
refused_changes_nothing t client update refusal =
    refused_or t Exhausted (update_result t client update) (λ did. did.1 ≡ reply.Refused refusal → did.0 ≡ t) (λ e. refl) (changed-refused t client update refusal) (is_exhausted t update)

pub refused_multi_changes_nothing : RefusedMultiChangesNothing
unfolding step
refused_multi_changes_nothing t client update number refusal =
    refused_or t Exhausted (update_result t client update) (λ did. did.1 ≡ reply.MultiRefused number refusal → did.0 ≡ t) (λ e. refl) (changed-no_multi t client update number refusal) (is_exhausted t update)

pub counts_the_names : CountsTheNames
unfolding query_reply
counts_the_names t path stat names = by (finite.get t.nodes path)
  where
    by : (o : Option Node) → on_node o (λ n. reply.Exists (stat_of t.nodes path n)) ≡ reply.Exists stat → on_node o (λ n. reply.Children (children t.nodes path)) ≡ reply.Children names → stat.children ≡ length names
    by None reported listed = cc
    by (Some n) reported listed =
        let is_stat : stat_of t.nodes path n ≡ stat = cc reported in
        let is_names : children t.nodes path ≡ names = cc listed in
        sym (ap (λ (s : Stat). s.children) is_stat) ∙ ap length is_names
