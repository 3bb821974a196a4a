-- How sessions begin and end.
use Rattle.std.proofs.Common.{◌≡◌, ◌≢◌, ◌⊎◌, inl, inr, ℕ, ◌≤◌, ◌+◌, Bool, true, false, cond, if◌then◌else◌, Option, Some, None, Result, Ok, Err, refl, sym, ap, ◌∙◌, arith}
use Rattle.std.specs.Prelude.{nat_le}
use Rattle.std.specs.Option.{option_map_or, option_and_then}
use Rattle.std.specs.Cmp.{nat_cmp_total}
use Rattle.std.specs.FinMap as finite
use Rattle.std.specs.FinMap.{nat_cmp-IsAntisymmetric}
use Rattle.std.proofs.lemmas.Bool.Decides.{nat_tests}
use Rattle.ztree.specs.declared.session.Session.{Session}
use Rattle.ztree.specs.Tree.{Tree, Sessions, with_next_zxid}
use Rattle.ztree.specs.Sessions.{new_session, with_session, renewed_session, with_renewed_session, without_session, due_sessions}
use Rattle.ztree.proofs.Maps.{none_some, same_or_other, get-insert-here, get-insert-elsewhere, get-remove-elsewhere}
use Rattle.ztree.proofs.Ending.{sessions-due_ended}
use Rattle.zcalls.specs.declared.change.Change.TheVariants as change
use Rattle.zcalls.specs.declared.change.ChangeReply.{ChangeReply}
use Rattle.zcalls.specs.declared.call.Update.{Update}
use Rattle.zcalls.specs.declared.call.Update.TheVariants.{Create, Delete, SetData, SetAcl, Multi, Open, Ping, Close, Tick}
use Rattle.zcalls.specs.declared.refusal.Refusal.{Refusal}
use Rattle.zcalls.specs.declared.refusal.Refusal.TheVariants.{SessionGone, TooManySessions, Exhausted}
use Rattle.zcalls.specs.declared.reply.Reply.{Reply}
use Rattle.zcalls.specs.declared.reply.Reply.TheVariants as reply
use Rattle.zcalls.specs.Part.{create_step, delete_step, set_step, acl_step, is_gone}
use Rattle.zcalls.specs.Multi.{Run, run}
use Rattle.zcalls.specs.Step.{step, update_result, change_result, multi_result, granted_timeout, open_result, tick_result, is_exhausted, stale_next}
use Rattle.zcalls.proofs.Ticks.{ticked-sessions}
use Rattle.zcalls.specs.SessionLaws.{IsOwnClose, IsItsTick, EndsOnlySo, if_not_due, TickEndsTheDue, IsFresh, OpenAndPingRenew}
use Rattle.zcalls.specs.support.Alone.{ChangesNodesAlone}
use Rattle.zcalls.proofs.NodesAlone.{change-alone, acl-alone, run-alone}
use Rattle.zcalls.proofs.Leaving.{Leaves}
use Rattle.zcalls.proofs.Owners.{is_own}

-- a call that is refused where a test holds
abbrev pub or_refused : Tree → Refusal → Tree × Reply → Bool → Tree × Reply
or_refused t why did b = if b then (t, reply.Refused why) else did

-- a call of one part, and a multi, leave the sessions
pub alone-sessions : (t : Tree) (did : Result (Tree × ChangeReply) Refusal) → Leaves (ChangesNodesAlone t) did → (change_result t did).0.sessions ≡ t.sessions
alone-sessions t (Err refusal) left = refl
alone-sessions t (Ok (u, done)) left = left.sessions

pub together-sessions : (t : Tree) (did : Run) → Leaves (ChangesNodesAlone t) did → (multi_result t did).0.sessions ≡ t.sessions
together-sessions t (Err (number, refusal)) left = refl
together-sessions t (Ok (u, replies)) left = left.sessions

pub tick_ends_the_due : TickEndsTheDue
unfolding step
tick_ends_the_due t client left = rw left (
  λ id. ap (λ (sessions : Sessions). finite.get sessions id) (ticked-sessions t (due_sessions t.sessions (t.time + 1)) (stale_next t)) ∙ sessions-due_ended t (t.time + 1) id,
  refl,
)

module _ (t : Tree) (client id : ℕ) (s : Session) (there : finite.get t.sessions id ≡ Some s) where
  -- how this session can end by an update
  abbrev Ends : Update → Type 0
  Ends update = IsOwnClose id s client update ⊎ IsItsTick t s update

  -- where it is still there, it didn't end
  not_ended : (sessions : Sessions) → sessions ≡ t.sessions → finite.get sessions id ≡ None → ⊥
  not_ended sessions same gone = none_some s (sym gone ∙ ap (λ (m : Sessions). finite.get m id) same ∙ there)

  put-stays : (key : ℕ) (new : Session) → finite.get (finite.insert t.sessions key new) id ≡ None → ⊥
  put-stays key new gone = by (same_or_other nat_cmp_total nat_cmp-IsAntisymmetric id key)
    where
      by : (id ≡ key) ⊎ (id ≢ key) → ⊥
      by (inl is) = none_some new (sym gone ∙ ap (finite.get (finite.insert t.sessions key new)) is ∙ get-insert-here nat_cmp_total nat_cmp-IsAntisymmetric t.sessions key new)
      by (inr other) = none_some s (sym gone ∙ get-insert-elsewhere nat_cmp_total nat_cmp-IsAntisymmetric t.sessions key new id other ∙ there)

  opened-ends : (timeout : ℕ) (update : Update) (b : Bool) → finite.get (or_refused t TooManySessions (with_next_zxid (with_session t client timeout), reply.Opened (t.zxid + 1) timeout) b).0.sessions id ≡ None → Ends update
  opened-ends timeout update true gone = absurd (not_ended t.sessions refl gone)
  opened-ends timeout update false gone = absurd (put-stays (t.zxid + 1) (new_session client timeout t.time) gone)

  touched-ends : (key : ℕ) (update : Update) (o : Option Session) → finite.get (option_map_or (λ s. finite.insert t.sessions key (renewed_session t.time s)) o t.sessions) id ≡ None → Ends update
  touched-ends key update None gone = absurd (not_ended t.sessions refl gone)
  touched-ends key update (Some x) gone = absurd (put-stays key (renewed_session t.time x) gone)

  pinged-ends : (key : ℕ) (update : Update) (b : Bool) → finite.get (or_refused t SessionGone (with_renewed_session t key, reply.Pinged) b).0.sessions id ≡ None → Ends update
  pinged-ends key update true gone = absurd (not_ended t.sessions refl gone)
  pinged-ends key update false gone = touched-ends key update (finite.get t.sessions key) gone

  closed-ends : (key : ℕ) (b : Bool) → is_gone t.sessions client key ≡ b → finite.get (or_refused t SessionGone (with_next_zxid (without_session t key), reply.Closed) b).0.sessions id ≡ None → Ends (Close key)
  closed-ends key true is gone = absurd (not_ended t.sessions refl gone)
  closed-ends key false is gone = by (same_or_other nat_cmp_total nat_cmp-IsAntisymmetric id key)
    where
      by : (id ≡ key) ⊎ (id ≢ key) → Ends (Close key)
      by (inl same) =
          let own = is_own t.sessions client key is in
          let found : Some own.session ≡ Some s = sym own.there ∙ ap (finite.get t.sessions) (sym same) ∙ there in
          let its : own.session ≡ s = cc found in
          inl (ap Close (sym same), sym own.own ∙ ap (λ (x : Session). x.client) its)
      by (inr other) = absurd (none_some s (sym gone ∙ get-remove-elsewhere nat_cmp_total nat_cmp-IsAntisymmetric t.sessions key id other ∙ there))

  is_due : (tick : ℕ) (b : Bool) → nat_le s.deadline tick ≡ b → cond b None (Some s) ≡ None → s.deadline ≤ tick
  is_due tick true is gone = grind (arith, nat_tests)
  is_due tick false is gone = cc

  ticked-ends : is_exhausted t Tick ≡ false → finite.get (tick_result t (due_sessions t.sessions (t.time + 1)) (stale_next t)).0.sessions id ≡ None → Ends Tick
  ticked-ends left gone =
      let reported = sym (ap (option_and_then (if_not_due (t.time + 1))) there)
      ∙ sym (sessions-due_ended t (t.time + 1) id)
      ∙ ap (λ (sessions : Sessions). finite.get sessions id) (sym (ticked-sessions t (due_sessions t.sessions (t.time + 1)) (stale_next t)))
      ∙ gone in
      inr (refl, left, is_due (t.time + 1) (nat_le s.deadline (t.time + 1)) refl reported)

  changed-ends : (update : Update) → is_exhausted t update ≡ false → finite.get (update_result t client update).0.sessions id ≡ None → Ends update
  changed-ends (Create create) left gone = absurd (not_ended _ (alone-sessions t (create_step t client create) (change-alone t client (change.Create create))) gone)
  changed-ends (Delete delete) left gone = absurd (not_ended _ (alone-sessions t (delete_step t delete) (change-alone t client (change.Delete delete))) gone)
  changed-ends (SetData set) left gone = absurd (not_ended _ (alone-sessions t (set_step t set) (change-alone t client (change.SetData set))) gone)
  changed-ends (SetAcl set) left gone = absurd (not_ended _ (alone-sessions t (acl_step t set) (acl-alone t set)) gone)
  changed-ends (Multi parts) left gone = absurd (not_ended _ (together-sessions t (run t client parts) (run-alone parts t client)) gone)
  changed-ends (Open ticks) left gone = opened-ends (granted_timeout t.limits.timeout ticks) (Open ticks) (nat_le t.limits.sessions (finite.len t.sessions)) gone
  changed-ends (Ping session) left gone = pinged-ends session (Ping session) (is_gone t.sessions client session) gone
  changed-ends (Close session) left gone = closed-ends session (is_gone t.sessions client session) refl gone
  changed-ends Tick left gone = ticked-ends left gone

  step-ends : (update : Update) (b : Bool) → is_exhausted t update ≡ b → finite.get (or_refused t Exhausted (update_result t client update) b).0.sessions id ≡ None → Ends update
  step-ends update true is gone = absurd (not_ended t.sessions refl gone)
  step-ends update false is gone = changed-ends update is gone

pub ends_only_so : EndsOnlySo
unfolding step
ends_only_so t client update id s there gone = step-ends t client id s there update (is_exhausted t update) refl gone

-- a session that was opened is fresh
opened-fresh : (t : Tree) (client timeout id reported : ℕ) (b : Bool) → (or_refused t TooManySessions (with_next_zxid (with_session t client timeout), reply.Opened (t.zxid + 1) timeout) b).1 ≡ reply.Opened id reported → IsFresh (or_refused t TooManySessions (with_next_zxid (with_session t client timeout), reply.Opened (t.zxid + 1) timeout) b).0 id
opened-fresh t client timeout id reported true e = cc
opened-fresh t client timeout id reported false e =
    let new = new_session client timeout t.time in
    let is : t.zxid + 1 ≡ id = cc e in
    (new, ap (finite.get (finite.insert t.sessions (t.zxid + 1) new)) (sym is) ∙ get-insert-here nat_cmp_total nat_cmp-IsAntisymmetric t.sessions (t.zxid + 1) new, refl)

-- and so is one that is renewed
touched-fresh : (t : Tree) (id : ℕ) (s : Session) → finite.get t.sessions id ≡ Some s → IsFresh (with_renewed_session t id) id
touched-fresh t id s there =
    let new = renewed_session t.time s in
    (new, ap (λ o. finite.get (option_map_or (λ s. finite.insert t.sessions id (renewed_session t.time s)) o t.sessions) id) there ∙ get-insert-here nat_cmp_total nat_cmp-IsAntisymmetric t.sessions id new, refl)

pinged-fresh : (t : Tree) (client id : ℕ) (b : Bool) → is_gone t.sessions client id ≡ b → (or_refused t SessionGone (with_renewed_session t id, reply.Pinged) b).1 ≡ reply.Pinged → IsFresh (or_refused t SessionGone (with_renewed_session t id, reply.Pinged) b).0 id
pinged-fresh t client id true is e = cc
pinged-fresh t client id false is e = let own = is_own t.sessions client id is in touched-fresh t id own.session own.there

or_exhausted : (t : Tree) (did : Tree × Reply) (id : ℕ) (reported : Reply) (b : Bool) → (reply.Refused Exhausted ≡ reported → ⊥) → (did.1 ≡ reported → IsFresh did.0 id) → (or_refused t Exhausted did b).1 ≡ reported → IsFresh (or_refused t Exhausted did b).0 id
or_exhausted t did id reported true isnt fresh e = absurd (isnt e)
or_exhausted t did id reported false isnt fresh e = fresh e

pub open_and_ping_renew : OpenAndPingRenew
unfolding step
open_and_ping_renew t client ticks id timeout = (
  or_exhausted t (open_result t client (granted_timeout t.limits.timeout ticks)) id (reply.Opened id timeout) (is_exhausted t (Open ticks)) (λ e. cc)
      (opened-fresh t client (granted_timeout t.limits.timeout ticks) id timeout (nat_le t.limits.sessions (finite.len t.sessions))),
  pinged-fresh t client id (is_gone t.sessions client id) refl,
)
