-- A session is alive for its timeout.
use Rattle.std.proofs.Common.{◌≡◌, ◌≢◌, ◌⊎◌, inl, inr, ℕ, ◌<◌, ◌≤◌, ◌+◌, Bool, true, false, cond, List, [], ◌∷◌, Option, Some, None, Result, Ok, Err, IsSome, refl, sym, ap, subst, ◌∙◌, arith}
use Rattle.std.specs.Prelude.{is_some, nat_le}
use Rattle.std.specs.Option.{option_map_or, option_and_then}
use Rattle.std.specs.Cmp.{nat_cmp_total}
use Rattle.std.specs.FinMap as finite
use Rattle.std.specs.FinMap.{nat_cmp-IsAntisymmetric}
use Rattle.std.proofs.lemmas.Bool.Decides.{nat_tests}
use Rattle.ztree.specs.declared.session.Session.{Session}
use Rattle.ztree.specs.Tree.{Tree, Sessions, opening_within, with_next_zxid}
use Rattle.ztree.specs.Sessions.{new_session, with_session, renewed_session, with_renewed_session, without_session, due_sessions}
use Rattle.ztree.proofs.Maps.{same_or_other, get-insert-here, get-insert-elsewhere, get-remove-elsewhere}
use Rattle.ztree.proofs.Ending.{sessions-due_ended}
use Rattle.zcalls.specs.declared.change.Change.TheVariants as change
use Rattle.zcalls.specs.declared.change.ChangeReply.{ChangeReply}
use Rattle.zcalls.specs.declared.call.Update.{Update}
use Rattle.zcalls.specs.declared.call.Update.TheVariants.{Create, Delete, SetData, SetAcl, Multi, Open, Ping, Close, Tick}
use Rattle.zcalls.specs.declared.refusal.Refusal.{Refusal}
use Rattle.zcalls.specs.declared.refusal.Refusal.TheVariants.{SessionGone, TooManySessions, Exhausted}
use Rattle.zcalls.specs.declared.reply.Reply.TheVariants as reply
use Rattle.zcalls.specs.Part.{create_step, delete_step, set_step, acl_step, is_gone}
use Rattle.zcalls.specs.Multi.{Run, run}
use Rattle.zcalls.specs.Step.{step, update_result, change_result, multi_result, granted_timeout, tick_result, is_exhausted, stale_next}
use Rattle.zcalls.specs.support.Alone.{ChangesNodesAlone}
use Rattle.zcalls.specs.CallRuns.{after_calls}
use Rattle.zcalls.specs.SessionLaws.{NeverCloses, one_if_tick, ticks_in, if_not_due, LivesItsTimeout}
use Rattle.zcalls.proofs.NodesAlone.{change-alone, acl-alone, run-alone}
use Rattle.zcalls.proofs.Leaving.{Leaves}
use Rattle.zcalls.proofs.Owners.{is_own}
use Rattle.zcalls.proofs.Taking.{changes_take_one_zxid}
use Rattle.zcalls.proofs.Ends.{ended-ends}
use Rattle.zcalls.proofs.Sessions.{or_refused}
use Rattle.zcalls.proofs.Ticks.{ticked-sessions, ticked-time}
use Rattle.zcalls.proofs.LawfulCalls.{after-good}

-- a client's session of that timeout is alive for more than that many ticks yet
record Lives (its span id ticks : ℕ) (sessions : Sessions) (time : ℕ) : Type 0 where
  pub session : Session
  pub there : finite.get sessions id ≡ Some session
  pub client : session.client ≡ its
  pub timeout : session.timeout ≡ span
  pub later : time + ticks < session.deadline

module _ (client timeout id : ℕ) where
  abbrev In : ℕ → Tree → Type 0
  In ticks t = Lives client timeout id ticks t.sessions t.time

  fewer : (m k : ℕ) (t : Tree) → k ≤ m → In m t → In k t
  fewer m k t less is = record { session = is.session; there = is.there; client = is.client; timeout = is.timeout; later = let later = is.later in omega (arith, less, later) }

  -- a change of the nodes alone
  same : (k : ℕ) (t u : Tree) → ChangesNodesAlone t u → In k t → In k u
  same k t u alone is =
      record {
        session = is.session;
        there = ap (λ (m : Sessions). finite.get m id) alone.sessions ∙ is.there;
        client = is.client;
        timeout = is.timeout;
        later = rw alone.time is.later;
      }

  alone-in : (k : ℕ) (t : Tree) (did : Result (Tree × ChangeReply) Refusal) → Leaves (ChangesNodesAlone t) did → In k t → In k (change_result t did).0
  alone-in k t (Err refusal) left is = is
  alone-in k t (Ok (u, done)) left is = let there = same k t u left is in record { session = there.session; there = there.there; client = there.client; timeout = there.timeout; later = there.later }

  together-in : (k : ℕ) (t : Tree) (did : Run) → Leaves (ChangesNodesAlone t) did → In k t → In k (multi_result t did).0
  together-in k t (Err (number, refusal)) left is = is
  together-in k t (Ok (u, replies)) left is = let there = same k t u left is in record { session = there.session; there = there.there; client = there.client; timeout = there.timeout; later = there.later }

  -- another session opened
  opened-in : (k : ℕ) (t : Tree) (other ticks : ℕ) (b : Bool) → id ≢ t.zxid + 1 → In k t → In k (or_refused t TooManySessions (with_next_zxid (with_session t other ticks), reply.Opened (t.zxid + 1) ticks) b).0
  opened-in k t other ticks true another is = is
  opened-in k t other ticks false another is =
      record {
        session = is.session;
        there = get-insert-elsewhere nat_cmp_total nat_cmp-IsAntisymmetric t.sessions (t.zxid + 1) (new_session other ticks t.time) id another ∙ is.there;
        client = is.client;
        timeout = is.timeout;
        later = is.later;
      }

  -- a session that is renewed, this or another
  touched-in : (k : ℕ) (t : Tree) (key : ℕ) (o : Option Session) → finite.get t.sessions key ≡ o → k < timeout → In k t
      → Lives client timeout id k (option_map_or (λ s. finite.insert t.sessions key (renewed_session t.time s)) o t.sessions) t.time
  touched-in k t key None e short is = is
  touched-in k t key (Some x) e short is = by (same_or_other nat_cmp_total nat_cmp-IsAntisymmetric id key)
    where
      by : (id ≡ key) ⊎ (id ≢ key) → Lives client timeout id k (finite.insert t.sessions key (renewed_session t.time x)) t.time
      by (inl is_key) =
          let found : Some x ≡ Some is.session = sym e ∙ ap (finite.get t.sessions) (sym is_key) ∙ is.there in
          let its : x ≡ is.session = cc found in
          let ticks : x.timeout ≡ timeout = ap (λ (s : Session). s.timeout) its ∙ is.timeout in
          record {
            session = renewed_session t.time x;
            there = ap (finite.get (finite.insert t.sessions key (renewed_session t.time x))) is_key ∙ get-insert-here nat_cmp_total nat_cmp-IsAntisymmetric t.sessions key (renewed_session t.time x);
            client = ap (λ (s : Session). s.client) its ∙ is.client;
            timeout = ticks;
            later = omega (arith, short, ticks);
          }
      by (inr other) =
          record {
            session = is.session;
            there = get-insert-elsewhere nat_cmp_total nat_cmp-IsAntisymmetric t.sessions key (renewed_session t.time x) id other ∙ is.there;
            client = is.client;
            timeout = is.timeout;
            later = is.later;
          }

  pinged-in : (k : ℕ) (t : Tree) (key : ℕ) (b : Bool) → k < timeout → In k t → In k (or_refused t SessionGone (with_renewed_session t key, reply.Pinged) b).0
  pinged-in k t key true short is = is
  pinged-in k t key false short is = touched-in k t key (finite.get t.sessions key) refl short is

  -- a session closed, which isn't this by its own client
  closed-in : (k : ℕ) (t : Tree) (caller key : ℕ) (b : Bool) → is_gone t.sessions caller key ≡ b → (caller ≡ client → key ≡ id → ⊥) → In k t → In k (or_refused t SessionGone (with_next_zxid (without_session t key), reply.Closed) b).0
  closed-in k t caller key true gone never is = is
  closed-in k t caller key false gone never is = by (same_or_other nat_cmp_total nat_cmp-IsAntisymmetric id key)
    where
      by : (id ≡ key) ⊎ (id ≢ key) → In k (with_next_zxid (without_session t key))
      by (inl is_key) =
          let own = is_own t.sessions caller key gone in
          let found : Some own.session ≡ Some is.session = sym own.there ∙ ap (finite.get t.sessions) (sym is_key) ∙ is.there in
          let its : own.session ≡ is.session = cc found in
          absurd (never (sym own.own ∙ ap (λ (s : Session). s.client) its ∙ is.client) (sym is_key))
      by (inr other) =
          record {
            session = is.session;
            there = get-remove-elsewhere nat_cmp_total nat_cmp-IsAntisymmetric t.sessions key id other ∙ is.there;
            client = is.client;
            timeout = is.timeout;
            later = rw (ended-ends t key).time is.later;
          }

  not_due : (deadline tick : ℕ) → tick < deadline → nat_le deadline tick ≡ false
  not_due deadline tick later = grind (arith, nat_tests)

  -- a tick that isn't refused
  ticked-in : (k : ℕ) (t : Tree) → In (1 + k) t → In k (tick_result t (due_sessions t.sessions (t.time + 1)) (stale_next t)).0
  ticked-in k t is =
      let ids = due_sessions t.sessions (t.time + 1) in
      let later = is.later in
      let stays = not_due is.session.deadline (t.time + 1) (omega (arith, later)) in
      record {
        session = is.session;
        there = ap (λ (m : Sessions). finite.get m id) (ticked-sessions t ids (stale_next t))
            ∙ sessions-due_ended t (t.time + 1) id
            ∙ ap (option_and_then (if_not_due (t.time + 1))) is.there
            ∙ ap (λ b. cond b None (Some is.session)) stays;
        client = is.client;
        timeout = is.timeout;
        later = rw (ticked-time t ids (stale_next t)) (omega (arith, later));
      }

  tick_counts : (t : Tree) (caller : ℕ) → is_exhausted t Tick ≡ false → one_if_tick t caller Tick ≡ 1
  unfolding step
  tick_counts t caller left = rw left refl

  -- one call, where the session has more ticks left than this call and that many more
  module _ (t : Tree) (caller k : ℕ) (short : k < timeout) (another : id ≢ t.zxid + 1) where
    changed-in : (update : Update) → is_exhausted t update ≡ false → (caller ≡ client → update ≡ Close id → ⊥) → In (one_if_tick t caller update + k) t → In k (update_result t caller update).0
    changed-in (Create create) left never is = alone-in k t (create_step t caller create) (change-alone t caller (change.Create create)) (fewer _ k t (omega arith) is)
    changed-in (Delete delete) left never is = alone-in k t (delete_step t delete) (change-alone t caller (change.Delete delete)) (fewer _ k t (omega arith) is)
    changed-in (SetData set) left never is = alone-in k t (set_step t set) (change-alone t caller (change.SetData set)) (fewer _ k t (omega arith) is)
    changed-in (SetAcl set) left never is = alone-in k t (acl_step t set) (acl-alone t set) (fewer _ k t (omega arith) is)
    changed-in (Multi parts) left never is = together-in k t (run t caller parts) (run-alone parts t caller) (fewer _ k t (omega arith) is)
    changed-in (Open ticks) left never is = opened-in k t caller (granted_timeout t.limits.timeout ticks) (nat_le t.limits.sessions (finite.len t.sessions)) another (fewer _ k t (omega arith) is)
    changed-in (Ping session) left never is = pinged-in k t session (is_gone t.sessions caller session) short (fewer _ k t (omega arith) is)
    changed-in (Close session) left never is =
        closed-in k t caller session (is_gone t.sessions caller session) refl (λ own same. never own (ap Close same)) (fewer _ k t (omega arith) is)
    changed-in Tick left never is = ticked-in k t (subst (λ one. In (one + k) t) (tick_counts t caller left) is)

    step-in : (update : Update) → (caller ≡ client → update ≡ Close id → ⊥) → In (one_if_tick t caller update + k) t → In k (step t caller update).0
    unfolding step
    step-in update never is = by (is_exhausted t update) refl
      where
        by : (b : Bool) → is_exhausted t update ≡ b → In k (or_refused t Exhausted (update_result t caller update) b).0
        by true e = fewer (one_if_tick t caller update + k) k t (omega arith) is
        by false e = changed-in update e never is

  lives : (calls : List (ℕ × Update)) (t : Tree) → id ≤ t.zxid → ticks_in t calls < timeout → NeverCloses client id calls → In (ticks_in t calls) t → IsSome (finite.get (after_calls t calls).sessions id)
  lives [] t old short never is = ap is_some is.there
  lives (call ∷ calls) t old short never is =
      let u = (step t call.0 call.1).0 in
      let k = ticks_in u calls in
      let takes = changes_take_one_zxid t call.0 call.1 in
      lives calls u (omega (arith, old, takes)) (omega (arith, short)) never.1
      (step-in t call.0 k (omega (arith, short)) (λ e. omega (arith, old, e)) call.1 never.0 is)

pub lives_its_timeout : LivesItsTimeout
lives_its_timeout limits allowed before calls id s there fresh never short =
    let t = after_calls (opening_within limits) before in
    let given = ((after-good limits allowed before).1 id s there).before in
    let found : Some fresh.0 ≡ Some s = sym fresh.1 ∙ there in
    let its : fresh.0 ≡ s = cc found in
    let deadline : s.deadline ≡ t.time + s.timeout = ap (λ (x : Session). x.deadline) (sym its) ∙ fresh.2 ∙ ap (λ (x : Session). t.time + x.timeout) its in
    lives s.client s.timeout id calls t given short never
    (record { session = s; there = there; client = refl; timeout = refl; later = omega (arith, short, deadline) })
