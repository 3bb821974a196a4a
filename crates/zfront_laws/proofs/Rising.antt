-- A session that opens has the next zxid as its id, and is one of the tree then. No session ends
-- but by a close or at a tick.
use Rattle.std.proofs.Common.{◌≡◌, ◌⊎◌, inl, inr, ◌∙◌, ℕ, ◌+◌, ◌≤◌, Bool, true, false, List, [], ◌∷◌, Option, None, Some, refl, sym, ap, arith}
use Rattle.std.specs.Prelude.{if◌then◌else◌, is_some, nat_le, ◌||◌}
use Rattle.std.specs.Cmp.{nat_cmp_total}
use Rattle.std.specs.FinMap as finite
use Rattle.std.specs.FinMap.{get, insert, contains_key, nat_cmp-IsAntisymmetric}
use Rattle.std.specs.List.{list_any}
use Rattle.ztree.proofs.Maps.{get-insert-here, has_some}
use Rattle.ztree.specs.declared.session.Session.{Session}
use Rattle.ztree.specs.Sessions.{with_session, new_session}
use Rattle.ztree.specs.Tree.{Tree, with_next_zxid}
use Rattle.zcalls.specs.declared.call.Call.{Call}
use Rattle.zcalls.specs.declared.call.Call.TheVariants.{Update, Query}
use Rattle.zcalls.specs.declared.call.Update.{Update as Act}
use Rattle.zcalls.specs.declared.call.Update.TheVariants.{Open}
use Rattle.zcalls.specs.declared.refusal.Refusal.TheVariants.{Exhausted, TooManySessions}
use Rattle.zcalls.specs.declared.reply.Reply.{Reply}
use Rattle.zcalls.specs.declared.reply.Reply.TheVariants.{Opened, Refused}
use Rattle.zcalls.specs.CallRuns.{is_change}
use Rattle.zcalls.specs.SessionLaws.{IsOwnClose, IsItsTick}
use Rattle.zcalls.specs.Step.{step, is_exhausted, granted_timeout}
use Rattle.zcalls.proofs.Sessions.{ends_only_so}
use Rattle.zcalls.proofs.Taking.{changes_take_one_zxid}
use Rattle.zprotocol.specs.world.PlainTree.{serve}
use Rattle.ztree_service.specs.log.Logs.{tree_after}
use Rattle.zfront.specs.Front.{may_end}

-- ---- what an open gives

abbrev opened_if : Tree → Tree → ℕ → Bool → Bool → Tree × Reply
opened_if t u granted exhausted full =
    if exhausted then (t, Refused Exhausted) else if full then (t, Refused TooManySessions) else (u, Opened (t.zxid + 1) granted)

opens_by : (t u : Tree) (id timeout granted : ℕ) (exhausted full : Bool) → (opened_if t u granted exhausted full).1 ≡ Opened id timeout
    → (id ≡ t.zxid + 1) × ((opened_if t u granted exhausted full).0 ≡ u)
opens_by t u id timeout granted true full is = absurd (cc is)
opens_by t u id timeout granted false true is = absurd (cc is)
opens_by t u id timeout granted false false is =
    let same : t.zxid + 1 ≡ id = cc is in
    (sym same, refl)

-- it is a new one
pub step_opens : (t : Tree) (ticks id timeout : ℕ) → (step t 0 (Open ticks)).1 ≡ Opened id timeout
    → (id ≡ t.zxid + 1) × ((step t 0 (Open ticks)).0 ≡ with_next_zxid (with_session t 0 (granted_timeout t.limits.timeout ticks)))
unfolding step
step_opens t ticks id timeout is =
    opens_by t (with_next_zxid (with_session t 0 (granted_timeout t.limits.timeout ticks))) id timeout (granted_timeout t.limits.timeout ticks)
    (is_exhausted t (Open ticks)) (nat_le t.limits.sessions (finite.len t.sessions)) is

pub new_id : (t : Tree) (ticks id timeout : ℕ) → (step t 0 (Open ticks)).1 ≡ Opened id timeout
    → (id ≡ t.zxid + 1) × (id ≤ (step t 0 (Open ticks)).0.zxid)
new_id t ticks id timeout is =
    let next = changes_take_one_zxid t 0 (Open ticks) ∙ ap (λ r. t.zxid + (if is_change r then 1 else 0)) is in
    let same = (step_opens t ticks id timeout is).0 in
    (same, omega (arith, same, next))

-- and one of the tree
pub step_adds : (t : Tree) (ticks id timeout : ℕ) → (step t 0 (Open ticks)).1 ≡ Opened id timeout
    → contains_key (step t 0 (Open ticks)).0.sessions id ≡ true
step_adds t ticks id timeout is =
    let opens = step_opens t ticks id timeout is in
    let more = new_session 0 (granted_timeout t.limits.timeout ticks) t.time in
    ap (λ (u : Tree). contains_key u.sessions id) opens.1
    ∙ ap (λ n. contains_key (insert t.sessions (t.zxid + 1) more) n) opens.0
    ∙ ap is_some (get-insert-here nat_cmp_total nat_cmp-IsAntisymmetric t.sessions (t.zxid + 1) more)

-- ---- sessions last

closes_one : (id : ℕ) (s : Session) (update : Act) → may_end (Update update) ≡ false → IsOwnClose id s 0 update → ⊥
closes_one id s update none is =
    let clash : true ≡ false = sym (ap (λ u. may_end (Update u)) is.0) ∙ none in
    cc

ticks_one : (t : Tree) (s : Session) (update : Act) → may_end (Update update) ≡ false → IsItsTick t s update → ⊥
ticks_one t s update none is =
    let clash : true ≡ false = sym (ap (λ u. may_end (Update u)) is.0) ∙ none in
    cc

step_lasts : (t : Tree) (update : Act) (id : ℕ) → may_end (Update update) ≡ false → contains_key t.sessions id ≡ true
    → contains_key (step t 0 update).0.sessions id ≡ true
step_lasts t update id none has = by (get (step t 0 update).0.sessions id) refl
  where
    s : (s : Session) × (get t.sessions id ≡ Some s)
    s = has_some (get t.sessions id) has

    ends : IsOwnClose id s.0 0 update ⊎ IsItsTick t s.0 update → ⊥
    ends (inl closed) = closes_one id s.0 update none closed
    ends (inr ticked) = ticks_one t s.0 update none ticked

    by : (o : Option Session) → get (step t 0 update).0.sessions id ≡ o → contains_key (step t 0 update).0.sessions id ≡ true
    by None gone = absurd (ends (ends_only_so t 0 update id s.0 s.1 gone))
    by (Some left) there = ap is_some there

serve_lasts : (t : Tree) (call : Call) (id : ℕ) → may_end call ≡ false → contains_key t.sessions id ≡ true
    → contains_key (serve t 0 call).0.sessions id ≡ true
serve_lasts t (Update update) id none has = step_lasts t update id none has
serve_lasts t (Query query) id none has = has

neither : (a b : Bool) → a || b ≡ false → (a ≡ false) × (b ≡ false)
neither true b is = absurd (cc is)
neither false b is = (refl, is)

-- calls none of which may end a session
pub sessions_last : (calls : List Call) (t : Tree) (id : ℕ) → list_any may_end calls ≡ false → contains_key t.sessions id ≡ true
    → contains_key (tree_after t calls).sessions id ≡ true
sessions_last [] t id none has = has
sessions_last (call ∷ calls) t id none has =
    let both = neither (may_end call) (list_any may_end calls) none in
    sessions_last calls (serve t 0 call).0 id both.1 (serve_lasts t call id both.0 has)
