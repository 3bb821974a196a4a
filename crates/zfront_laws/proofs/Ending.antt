-- Which sessions calls end: those that they might end, from the tree before them.
use Rattle.std.proofs.Common.{◌≡◌, ◌≢◌, ◌∙◌, ◌+◌, ◌<◌, ◌≤◌, ℕ, Bool, true, false, List, [], ◌∷◌, ◌++◌, Option, None, Some, refl, sym, ap, subst, inl, inr, arith}
use Rattle.std.proofs.Math.Bool.{or-true}
use mathlib.Core.Bool.{true≢false}
use Rattle.std.specs.Prelude.{◌⊎◌, ◌||◌, is_some, map, nat_le, if◌then◌else◌}
use Rattle.std.specs.Cmp.{nat_cmp_total}
use Rattle.std.specs.FinMap.{get, insert, contains_key, nat_cmp-IsAntisymmetric}
use Rattle.std.specs.List.{AllByRecursion, list_any}
use Rattle.std.specs.Option.{option_map_or}
use Rattle.std.specs.Ordering.{eq_by_cmp, nat_cmp}
use Rattle.std.proofs.lemmas.Bool.Decides.{nat_tests}
use Rattle.std.proofs.lemmas.List.Folds.{list_any-append}
use Rattle.ztree.proofs.Ending.{among_entries}
use Rattle.ztree.proofs.Maps.{get-inserted, has_some, tied}
use Rattle.ztree.specs.declared.session.Session.{Session}
use Rattle.ztree.specs.Sessions.{renewed_session, with_renewed_session}
use Rattle.ztree.specs.Tree.{Tree}
use Rattle.zcalls.specs.declared.call.Call.{Call}
use Rattle.zcalls.specs.declared.call.Call.TheVariants.{Update, Query}
use Rattle.zcalls.specs.declared.call.Update.TheVariants.{Ping, Tick}
use Rattle.zcalls.specs.declared.refusal.Refusal.TheVariants.{SessionGone}
use Rattle.zcalls.specs.declared.reply.Reply.{Reply}
use Rattle.zcalls.specs.declared.reply.Reply.TheVariants as reply
use Rattle.zcalls.specs.Part.{is_gone}
use Rattle.zcalls.specs.SessionLaws.{IsOwnClose, IsItsTick}
use Rattle.zcalls.specs.Step.{step, due_next}
use Rattle.zcalls.proofs.Sessions.{ends_only_so}
use Rattle.zprotocol.specs.world.FromTree.{CanStart}
use Rattle.zrequests.specs.Laws.{CallIsFor, UpdateIsFor}
use Rattle.ztree_service.specs.log.Logs.{tree_after}
use Rattle.ztree_service.proofs.log_lemmas.Incarnations.{trees_can_start_again}
use Rattle.zfront.specs.Front.{ended_by, ending, may_end}
use Rattle.zfront.specs.Ticking.{ping, tick_calls}
use Rattle.zfront_laws.proofs.Rising.{sessions_last}

-- who is there before the calls and gone after them is one that they might end
abbrev pub EndsAmong : List Call → Tree → Type 0
EndsAmong calls t = (id : ℕ) → contains_key t.sessions id ≡ true → contains_key (tree_after t calls).sessions id ≡ false
    → list_any (eq_by_cmp nat_cmp id) (ending calls t) ≡ true

pub any_first : {X : Type 0} (p : X → Bool) (xs ys : List X) → list_any p xs ≡ true → list_any p (xs ++ ys) ≡ true
any_first p xs ys is = list_any-append p xs ys ∙ ap (λ b. b || list_any p ys) is

pub any_second : {X : Type 0} (p : X → Bool) (xs ys : List X) → list_any p ys ≡ true → list_any p (xs ++ ys) ≡ true
any_second p xs ys is = list_any-append p xs ys ∙ ap (λ b. list_any p xs || b) is ∙ or-true (list_any p xs)

-- ---- calls for a session

module _ (t : Tree) (session : ℕ) where
  own_end : (calls : List Call) → AllByRecursion (CallIsFor session) calls → (u : Tree) (id : ℕ) → contains_key u.sessions id ≡ true
      → contains_key (tree_after u calls).sessions id ≡ false → list_any (eq_by_cmp nat_cmp id) (ending calls t) ≡ true
  own_end [] for u id there gone = absurd (true≢false (sym there ∙ gone))
  own_end (Query query ∷ calls) for u id there gone = own_end calls for.1 u id there gone
  own_end (Update update ∷ calls) for u id there gone =
      by (get (step u 0 update).0.sessions id) refl (λ still. own_end calls for.1 (step u 0 update).0 id still gone)
    where
      s : (s : Session) × (get u.sessions id ≡ Some s)
      s = has_some (get u.sessions id) there

      ends : IsOwnClose id s.0 0 update ⊎ IsItsTick u s.0 update
          → list_any (eq_by_cmp nat_cmp id) (ended_by t (Update update) ++ ending calls t) ≡ true
      ends (inl closed) =
          any_first (eq_by_cmp nat_cmp id) (ended_by t (Update update)) (ending calls t)
          (ap (λ u. list_any (eq_by_cmp nat_cmp id) (ended_by t (Update u))) closed.0
          ∙ ap (λ b. b || false) (tied nat_cmp_total nat_cmp-IsAntisymmetric id))
      ends (inr ticked) = absurd (subst (UpdateIsFor session) ticked.0 for.0)

      by : (o : Option Session) → get (step u 0 update).0.sessions id ≡ o
          → (contains_key (step u 0 update).0.sessions id ≡ true → list_any (eq_by_cmp nat_cmp id) (ending calls t) ≡ true)
          → list_any (eq_by_cmp nat_cmp id) (ended_by t (Update update) ++ ending calls t) ≡ true
      by None none rest = ends (ends_only_so u 0 update id s.0 s.1 none)
      by (Some left) some rest =
          any_second (eq_by_cmp nat_cmp id) (ended_by t (Update update)) (ending calls t) (rest (ap is_some some))

pub own_calls_end : (session : ℕ) (calls : List Call) → AllByRecursion (CallIsFor session) calls → (t : Tree) → EndsAmong calls t
own_calls_end session calls for t id there gone = own_end t session calls for t id there gone

-- ---- pings

-- they leave the nodes and the clock, and no session is due sooner
pub record Later (t u : Tree) : Type 0 where
  pub nodes : u.nodes ≡ t.nodes
  pub time : u.time ≡ t.time
  pub sessions : (id : ℕ) (s : Session) → get u.sessions id ≡ Some s → (get t.sessions id ≡ Some s) ⊎ (t.time + 1 < s.deadline)

still_later : (t : Tree) → Later t t
still_later t = record { nodes = refl; time = refl; sessions = λ id s found. inl found }

then_later : (t u v : Tree) → Later t u → Later u v → Later t v
then_later t u v one two = record {
  nodes = two.nodes ∙ one.nodes;
  time = two.time ∙ one.time;
  sessions = λ id s found. by id s (two.sessions id s found);
}
  where
    by : (id : ℕ) (s : Session) → (get u.sessions id ≡ Some s) ⊎ (u.time + 1 < s.deadline) → (get t.sessions id ≡ Some s) ⊎ (t.time + 1 < s.deadline)
    by id s (inl found) = one.sessions id s found
    by id s (inr late) = let same = one.time in inr (omega (arith, late, same))

renewed : (t : Tree) (id : ℕ) → CanStart t → Later t (with_renewed_session t id)
renewed t id can = by (get t.sessions id) refl
  where
    late : (s : Session) → get t.sessions id ≡ Some s → (other : ℕ) (r : Session)
        → ((other ≡ id) × (renewed_session t.time s ≡ r)) ⊎ ((other ≢ id) × (get t.sessions other ≡ Some r))
        → (get t.sessions other ≡ Some r) ⊎ (t.time + 1 < r.deadline)
    late s is other r (inl (here, same)) =
        let least : 2 ≤ s.timeout = (can.granted id s is).least in
        let deadline : t.time + s.timeout ≡ r.deadline = ap (λ (x : Session). x.deadline) same in
        inr (omega (arith, least, deadline))
    late s is other r (inr (apart, found)) = inl found

    by : (o : Option Session) → get t.sessions id ≡ o
        → Later t (record t { sessions = option_map_or (λ s. insert t.sessions id (renewed_session t.time s)) o t.sessions })
    by None is = record { nodes = refl; time = refl; sessions = λ other r found. inl found }
    by (Some s) is = record {
      nodes = refl;
      time = refl;
      sessions = λ other r found.
          late s is other r (get-inserted nat_cmp_total nat_cmp-IsAntisymmetric t.sessions id (renewed_session t.time s) other r found);
    }

later_by : (t : Tree) (why : Reply) (did : Tree × Reply) (b : Bool) → Later t did.0 → Later t (if b then (t, why) else did).0
later_by t why did true later = still_later t
later_by t why did false later = later

pinged : (t : Tree) (id : ℕ) → CanStart t → Later t (step t 0 (Ping id)).0
unfolding step
pinged t id can =
    later_by t (reply.Refused SessionGone) (with_renewed_session t id, reply.Pinged) (is_gone t.sessions 0 id) (renewed t id can)

abbrev pub pings : List ℕ → List Call
pings ids = map ping ids

pub pings_later : (ids : List ℕ) (t : Tree) → CanStart t → Later t (tree_after t (pings ids))
pings_later [] t can = still_later t
pings_later (id ∷ ids) t can =
    let u = (step t 0 (Ping id)).0 in
    then_later t u (tree_after u (pings ids)) (pinged t id can) (pings_later ids u (trees_can_start_again t (ping id ∷ []) can))

pings_end_none : (ids : List ℕ) → list_any may_end (pings ids) ≡ false
pings_end_none [] = refl
pings_end_none (id ∷ ids) = pings_end_none ids

-- ---- a tick

pub tick_after : (ids : List ℕ) (t : Tree) → tree_after t (tick_calls ids) ≡ (step (tree_after t (pings ids)) 0 Tick).0
tick_after [] t = refl
tick_after (id ∷ ids) t = tick_after ids (step t 0 (Ping id)).0

pub ending_of : (ids : List ℕ) (t : Tree) → ending (tick_calls ids) t ≡ due_next t ++ []
ending_of [] t = refl
ending_of (id ∷ ids) t = ending_of ids t

at_most : (a b : ℕ) → a ≤ b → nat_le a b ≡ true
at_most a b is = grind (arith, nat_tests, is)

below : (a b : ℕ) → nat_le a b ≡ true → a ≤ b
below a b is = grind (arith, nat_tests)

due_listed : (t : Tree) (id : ℕ) (s : Session) → get t.sessions id ≡ Some s → s.deadline ≤ t.time + 1
    → list_any (eq_by_cmp nat_cmp id) (due_next t) ≡ true
due_listed t id s found due =
    among_entries nat_cmp_total nat_cmp-IsAntisymmetric (λ (s : Session). nat_le s.deadline (t.time + 1)) t.sessions id
    ∙ ap (λ o. option_map_or (λ (s : Session). nat_le s.deadline (t.time + 1)) o false) found ∙ at_most s.deadline (t.time + 1) due

module _ (t u : Tree) (later : Later t u) where
  due_then : (id : ℕ) (s : Session) → get u.sessions id ≡ Some s → s.deadline ≤ u.time + 1 → list_any (eq_by_cmp nat_cmp id) (due_next t) ≡ true
  due_then id s found due = by (later.sessions id s found)
    where
      by : (get t.sessions id ≡ Some s) ⊎ (t.time + 1 < s.deadline) → list_any (eq_by_cmp nat_cmp id) (due_next t) ≡ true
      by (inl before) = let same = later.time in due_listed t id s before (omega (arith, due, same))
      by (inr late) = let same = later.time in absurd (omega (arith, due, same, late))

  -- who is due after pings was due before them
  pub due_before : (id : ℕ) → list_any (eq_by_cmp nat_cmp id) (due_next u) ≡ true → list_any (eq_by_cmp nat_cmp id) (due_next t) ≡ true
  due_before id is = by (get u.sessions id) refl
      (sym (among_entries nat_cmp_total nat_cmp-IsAntisymmetric (λ (s : Session). nat_le s.deadline (u.time + 1)) u.sessions id) ∙ is)
    where
      by : (o : Option Session) → get u.sessions id ≡ o → option_map_or (λ (s : Session). nat_le s.deadline (u.time + 1)) o false ≡ true
          → list_any (eq_by_cmp nat_cmp id) (due_next t) ≡ true
      by None none due = absurd (true≢false (sym due))
      by (Some s) found due = due_then id s found (below s.deadline (u.time + 1) due)

pub tick_calls_end : (ids : List ℕ) (t : Tree) → CanStart t → EndsAmong (tick_calls ids) t
tick_calls_end ids t can id there gone =
    ap (list_any (eq_by_cmp nat_cmp id)) (ending_of ids t)
    ∙ any_first (eq_by_cmp nat_cmp id) (due_next t) [] (by (get (step u 0 Tick).0.sessions id) refl)
  where
    u : Tree
    u = tree_after t (pings ids)

    s : (s : Session) × (get u.sessions id ≡ Some s)
    s = has_some (get u.sessions id) (sessions_last (pings ids) t id (pings_end_none ids) there)

    ends : IsOwnClose id s.0 0 Tick ⊎ IsItsTick u s.0 Tick → list_any (eq_by_cmp nat_cmp id) (due_next t) ≡ true
    ends (inl closed) = absurd (cc closed.0)
    ends (inr ticked) = due_then t u (pings_later ids t can) id s.0 s.1 ticked.2

    by : (o : Option Session) → get (step u 0 Tick).0.sessions id ≡ o → list_any (eq_by_cmp nat_cmp id) (due_next t) ≡ true
    by None none = ends (ends_only_so u 0 Tick id s.0 s.1 none)
    by (Some left) some =
        absurd (true≢false (sym (ap is_some some) ∙ ap (λ (v : Tree). contains_key v.sessions id) (sym (tick_after ids t)) ∙ gone))
