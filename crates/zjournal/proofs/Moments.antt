-- How a run of calls of a device continues.
use Rattle.std.proofs.Common.{◌⊎◌, inl, inr, ⊎_elim, ℕ, List, sym, subst, arith}
use Rattle.zjournal.specs.Device.{Only, Follows, Elapses, LeavesOnly}

module _ {D : Type 0} (moment : D → ℕ) (left_since : D → ℕ → List ℕ → Type 0) where
  -- before the first call
  pub started : (old : D) (P : List ℕ → Type 0) → ((c : List ℕ) → left_since old (moment old) c → P c) → LeavesOnly moment left_since old old P
  started old P here = record { later = omega arith; each = here; before = λ t c le left. inl left }

  -- one call more, after which a crash leaves what has P
  pub goes_on : (old mid new : D) (P may_leave : List ℕ → Type 0) → LeavesOnly moment left_since old mid P
      → Elapses (moment mid) (moment new) (left_since mid) (left_since new) may_leave
      → ((c : List ℕ) → may_leave c → P c) → LeavesOnly moment left_since old new P
  goes_on old mid new P may_leave so_far time here = record {
    later = omega (arith, so_far.later, time.later);
    each = λ c left. ⊎_elim (so_far.each c) (here c) (time.nothing_else (moment old) c so_far.later left);
    before = λ t c le left. ⊎_elim (so_far.before t c le) (λ now. inr (here c now)) (time.nothing_else t c (omega (arith, le, so_far.later)) left);
  }

  -- two runs, one after the other
  pub joined_runs : (old mid new : D) (P : List ℕ → Type 0) → LeavesOnly moment left_since old mid P
      → LeavesOnly moment left_since mid new P → LeavesOnly moment left_since old new P
  joined_runs old mid new P first second = record {
    later = omega (arith, first.later, second.later);
    each = λ c left. ⊎_elim (first.each c) (λ p. p) (second.before (moment old) c first.later left);
    before = λ t c le left. ⊎_elim (first.before t c le) (λ p. inr p) (second.before t c (omega (arith, le, first.later)) left);
  }

  -- a run that leaves what has P leaves what has Q
  pub weaker : (old new : D) (P Q : List ℕ → Type 0) → LeavesOnly moment left_since old new P → ((c : List ℕ) → P c → Q c)
      → LeavesOnly moment left_since old new Q
  weaker old new P Q run implies = record {
    later = run.later;
    each = λ c left. implies c (run.each c left);
    before = λ t c le left. ⊎_elim (λ was. inl was) (λ p. inr (implies c p)) (run.before t c le left);
  }

  -- one call of a device that a crash leaves in no other way than by this step
  module _ (may_leave : D → List ℕ → Type 0) (file : List ℕ) (step : List ℕ → List ℕ → Type 0) (old : D) (only : Only file (may_leave old))
      (now : (c : List ℕ) → left_since old (moment old) c → may_leave old c) (nothing : step file file) where
    follows_only : (new : D) → Follows step (may_leave old) (may_leave new) → (c : List ℕ) → may_leave new c → step file c
    follows_only new follows c left = let from = follows c left in subst (λ (d : List ℕ). step d c) (only from.0 from.1) from.2

    pub call_leaves : (new : D) → Follows step (may_leave old) (may_leave new)
        → Elapses (moment old) (moment new) (left_since old) (left_since new) (may_leave new) → LeavesOnly moment left_since old new (step file)
    call_leaves new follows time =
        goes_on old old new (step file) (may_leave new)
        (started old (step file) (λ c left. subst (step file) (sym (only c (now c left))) nothing)) time (follows_only new follows)

    -- and then a sync
    pub synced_leaves : (mid new : D) → Follows step (may_leave old) (may_leave mid)
        → Elapses (moment old) (moment mid) (left_since old) (left_since mid) (may_leave mid) → ((c : List ℕ) → may_leave new c → may_leave mid c)
        → Elapses (moment mid) (moment new) (left_since mid) (left_since new) (may_leave new) → LeavesOnly moment left_since old new (step file)
    synced_leaves mid new follows first synced time =
        goes_on old mid new (step file) (may_leave new) (call_leaves mid follows first) time (λ c left. follows_only mid follows c (synced c left))

-- two calls, where what a crash leaves between them is left before or after them
pub elapses_both : (before mid now : ℕ) (past between since : ℕ → List ℕ → Type 0) (may_between may_leave : List ℕ → Type 0)
    → Elapses before mid past between may_between → Elapses mid now between since may_leave
    → ((t : ℕ) (c : List ℕ) → may_between c → past t c ⊎ may_leave c) → Elapses before now past since may_leave
elapses_both before mid now past between since may_between may_leave first second here = record {
  later = omega (arith, first.later, second.later);
  nothing_else = λ t c le left. ⊎_elim (λ was. ⊎_elim (λ earlier. inl earlier) (here t c) (first.nothing_else t c le was))
      (λ may. inr may) (second.nothing_else t c (omega (arith, le, first.later)) left);
  keeps = λ t c le left. second.keeps t c (omega (arith, le, first.later)) (first.keeps t c le left);
}
