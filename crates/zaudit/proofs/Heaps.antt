-- A heap of the next events of all traces: its top has the next of all, and once it is read the trace's next one takes its
-- place.
use Rattle.std.proofs.Common.{◌≡◌, ◌⊎◌, ◌<◌, ◌≤◌, ℕ, zero, suc, ◌+◌, Bool, true, false, cond, ◌==◌, nat_lt, List, []}
use Rattle.std.proofs.Common.{◌∷◌, Option, Some, None, length, get_or, drop, set, refl, sym, ap, ◌∙◌, subst, inl, inr}
use Rattle.std.proofs.Common.{eqb-true, arith}
use Rattle.std.specs.Prelude.{◌&&◌}
use Rattle.std.specs.List.{AllByRecursion}
use Rattle.std.proofs.Math.Nat.{eq-or-lt_of_le}
use Rattle.std.proofs.lemmas.Bool.Decides.{nat_tests}
use Rattle.std.proofs.lemmas.List.{get_or-set_other}
use Rattle.std.proofs.lemmas.List.Sums.{sum_by-cons}
use Rattle.zcalls.proofs.Among.{test}
use Rattle.zprotocol.specs.declared.traces.trace.TraceEvent.{TraceEvent}
use Rattle.zprotocol.specs.declared.traces.trace.Traces.{Traces}
use Rattle.zprotocol.specs.traces.Traces.{trace_of}
use Rattle.zprotocol.specs.traces.support.Places.{place_count, process_at, head_at, stamp_at_front, IsLeast}
use Rattle.zprotocol.proofs.traces_lemmas.Places.{next_front, front_is, is_unread}
use Rattle.zaudit.specs.support.Heads.{Head, is_before, count_of, count_at, count_below, HoldsHeads, IsFirstTaken, IsNext}

-- one where the test holds
abbrev one_if : Bool → ℕ
one_if b = cond b 1 0

some_if : (b : Bool) → 0 < one_if b → b ≡ true
some_if true lt = refl
some_if false lt = absurd (omega (arith, lt))

none_if : (b : Bool) → one_if b ≡ 0 → b ≡ false
none_if true is = absurd (omega (arith, is))
none_if false is = refl

-- the pair is this one
abbrev is_pair : ℕ × ℕ → ℕ × ℕ → Bool
is_pair x y = (x.0 == y.0) && (x.1 == y.1)

both_true : (a b : Bool) → (a && b) ≡ true → (a ≡ true) × (b ≡ true)
both_true true b h = (refl, h)
both_true false b h = absurd (cc h)

pair_itself : (x : ℕ × ℕ) → is_pair x x ≡ true
pair_itself x =
    let first : (x.0 == x.0) ≡ true = grind (arith, nat_tests) in
    let second : (x.1 == x.1) ≡ true = grind (arith, nat_tests) in
    rw (first, second) refl

-- of two the first isn't before the second
not_before : (s j a b : ℕ) → is_before (s, j) (a, b) ≡ false → (a < s) ⊎ ((s ≡ a) × (b ≤ j))
not_before s j a b later = elim (test (nat_lt s a)) [
  | inl y ↦
      let yes : is_before (s, j) (a, b) ≡ true = rw y refl in
      absurd (cc (yes, later))
  | inr f ↦ elim (test (s == a)) [
    | inl same ↦ inr (eqb-true s a same, behind f same)
    | inr other ↦ inl (grind (arith, nat_tests, f, other))
  ]
]
  where
    behind : nat_lt s a ≡ false → (s == a) ≡ true → b ≤ j
    behind f same = elim (test (nat_lt j b)) [
      | inl y ↦
          let yes : is_before (s, j) (a, b) ≡ true = rw (f, same, y) refl in
          absurd (cc (yes, later))
      | inr g ↦ grind (arith, nat_tests, g)
    ]

module _ (t : Traces) (read : List ℕ) where
  -- where something is counted, it is at a position
  counted : (f : ℕ × ℕ → ℕ) (n : ℕ) → 0 < count_below t read f n → (j : ℕ) × (s : ℕ) × (j < n) × (head_at t read j ≡ Some s) × (0 < f (s, j))
  counted f zero lt = absurd (omega (arith, lt))
  counted f (suc n) lt = by (head_at t read n) refl lt (counted f n)
    where
      by : (head : Option ℕ) → head_at t read n ≡ head → 0 < count_at f n head + count_below t read f n
          → (0 < count_below t read f n → (j : ℕ) × (s : ℕ) × (j < n) × (head_at t read j ≡ Some s) × (0 < f (s, j)))
          → (j : ℕ) × (s : ℕ) × (j < suc n) × (head_at t read j ≡ Some s) × (0 < f (s, j))
      by None is lt below = let found = below (omega (arith, lt)) in (found.0, found.1, omega (arith, found.2), found.3, found.4)
      by (Some s) is lt below = elim (test (nat_lt 0 (f (s, n)))) [
        | inl y ↦ (n, s, omega arith, is, grind (arith, nat_tests, y))
        | inr not_here ↦
            let zero_here : f (s, n) ≡ 0 = grind (arith, nat_tests, not_here) in
            let found = below (omega (arith, lt, zero_here)) in
            (found.0, found.1, omega (arith, found.2), found.3, found.4)
      ]

  -- what is at a position is counted
  at_most : (f : ℕ × ℕ → ℕ) (n j s : ℕ) → j < n → head_at t read j ≡ Some s → f (s, j) ≤ count_below t read f n
  at_most f zero j s lt is = absurd (omega (arith, lt))
  at_most f (suc n) j s lt is = elim (eq-or-lt_of_le {n = j} {m = n} (omega (arith, lt))) [
    | inl same ↦
        let here : head_at t read n ≡ Some s = ap (head_at t read) (sym same) ∙ is in
        let there : f (s, n) ≤ count_at f n (Some s) + count_below t read f n = omega arith in
        rw (same, here) there
    | inr under ↦
        let more = at_most f n j s under is in
        omega (arith, more)
  ]

  -- nothing is counted where no head passes
  count_none : (p : ℕ × ℕ → Bool) (heads : List Head) → AllByRecursion (λ (head : Head). p head.0 ≡ false) heads
      → count_of (λ x. one_if (p x)) heads ≡ 0
  count_none p [] all = refl
  count_none p (head ∷ heads) all =
      let more = count_none p heads all.1 in
      let here : one_if (p head.0) ≡ 0 = ap one_if all.0 in
      sum_by-cons (λ (h : Head). one_if (p h.0)) head heads ∙ omega (arith, more, here)

  -- the top has the next event of all
  pub first_is_least : (n : ℕ) (first : ℕ × ℕ) (old new : List Head) → HoldsHeads t read n old → IsFirstTaken first old new
      → IsLeast t read n (Some (first.1, first.0))
  first_is_least n first old new holds taken =
      let own : ℕ × ℕ → ℕ = λ x. one_if (is_pair x first) in
      let itself : own first ≡ 1 = ap one_if (pair_itself first) in
      let some : 0 < count_below t read own n = omega (arith, holds own, taken.0 own, itself) in
      let found = counted own n some in
      let pair = both_true _ _ (some_if _ found.4) in
      let stamp : found.1 ≡ first.0 = eqb-true _ _ pair.0 in
      let place : found.0 ≡ first.1 = eqb-true _ _ pair.1 in
      let before : ℕ × ℕ → ℕ = λ x. one_if (is_before x first) in
      let none : count_below t read before n ≡ 0 = sym (holds before) ∙ count_none (λ x. is_before x first) old taken.1 in (
        omega (arith, found.2, place),
        ap (head_at t read) (sym place) ∙ found.3 ∙ ap Some stamp,
        λ j s lt is.
            let few = at_most before n j s lt is in
            not_before s j first.0 first.1 (none_if _ (omega (arith, few, none))),
      )

  -- where the heap is empty, no position has a next event
  pub none_is_left : (n : ℕ) (old : List Head) → HoldsHeads t read n old → old ≡ [] → IsLeast t read n None
  none_is_left n old holds empty j lt =
      let none : count_below t read (λ x. 1) n ≡ 0 = sym (holds (λ x. 1)) ∙ ap (count_of (λ x. 1)) empty in
      by (head_at t read j) refl none
    where
      by : (head : Option ℕ) → head_at t read j ≡ head → count_below t read (λ x. 1) n ≡ 0 → head ≡ None
      by None is none = refl
      by (Some s) is none =
          let few = at_most (λ x. 1) n j s lt is in
          absurd (omega (arith, few, none))

  -- one event of a position is read
  module _ (b : ℕ) where
    abbrev after : List ℕ
    after = set read b (get_or read b 0 + 1)

    stays_at : (j : ℕ) → (j ≡ b → ⊥) → head_at t after j ≡ head_at t read j
    stays_at j apart = ap (λ k. stamp_at_front (drop k (trace_of t (process_at t j)))) (get_or-set_other read b j (get_or read b 0 + 1) 0 apart)

    stays_below : (f : ℕ × ℕ → ℕ) (n : ℕ) → n ≤ b → count_below t after f n ≡ count_below t read f n
    stays_below f zero le = refl
    stays_below f (suc n) le =
        let here = stays_at n (λ same. absurd (omega (arith, same, le))) in
        let more = stays_below f n (omega (arith, le)) in
        ap (λ h. count_at f n h + count_below t after f n) here ∙ ap (λ k. count_at f n (head_at t read n) + k) more

    moves : (f : ℕ × ℕ → ℕ) (n : ℕ) → b < n
        → count_below t after f n + count_at f b (head_at t read b) ≡ count_below t read f n + count_at f b (head_at t after b)
    moves f zero lt = absurd (omega (arith, lt))
    moves f (suc n) lt = elim (eq-or-lt_of_le {n = b} {m = n} (omega (arith, lt))) [
      | inl same ↦
          let below = stays_below f n (omega (arith, same)) in
          let old : count_at f b (head_at t read b) ≡ count_at f n (head_at t read n) = ap (λ k. count_at f k (head_at t read k)) same in
          let new : count_at f b (head_at t after b) ≡ count_at f n (head_at t after n) = ap (λ k. count_at f k (head_at t after k)) same in
          omega (arith, below, old, new)
      | inr under ↦
          let here : count_at f n (head_at t after n) ≡ count_at f n (head_at t read n) =
          ap (count_at f n) (stays_at n (λ same. absurd (omega (arith, same, under)))) in
          let below = moves f n under in
          omega (arith, here, below)
    ]

  pub holds_on : (n b s : ℕ) (old rest more : List Head) → HoldsHeads t read n old → b < n → head_at t read b ≡ Some s
      → ((f : ℕ × ℕ → ℕ) → count_of f rest + f (s, b) ≡ count_of f old)
      → ((f : ℕ × ℕ → ℕ) → count_of f more ≡ count_at f b (head_at t (after b) b) + count_of f rest)
      → HoldsHeads t (after b) n more
  holds_on n b s old rest more holds lt is taken put f =
      let here : count_at f b (head_at t read b) ≡ f (s, b) = ap (count_at f b) is in
      let moved = moves b f n lt in
      let own = holds f in
      let gone = taken f in
      let new = put f in
      omega (arith, here, moved, own, gone, new)

-- at the top of the heap an event is left
pub is_left : (t : Traces) (read : List ℕ) (first : ℕ × ℕ) (old new : List Head) → length read ≡ place_count t
    → HoldsHeads t read (place_count t) old → IsFirstTaken first old new → get_or read first.1 0 < length (trace_of t (process_at t first.1))
is_left t read first old new long holds taken =
    let least = first_is_least t read (place_count t) first old new holds taken in
    let there : first.1 < length read = omega (arith, least.0, long) in
    let (e, more, front, stamp) = next_front t read (first.1, first.0) least in
    is_unread t read first.1 e more there front

-- the event at the top is the next of all
pub is_next : (t : Traces) (read : List ℕ) (first : ℕ × ℕ) (old new : List Head) (x : TraceEvent) → length read ≡ place_count t
    → HoldsHeads t read (place_count t) old → IsFirstTaken first old new → x ≡ get_or (trace_of t (process_at t first.1)) (get_or read first.1 0) x
    → IsNext t read first.1 x old new
is_next t read first old new x long holds taken is =
    let least = first_is_least t read (place_count t) first old new holds taken in
    let best : ℕ × ℕ = (first.1, first.0) in
    let there : first.1 < length read = omega (arith, least.0, long) in
    let (e, more, front, stamp) = next_front t read best least in
    let same : e ≡ x = sym (front_is t read first.1 e more there front x) ∙ sym is in
    let own : first.0 ≡ x.stamp = sym stamp ∙ ap (λ (y : TraceEvent). y.stamp) same in (
      subst (λ s. IsLeast t read (place_count t) (Some (first.1, s))) own least,
      is,
      λ f. subst (λ s. count_of f new + f (s, first.1) ≡ count_of f old) own (taken.0 f),
    )
