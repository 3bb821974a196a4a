-- Entries that are put into a map one after the other, in order: what is still to be put.
use Rattle.std.proofs.Common.{◌≡◌, ◌≢◌, ◌⊎◌, inl, inr, ◌+◌, Bool, true, false, cond, List, [], ◌∷◌, ◌++◌, length, length-append, Option, Some, None, refl, sym, ap, subst, ◌∙◌, arith}
use lib.Dec.{T}
use Rattle.std.specs.declared.cmp.Ordering.{Ordering}
use Rattle.std.specs.declared.cmp.Ordering.TheVariants.{Less}
use Rattle.std.specs.Prelude.{is_some, IsSome}
use Rattle.std.specs.Option.{option_or}
use Rattle.std.specs.Ordering.{is_eq}
use Rattle.std.specs.Cmp.{IsTotalOrder, tied_itself}
use Rattle.std.specs.FinMap as finite
use Rattle.std.specs.FinMap.{FinMap, IsAntisymmetric, find, is_sorted, entries_sorted, get-entries, get-empty, len-empty, len-entries, len-insert, same_map}
use Rattle.std.specs.FinMap.Entries.{below_all}
use Rattle.ztree.proofs.Sorted.{both_parts, find_below}
use Rattle.ztree.proofs.Maps.{none_some, same_or_other, not_tied, not_among, get-insert-here, get-insert-elsewhere}

module _ {X : Type 0} where
  same_or_none : (o : Option X) → option_or o None ≡ o
  same_or_none None = refl
  same_or_none (Some x) = refl

  second_none : (a b : Option X) → option_or a b ≡ None → b ≡ None
  second_none None b none = none
  second_none (Some x) b none = absurd (none_some x (sym none))

  -- where at most one is there, their order doesn't matter
  swapped : (a b : Option X) → (IsSome a → b ≡ None) → option_or a b ≡ option_or b a
  swapped None b apart = sym (same_or_none b)
  swapped (Some x) b apart = sym (ap (λ o. option_or o (Some x)) (apart refl))

module _ {K X : Type 0} (R : K → K → Ordering) where
  find_one : (e : K × X) (all first rest : Option X) (b : Bool) → all ≡ option_or first rest →
      cond b (Some e.1) all ≡ option_or (cond b (Some e.1) first) rest
  find_one e all first rest true is = refl
  find_one e all first rest false is = is

  -- what is found in two lists, one after the other
  find_both : (xs ys : List (K × X)) (q : K) →
      find R q (xs ++ ys) ≡ option_or (find R q xs) (find R q ys)
  find_both [] ys q = refl
  find_both (e ∷ xs) ys q =
      find_one e (find R q (xs ++ ys)) (find R q xs) (find R q ys) (is_eq (R q e.0))
      (find_both xs ys q)

  sorted_behind : (xs ys : List (K × X)) → T (is_sorted R (xs ++ ys)) → T (is_sorted R ys)
  sorted_behind [] ys sorted = sorted
  sorted_behind (e ∷ xs) ys sorted =
      sorted_behind xs ys
      (both_parts (below_all R e.0 (xs ++ ys)) (is_sorted R (xs ++ ys)) sorted).1

module _ {K X : Type 0} {R : K → K → Ordering} (o : IsTotalOrder R) (same : IsAntisymmetric R) where
  apart_first : (e : K × X) (xs ys : List (K × X)) → T (below_all R e.0 (xs ++ ys)) → (q : K) →
      (IsSome (find R q xs) → find R q ys ≡ None) → IsSome (find R q (e ∷ xs)) →
      (q ≡ e.0) ⊎ (q ≢ e.0) → find R q ys ≡ None
  apart_first e xs ys low q further is (inl at) =
      ap (λ k. find R k ys) at
      ∙ second_none (find R e.0 xs) (find R e.0 ys)
      (sym (find_both R xs ys e.0) ∙ not_among o same e.0 (xs ++ ys) low)
  apart_first e xs ys low q further is (inr other) =
      further
      (ap (λ b. is_some (cond b (Some e.1) (find R q xs))) (sym (not_tied o same q e.0 other)) ∙ is)

  -- in order, what is among the first is not after them
  apart_lists : (xs ys : List (K × X)) → T (is_sorted R (xs ++ ys)) → (q : K) →
      IsSome (find R q xs) → find R q ys ≡ None
  apart_lists [] ys sorted q is = let bad : false ≡ true = is in cc
  apart_lists (e ∷ xs) ys sorted q is =
      let parts = both_parts (below_all R e.0 (xs ++ ys)) (is_sorted R (xs ++ ys)) sorted in
      apart_first e xs ys parts.0 q (apart_lists xs ys parts.1 q) is (same_or_other o same q e.0)

  module _ (whole : FinMap R X) where
    -- the entries that are still to be put into this map, before it is the whole
    pub record Left (m : FinMap R X) (rest : List (K × X)) : Type 0 where
      agree : (q : K) → finite.get whole q ≡ option_or (find R q rest) (finite.get m q)
      sorted : T (is_sorted R rest)
      apart : (q : K) → IsSome (finite.get m q) → find R q rest ≡ None
      count : finite.len m + length rest ≡ finite.len whole

    -- a map of the first entries of the whole
    pub left_at : (m : FinMap R X) (rest : List (K × X)) →
        finite.entries whole ≡ finite.entries m ++ rest → Left m rest
    left_at m rest rows =
        let first = finite.entries m in
        let sorted = subst (λ es. T (is_sorted R es)) rows (entries_sorted whole) in
        record {
          agree = λ q. get-entries whole q ∙ ap (find R q) rows ∙ find_both R first rest q
              ∙ swapped (find R q first) (find R q rest) (apart_lists first rest sorted q)
              ∙ ap (option_or (find R q rest)) (sym (get-entries m q));
          sorted = sorted_behind R first rest sorted;
          apart = λ q is. apart_lists first rest sorted q (ap is_some (sym (get-entries m q)) ∙ is);
          count =
              let both = ap length rows ∙ length-append first rest in
              let all = len-entries whole in
              let some = len-entries m in
              omega (arith, both, all, some);
        }

    none_there : (q : K) → IsSome (finite.get (finite.empty {X = X} {R = R}) q) → ⊥
    none_there q is = let e : false ≡ true = sym (ap is_some (get-empty R q)) ∙ is in cc

    pub left_all : Left finite.empty (finite.entries whole)
    left_all = record {
      agree = λ q. get-entries whole q ∙ sym (same_or_none (find R q (finite.entries whole)))
          ∙ ap (option_or (find R q (finite.entries whole))) (sym (get-empty R q));
      sorted = entries_sorted whole;
      apart = λ q is. absurd (none_there q is);
      count =
          let none = len-empty R X in
          let all = len-entries whole in
          omega (arith, none, all);
    }

    pub left_done : (m : FinMap R X) → Left m [] → m ≡ whole
    left_done m left = same_map o same m whole (λ q. sym (left.agree q))

    module _ (m : FinMap R X) (e : K × X) (rest : List (K × X)) (left : Left m (e ∷ rest)) where
      below : T (below_all R e.0 rest)
      below = (both_parts (below_all R e.0 rest) (is_sorted R rest) left.sorted).0

      found : find R e.0 (e ∷ rest) ≡ Some e.1
      found = rw (tied_itself o e.0) refl

      elsewhere : (q : K) → q ≢ e.0 → find R q (e ∷ rest) ≡ find R q rest
      elsewhere q other = ap (λ b. cond b (Some e.1) (find R q rest)) (not_tied o same q e.0 other)

      pub left_is : finite.get whole e.0 ≡ Some e.1
      left_is = left.agree e.0 ∙ ap (λ f. option_or f (finite.get m e.0)) found

      pub left_free : finite.get m e.0 ≡ None
      left_free = by (finite.get m e.0) refl
        where
          by : (x : Option X) → finite.get m e.0 ≡ x → x ≡ None
          by None at = refl
          by (Some x) at =
              absurd (none_some e.1 (sym (left.apart e.0 (ap is_some at)) ∙ found))

      pub left_before : (q : K) → R q e.0 ≡ Less → finite.get m q ≡ finite.get whole q
      left_before q less =
          let none : find R q (e ∷ rest) ≡ None =
          ap (λ r. cond (is_eq r) (Some e.1) (find R q rest)) less ∙ find_below R o q e.0 rest less below in
          sym (left.agree q ∙ ap (λ f. option_or f (finite.get m q)) none)

      pub left_fewer : finite.len m + 1 + length rest ≡ finite.len whole
      left_fewer = let all = left.count in omega (arith, all)

      pub left_next : Left (finite.insert m e.0 e.1) rest
      left_next = record {
        agree = λ q. agrees q (same_or_other o same q e.0);
        sorted = (both_parts (below_all R e.0 rest) (is_sorted R rest) left.sorted).1;
        apart = λ q is. stays q is (same_or_other o same q e.0);
        count = ap (λ n. n + length rest) longer ∙ left_fewer;
      }
        where
          longer : finite.len (finite.insert m e.0 e.1) ≡ finite.len m + 1
          longer = len-insert o m e.0 e.1
              ∙ ap (λ b. cond b (finite.len m) (finite.len m + 1)) (ap is_some left_free)

          agrees : (q : K) → (q ≡ e.0) ⊎ (q ≢ e.0) →
              finite.get whole q ≡ option_or (find R q rest) (finite.get (finite.insert m e.0 e.1) q)
          agrees q (inl is) =
              ap (finite.get whole) is ∙ left_is
              ∙ sym (ap (option_or (find R q rest))
              (ap (finite.get (finite.insert m e.0 e.1)) is ∙ get-insert-here o same m e.0 e.1)
              ∙ ap (λ f. option_or f (Some e.1))
              (ap (λ k. find R k rest) is ∙ not_among o same e.0 rest below))
          agrees q (inr other) =
              left.agree q ∙ ap (λ f. option_or f (finite.get m q)) (elsewhere q other)
              ∙ ap (option_or (find R q rest))
              (sym (get-insert-elsewhere o same m e.0 e.1 q other))

          stays : (q : K) → IsSome (finite.get (finite.insert m e.0 e.1) q) →
              (q ≡ e.0) ⊎ (q ≢ e.0) → find R q rest ≡ None
          stays q is (inl at) = ap (λ k. find R k rest) at ∙ not_among o same e.0 rest below
          stays q is (inr other) =
              sym (elsewhere q other)
              ∙ left.apart q (ap is_some (sym (get-insert-elsewhere o same m e.0 e.1 q other)) ∙ is)
