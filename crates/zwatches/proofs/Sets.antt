-- Lists that rise, as sets.
use Rattle.std.proofs.Common.{◌≡◌, Bool, true, false, ◌&&◌, ◌||◌, List, refl, sym, ap, ◌∙◌}
use Rattle.std.specs.declared.cmp.Ordering.{Ordering}
use Rattle.std.specs.Ordering.{eq_by_cmp}
use Rattle.std.specs.Cmp.{IsTotalOrder, Equal-is, both_ways, eq_by_cmp_equiv}
use Rattle.std.specs.List.{filter, list_any}
use Rattle.std.specs.FinMap.{IsAntisymmetric}
use Rattle.std.specs.FinSet.{FinSet, contains, insert, retain, items, from_list, contains-items, contains-insert, contains-retain, contains-from_list, same_set}
use Rattle.std.proofs.lemmas.List.Folds.{Any-from_list_any, list_any-from_Any}
use Rattle.std.proofs.lemmas.Map.Views.{any-filter_same, Contains-from_any, list_any-from_Contains}

and_swap : (a b : Bool) → (a && b) ≡ (b && a)
and_swap true true = refl
and_swap true false = refl
and_swap false true = refl
and_swap false false = refl

pub or_true : (b : Bool) → (b || true) ≡ true
or_true true = refl
or_true false = refl

module _ {K : Type 0} {R : K → K → Ordering} (o : IsTotalOrder R) where
  module _ (same : IsAntisymmetric R) where
    tied : (x y : K) → eq_by_cmp R x y ≡ true → x ≡ y
    tied x y e = same x y ((Equal-is (R x y)).0 e)

    passes : (p : K → Bool) (xs ys : List K) → ((q : K) → list_any (eq_by_cmp R q) xs ≡ list_any (eq_by_cmp R q) ys) → list_any p xs ≡ true → list_any p ys ≡ true
    passes p xs ys members one =
        let found = Any-from_list_any p xs one in
        let there = Contains-from_any tied found.1 ys (sym (members found.1) ∙ list_any-from_Contains (eq_by_cmp_equiv o) found.1 xs (found.0, found.2, found.3)) in
        list_any-from_Any p ys (there.0, found.1, there.1, there.2, found.4)

    -- lists with the same members pass the same tests
    pub same_any : (p : K → Bool) (xs ys : List K) → ((q : K) → list_any (eq_by_cmp R q) xs ≡ list_any (eq_by_cmp R q) ys) → list_any p xs ≡ list_any p ys
    same_any p xs ys members = both_ways _ _ (passes p xs ys members) (passes p ys xs (λ q. sym (members q)))

    -- so do a list and the items of its set
    pub any-items : (p : K → Bool) (xs : List K) → list_any p (items (from_list {R = R} xs)) ≡ list_any p xs
    any-items p xs = same_any p _ xs (λ q. sym (contains-items (from_list xs) q) ∙ contains-from_list o xs q)

    pub from_list-filter : (p : K → Bool) (xs : List K) → from_list {R = R} (filter p xs) ≡ retain (from_list xs) p
    from_list-filter p xs = same_set o same _ _ (λ q.
        contains-from_list o (filter p xs) q
        ∙ any-filter_same (eq_by_cmp R q) p (p q) (λ k tie. ap p (sym (tied q k tie))) xs
        ∙ and_swap (p q) (list_any (eq_by_cmp R q) xs)
        ∙ ap (λ b. b && p q) (sym (contains-from_list o xs q))
        ∙ sym (contains-retain (from_list xs) p q (λ x e. ap p (sym (same q x e)))))

    -- what is there is inserted in vain
    pub insert_again : (s : FinSet R) (x : K) → contains s x ≡ true → insert s x ≡ s
    insert_again s x there = same_set o same _ _ (λ q. contains-insert o s x q ∙ by q (eq_by_cmp R q x) refl)
      where
        by : (q : K) (b : Bool) → eq_by_cmp R q x ≡ b → (b || contains s q) ≡ contains s q
        by q true e = sym (ap (contains s) (tied q x e) ∙ there)
        by q false e = refl

    -- lists with the same members make the same set
    pub same_list : (xs ys : List K) → ((q : K) → list_any (eq_by_cmp R q) xs ≡ list_any (eq_by_cmp R q) ys) → from_list {R = R} xs ≡ from_list ys
    same_list xs ys members = same_set o same _ _ (λ q. contains-from_list o xs q ∙ members q ∙ sym (contains-from_list o ys q))
