-- A rising list of numbers is fixed by how often each number occurs in it.
use Rattle.std.proofs.Common.{◌≡◌, ◌≢◌, ℕ, suc, ◌+◌, ◌<◌, ◌≤◌, false, cond, List, [], ◌∷◌, refl, sym, ap, ◌∙◌, arith, sum_by}
use Rattle.std.specs.declared.cmp.Ordering.{Ordering}
use Rattle.std.specs.declared.cmp.Ordering.TheVariants.{Less, Equal, Greater}
use Rattle.std.specs.Ordering.{nat_cmp, is_eq}
use Rattle.std.specs.Cmp.{nat_cmp_total, tied_itself, ranked}
use Rattle.std.specs.FinMap.{nat_cmp-IsAntisymmetric}
use Rattle.std.specs.List.Sorted.{IsNonDecreasingBy, IsPermutation, IsSorted}
use Rattle.std.proofs.lemmas.List.Sums.{sum_by-cons}
use Rattle.std.proofs.lemmas.List.Sorted.{sum_by-IsPermutation, IsNonDecreasingBy-from_sort}
use Rattle.ztree.proofs.Maps.{not_tied}

-- no number of the list is below n
abbrev pub AtLeast : ℕ → List ℕ → Type 0
AtLeast n [] = Unit {0}
AtLeast n (x ∷ xs) = (n ≤ x) × AtLeast n xs

-- no number is below one before it
abbrev pub Rises : List ℕ → Type 0
Rises [] = Unit {0}
Rises (x ∷ xs) = AtLeast x xs × Rises xs

-- how often n occurs in the list
abbrev pub count : ℕ → List ℕ → ℕ
count n [] = 0
count n (x ∷ xs) = cond (is_eq (nat_cmp n x)) 1 0 + count n xs

pub AtLeast-less : (m n : ℕ) (xs : List ℕ) → m ≤ n → AtLeast n xs → AtLeast m xs
AtLeast-less m n [] le all = tt
AtLeast-less m n (x ∷ xs) le all = (omega (arith, all.0), AtLeast-less m n xs le all.1)

rises-by_place : (xs : List ℕ) → IsNonDecreasingBy (λ x. x) xs → Rises xs
rises-by_place [] up = tt
rises-by_place (x ∷ []) up = (tt, tt)
rises-by_place (x ∷ (y ∷ xs)) up =
    let rest = rises-by_place (y ∷ xs) (λ i j d le lt. up (suc i) (suc j) d (omega arith) (omega arith)) in
    let first : x ≤ y = up 0 1 0 (omega arith) (omega arith) in
    ((first, AtLeast-less x y xs first rest.0), rest)

pub rises-sorted : (xs : List ℕ) → IsSorted nat_cmp xs → Rises xs
rises-sorted xs sorted = rises-by_place xs (IsNonDecreasingBy-from_sort (λ x. x) xs sorted)

pub count-here : (n : ℕ) (xs : List ℕ) → count n (n ∷ xs) ≡ 1 + count n xs
count-here n xs = ap (λ r. cond (is_eq r) 1 0 + count n xs) (tied_itself nat_cmp_total n)

apart : (n x : ℕ) → x ≢ n → is_eq (nat_cmp n x) ≡ false
apart n x other = not_tied nat_cmp_total nat_cmp-IsAntisymmetric n x (λ e. other (sym e))

pub count-other : (n x : ℕ) (xs : List ℕ) → x ≢ n → count n (x ∷ xs) ≡ count n xs
count-other n x xs other =
    let none : count n (x ∷ xs) ≡ 0 + count n xs = ap (λ b. cond b 1 0 + count n xs) (apart n x other) in
    omega (arith, none)

count-below : (n m : ℕ) (xs : List ℕ) → n < m → AtLeast m xs → count n xs ≡ 0
count-below n m [] low all = refl
count-below n m (x ∷ xs) low all =
    count-other n x xs (λ e. absurd (omega (arith, e, all.0))) ∙ count-below n m xs low all.1

by_order : {A : Type 0} (x y : ℕ) → (x < y → A) → (x ≡ y → A) → (y < x → A) → A
by_order {A = A} x y less equal more = by (nat_cmp x y) refl
  where
    by : (r : Ordering) → r ≡ nat_cmp x y → A
    by Less e = less (ranked x y Less e)
    by Equal e = equal (ranked x y Equal e)
    by Greater e = more (ranked x y Greater e)

pub same-rising : (xs ys : List ℕ) → Rises xs → Rises ys → ((n : ℕ) → count n xs ≡ count n ys) → xs ≡ ys
same-rising [] [] a b alike = refl
same-rising [] (y ∷ ys) a b alike = absurd (omega (arith, alike y, count-here y ys))
same-rising (x ∷ xs) [] a b alike = absurd (omega (arith, alike x, count-here x xs))
same-rising (x ∷ xs) (y ∷ ys) a b alike =
    let rest = λ (e : x ≡ y). same-rising xs ys a.1 b.1 (λ n.
    let left : count n (x ∷ xs) ≡ cond (is_eq (nat_cmp n x)) 1 0 + count n xs = refl in
    let right : count n (y ∷ ys) ≡ cond (is_eq (nat_cmp n x)) 1 0 + count n ys = ap (λ z. cond (is_eq (nat_cmp n z)) 1 0 + count n ys) (sym e) in
    omega (arith, left, right, alike n)) in
    by_order x y
    (λ less. absurd (omega (arith, alike x, count-here x xs, count-below x y (y ∷ ys) less (omega arith, b.0))))
    (λ e i. e i ∷ rest e i)
    (λ more. absurd (omega (arith, alike y, count-here y ys, count-below y x (x ∷ xs) more (omega arith, a.0))))

counted : (n : ℕ) (xs : List ℕ) → count n xs ≡ sum_by (λ x. cond (is_eq (nat_cmp n x)) 1 0) xs
counted n [] = refl
counted n (x ∷ xs) = ap (λ k. cond (is_eq (nat_cmp n x)) 1 0 + k) (counted n xs) ∙ sym (sum_by-cons (λ x. cond (is_eq (nat_cmp n x)) 1 0) x xs)

pub count-permutation : (n : ℕ) (xs ys : List ℕ) → IsPermutation xs ys → count n ys ≡ count n xs
count-permutation n xs ys moved =
    counted n ys ∙ sum_by-IsPermutation (λ x. cond (is_eq (nat_cmp n x)) 1 0) xs ys moved ∙ sym (counted n xs)
