-- Lists of lists of ends, of which each element says something.
use Rattle.std.proofs.Common.{◌≡◌, ◌<◌, ◌+◌, ◌⊎◌, inl, inr, ⊎_elim, refl, ℕ, zero, suc, List, [], ◌∷◌, Option, Some, None, true≢false, IfSome, IsTrue, is_some, map, length, set, get_or, sym, ap, ◌∙◌, subst, arith}
use Rattle.std.proofs.lemmas.List.{length-map, get_or-map}
use Rattle.std.proofs.Math.Seq.{map-set_same}
use Rattle.std.specs.declared.alloc.Global.{Global}
use Rattle.std.specs.declared.vec.Vec.{Vec}
use Rattle.std.specs.Vec.{with_item}
use mathlib.Core.Option.{some, some-injective, some-ne-none}
use lib.ListN.{get_elem?}
use Rattle.atomic_table.proofs.Lists.{at_index}

-- what an element says is at its position
at_place : {A B : Type 0} (f : A → B) (xs : List A) (i : ℕ) (x : A) → i < length xs → x ≡ get_or xs i x → get_elem? (map f xs) i ≡ some (f x)
at_place f xs i x lt is =
    at_index (map f xs) i (f x) (subst (λ m. i < m) (sym (length-map xs f)) lt) (ap f is ∙ sym (get_or-map f xs i x (f x) lt))

module _ {A B : Type 0} (f : A → B) where
  -- what all elements say
  abbrev pub said : List (Vec A Global) → List (List B)
  said rows = map (λ row. map f row.items) rows

  pub row_at : (rows : List (Vec A Global)) (i : ℕ) (row : Vec A Global) → i < length rows → row ≡ get_or rows i row
      → get_elem? (said rows) i ≡ some (map f row.items)
  row_at rows i row lt is = at_place (λ (r : Vec A Global). map f r.items) rows i row lt is

  pub end_at : (row : Vec A Global) (j : ℕ) (x : A) → j < length row.items → x ≡ get_or row.items j x
      → get_elem? (map f row.items) j ≡ some (f x)
  end_at row j x lt is = at_place f row.items j x lt is

  -- an end is replaced by one that says the same
  pub said_same : (rows : List (Vec A Global)) (i j : ℕ) (row : Vec A Global) (x y : A) → row ≡ get_or rows i row → x ≡ get_or row.items j x
      → f y ≡ f x → said (set rows i (with_item row j y)) ≡ said rows
  said_same rows i j row x y at is same =
      map-set_same (λ (r : Vec A Global). map f r.items) rows i (with_item row j y) row
      (map-set_same f row.items j y x (same ∙ ap f is) ∙ ap (λ (r : Vec A Global). map f r.items) at)

  -- a row is as long as what its ends say
  pub long : (row : Vec A Global) (n : ℕ) → length (map f row.items) ≡ n → length row.items ≡ n
  long row n e = sym (length-map row.items f) ∙ e

-- what is at one position is one
pub one_there : {X : Type 0} (xs : List X) (i : ℕ) (a b : X) → get_elem? xs i ≡ some a → get_elem? xs i ≡ some b → a ≡ b
one_there xs i a b p q = some-injective a b (sym p ∙ q)

-- what is true of an answer that is there
pub if_some : {X : Type 0} {P : X → Type 0} (o : Option X) → IfSome o P → IsTrue (is_some o) → (x : X) × P x
if_some None p is = absurd (true≢false (sym is))
if_some (Some x) p is = (x, p)

-- a position where something is, is within
pub within : {X : Type 0} (xs : List X) (i : ℕ) (x : X) → get_elem? xs i ≡ some x → i < length xs
within [] i x at = absurd (some-ne-none x (sym at))
within (y ∷ ys) zero x at = omega arith
within (y ∷ ys) (suc i) x at = let w = within ys i x at in omega (arith, w)

-- below the next number is below this one, or this one
pub at_most : (i n : ℕ) → i < n + 1 → (i < n) ⊎ (i ≡ n)
at_most zero zero lt = inr refl
at_most zero (suc n) lt = inl (omega arith)
at_most (suc i) zero lt = absurd (omega (arith, lt))
at_most (suc i) (suc n) lt = ⊎_elim (λ h. inl (omega (arith, h))) (λ h. inr (ap suc h)) (at_most i n (omega (arith, lt)))
