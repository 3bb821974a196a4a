-- Lists that begin others.
use Rattle.std.proofs.Common.{◌≡◌, List, [], ◌∷◌, ◌++◌, length, refl, sym, ap, ◌∙◌, append_assoc, append-nil, arith}
use Rattle.zlinearizability.specs.legal.Prefix.{IsPrefix}

-- beginnings
pub prefix_same : {A : Type 0} (xs : List A) → IsPrefix xs xs
prefix_same xs = ([], sym (append-nil xs))

-- a beginning of a beginning is a beginning
pub prefix_of : {A : Type 0} (xs ys zs : List A) → IsPrefix xs ys → IsPrefix ys zs → IsPrefix xs zs
prefix_of xs ys zs h k = (h.0 ++ k.0, k.1 ∙ ap (λ l. l ++ k.0) h.1 ∙ append_assoc xs h.0 k.0)

-- a list is a prefix of one that continues
pub prefix_append : {A : Type 0} (xs ys : List A) → IsPrefix xs (xs ++ ys)
prefix_append xs ys = (ys, refl)

-- the empty list begins each
pub prefix_nil : {A : Type 0} (xs : List A) → IsPrefix [] xs
prefix_nil xs = (xs, refl)

-- the beginnings of one list that have one length are one
pub same_fronts : {A : Type 0} (xs ys us vs : List A) → xs ++ us ≡ ys ++ vs → length xs ≡ length ys → (xs ≡ ys) × (us ≡ vs)
same_fronts [] [] us vs e l = (refl, e)
same_fronts [] (y ∷ ys) us vs e l = absurd (omega arith)
same_fronts (x ∷ xs) [] us vs e l = absurd (omega arith)
same_fronts (x ∷ xs) (y ∷ ys) us vs e l =
    let heads : x ≡ y = cc e in let tails : xs ++ us ≡ ys ++ vs = cc e in
    let more = same_fronts xs ys us vs tails (omega arith) in
    (λ i. heads i ∷ more.0 i, more.1)
