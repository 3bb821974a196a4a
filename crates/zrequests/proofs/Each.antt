-- What each of some things means, from the left: one more of them, and lists one after the other.
use Rattle.std.proofs.Common.{◌≡◌, ◌<◌, ◌+◌, inl, inr, ℕ, List, [], ◌∷◌, ◌++◌, length, drop, Ok, Err, refl, sym, ap, ◌∙◌, append_assoc}
use Rattle.std.proofs.Math.ListN.{get_or}
use Rattle.std.proofs.lemmas.List.{drop_more, append-nil}
use Rattle.zrequests.specs.declared.fault.Unasked.{Unasked}
use Rattle.zrequests.specs.Asking.{Meaning, IsUnasked, then_means, each_in, each_behind}

-- what precedes the rest may be appended to what is known
behind_known : {B : Type 0} (rest : Meaning (List B)) (y : B) (known : List B)
    → then_means (then_means rest (λ more. Ok (y ∷ more))) (λ more. Ok (known ++ more))
    ≡ then_means rest (λ more. Ok ((known ++ y ∷ []) ++ more))
behind_known (Err fault) y known = refl
behind_known (Ok more) y known = rw append_assoc refl

-- one more is known
pub one_more : {A B : Type 0} (means : A → Meaning B) (xs : List A) (i : ℕ) (x : A) (y : B) (known : List B)
    → i < length xs → x ≡ get_or xs i x → means x ≡ Ok y
    → each_behind known means (drop i xs) ≡ each_behind (known ++ y ∷ []) means (drop (i + 1) xs)
one_more means xs i x y known more is read =
    rw (drop_more xs i x more, ← is, read) (behind_known (each_in means (drop (i + 1) xs)) y known)

-- with nothing known
pub behind_nothing : {A B : Type 0} (means : A → Meaning B) (xs : List A) → each_behind [] means xs ≡ each_in means xs
behind_nothing {A} {B} means xs = at (each_in means xs)
  where
    at : (rest : Meaning (List B)) → then_means rest (λ more. Ok ([] ++ more)) ≡ rest
    at (Err fault) = refl
    at (Ok more) = refl

-- a list after another
each_behind-append : {A B : Type 0} (means : A → Meaning B) (known : List B) (xs ys : List A)
    → each_behind known means (xs ++ ys) ≡ then_means (each_behind known means xs) (λ read. each_behind read means ys)
each_behind-append means known [] ys = ap (λ read. each_behind read means ys) (sym (append-nil known))
each_behind-append {A} {B} means known (x ∷ xs) ys = at (means x) (λ y. each_behind-append means (known ++ y ∷ []) xs ys)
  where
    at : (first : Meaning B)
        → ((y : B) → each_behind (known ++ y ∷ []) means (xs ++ ys) ≡ then_means (each_behind (known ++ y ∷ []) means xs) (λ read. each_behind read means ys))
        → then_means (then_means first (λ y. then_means (each_in means (xs ++ ys)) (λ more. Ok (y ∷ more)))) (λ more. Ok (known ++ more))
        ≡ then_means (then_means (then_means first (λ y. then_means (each_in means xs) (λ more. Ok (y ∷ more)))) (λ more. Ok (known ++ more))) (λ read. each_behind read means ys)
    at (Err fault) rest = refl
    at (Ok y) rest =
        behind_known (each_in means (xs ++ ys)) y known
        ∙ rest y
        ∙ ap (λ read. then_means read (λ read. each_behind read means ys)) (sym (behind_known (each_in means xs) y known))

-- three lists, one after the other
three_lists : {A B : Type 0} (means : A → Meaning B) (xs ys zs : List A)
    → each_in means (xs ++ ys ++ zs)
    ≡ then_means (then_means (each_behind [] means xs) (λ read. each_behind read means ys)) (λ read. each_behind read means zs)
three_lists means xs ys zs =
    sym (behind_nothing means (xs ++ ys ++ zs))
    ∙ each_behind-append means [] (xs ++ ys) zs
    ∙ ap (λ read. then_means read (λ read. each_behind read means zs)) (each_behind-append means [] xs ys)

-- by the first of them, by the first two, and by all three
pub by_one_list : {A B : Type 0} (means : A → Meaning B) (xs ys zs : List A) (first : Meaning (List B))
    → each_behind [] means xs ≡ first
    → each_in means (xs ++ ys ++ zs) ≡ then_means (then_means first (λ read. each_behind read means ys)) (λ read. each_behind read means zs)
by_one_list means xs ys zs first e =
    three_lists means xs ys zs
    ∙ ap (λ read. then_means (then_means read (λ read. each_behind read means ys)) (λ read. each_behind read means zs)) e

pub by_two_lists : {A B : Type 0} (means : A → Meaning B) (xs ys zs : List A) (known : List B) (second : Meaning (List B))
    → each_behind [] means xs ≡ Ok known → each_behind known means ys ≡ second
    → each_in means (xs ++ ys ++ zs) ≡ then_means second (λ read. each_behind read means zs)
by_two_lists means xs ys zs known second e f =
    by_one_list means xs ys zs (Ok known) e ∙ ap (λ read. then_means read (λ read. each_behind read means zs)) f

pub by_three_lists : {A B : Type 0} (means : A → Meaning B) (xs ys zs : List A) (known more : List B) (third : Meaning (List B))
    → each_behind [] means xs ≡ Ok known → each_behind known means ys ≡ Ok more → each_behind more means zs ≡ third
    → each_in means (xs ++ ys ++ zs) ≡ third
by_three_lists means xs ys zs known more third e f g = by_two_lists means xs ys zs known (Ok more) e f ∙ g

-- what isn't read of a list isn't read of all
pub unasked_as : {B : Type 0} (one : Meaning (List B)) (all : Meaning (List B)) (fault : Unasked)
    → ((f : Unasked) → one ≡ Err f → all ≡ Err f) → IsUnasked one fault → IsUnasked all fault
unasked_as one all fault stops (inl memory) = inl memory
unasked_as one all fault stops (inr is) = inr (stops fault is)
