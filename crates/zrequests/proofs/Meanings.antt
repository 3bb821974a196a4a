-- What holds of each value that a meaning gives.
use Rattle.std.proofs.Common.{◌≡◌, Bool, true, false, if◌then◌else◌, List, [], ◌∷◌, Ok, Err, refl, subst}
use Rattle.std.specs.List.{AllByRecursion}
use Rattle.zrequests.specs.declared.fault.Unasked.{Unasked}
use Rattle.zrequests.specs.Asking.{Meaning, then_means, each_in}

-- the steps of a meaning: what is done, what is refused, a choice, and what comes next
abbrev pub meant : {A : Type 0} → A → Meaning A
meant x = Ok x

abbrev pub unmeant : {A : Type 0} → Unasked → Meaning A
unmeant fault = Err fault

pub done : {A : Type 0} (P : A → Type 0) (y : A) → P y → (x : A) → meant y ≡ meant x → P x
done P y p x e = let same : y ≡ x = cc in subst P same p

pub never : {A : Type 0} (P : A → Type 0) (fault : Unasked) (x : A) → unmeant fault ≡ meant x → P x
never P fault x e = cc

pub choice : {A : Type 0} (P : A → Type 0) (test : Bool) (m n : Meaning A) → ((x : A) → m ≡ Ok x → P x) → ((x : A) → n ≡ Ok x → P x) → (x : A) → (if test then m else n) ≡ Ok x → P x
choice P true m n first second = first
choice P false m n first second = second

pub through : {A B : Type 0} (P : A → Type 0) (Q : B → Type 0) (m : Meaning A) (next : A → Meaning B)
    → ((x : A) → m ≡ Ok x → P x) → ((x : A) → P x → (y : B) → next x ≡ Ok y → Q y) → (y : B) → then_means m next ≡ Ok y → Q y
through P Q (Err fault) next first second y e = cc
through P Q (Ok x) next first second y e = second x (first x refl) y e

-- what comes next, whatever was read
pub behind : {A B : Type 0} (Q : B → Type 0) (m : Meaning A) (next : A → Meaning B) → ((x : A) (y : B) → next x ≡ Ok y → Q y) → (y : B) → then_means m next ≡ Ok y → Q y
behind Q m next on = through (λ x. Unit {0}) Q m next (λ x e. tt) (λ x p. on x)

-- each of a list
pub each_for : {A B : Type 0} (P : B → Type 0) (means : A → Meaning B) → ((x : A) (y : B) → means x ≡ Ok y → P y)
    → (xs : List A) (ys : List B) → each_in means xs ≡ Ok ys → AllByRecursion P ys
each_for P means each [] = done (AllByRecursion P) [] tt
each_for P means each (x ∷ xs) =
    through P (AllByRecursion P) (means x) (λ y. then_means (each_in means xs) (λ ys. Ok (y ∷ ys))) (each x)
    (λ y is. through (AllByRecursion P) (AllByRecursion P) (each_in means xs) (λ ys. Ok (y ∷ ys)) (each_for P means each xs)
    (λ ys are. done (AllByRecursion P) (y ∷ ys) (is, are)))
