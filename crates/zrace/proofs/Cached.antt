-- What is true of all that were stored.
use Rattle.std.proofs.Common.{◌≡◌, ⊎_elim, List, [], ◌∷◌, ◌++◌, sym, subst, arith}
use Rattle.std.specs.Prelude.{All}
use Rattle.std.proofs.lemmas.List.Elements.{All-push, All-same}
use Rattle.zrace.specs.Cached.{IsKeptBehind}

pub all_kept : {X : Type 0} (P : X → Type 0) (old new : List X) (x : X) → IsKeptBehind old new x → All P old → P x → All P new
all_kept P old new x kept all one =
    ⊎_elim (λ grown. All-same P new (old ++ x ∷ []) grown (All-push P old x all one)) (λ same. All-same P new old same all) kept

-- of none there is nothing to say
pub all_of_none : {X : Type 0} (P : X → Type 0) (xs : List X) → xs ≡ [] → All P xs
all_of_none P xs none = subst (λ ys. All P ys) (sym none) (λ k d below. absurd (omega arith))
