-- What waits before the rings, where one link of many changes.
use Rattle.std.proofs.Common.{◌≡◌, ◌≢◌, ◌≤◌, ◌+◌, ◌||◌, ℕ, Bool, false, List, [], ◌∷◌, ◌++◌, length, set, refl, ◌∙◌, subst, ⊎_elim, arith}
use mathlib.Core.Option.{some}
use lib.ListN.{get_elem?}
use Rattle.atomic_table.proofs.Lists.{at_set}
use Rattle.zchannels.specs.declared.rings.Tx.{Tx}
use Rattle.zchannels.specs.declared.rings.Rx.{Rx}
use Rattle.zchannels.specs.Rings.{in_ring, put_of, waiting}
use Rattle.zthreads.specs.Waiting.{EachBelow, IsEmpty, NothingWaits, SeesNothing, SeesSome}
use Rattle.zthreads.proofs.Endings.{neither}
use Rattle.zthreads.proofs.Wires.{within}

module _ {X : Type 0} (P : X → Type 0) where
  -- one more of them is so
  pub below_set : (xs : List X) (n : ℕ) (y : X) → EachBelow P n xs → P y → EachBelow P (n + 1) (set xs n y)
  below_set xs n y below mine i x lt at =
      ⊎_elim (λ h. subst P h.1 mine) (λ h. let ne = h.0 in below i x (omega (arith, ne)) h.1) (at_set xs n i y x at)

  -- all of them are
  pub all_below : (xs : List X) (n : ℕ) → length xs ≤ n → EachBelow P n xs → (i : ℕ) (x : X) → get_elem? xs i ≡ some x → P x
  all_below xs n most below i x at = let w = within xs i x at in below i x (omega arith) at

back_of : {A : Type 0} (xs ys : List A) → xs ++ ys ≡ [] → ys ≡ []
back_of [] ys is = is
back_of (x ∷ xs) ys is = absurd (cc is)

module _ {M : Type 0} where
  -- where nothing was put, nothing waits
  pub fresh_is_empty : (t : Tx M) → put_of t ≡ [] → IsEmpty t
  fresh_is_empty t fresh = back_of _ (waiting t) fresh

  -- a link on which nothing waits now
  pub nothing_there : (outs : List (Tx M)) (k : ℕ) (y : Tx M) → IsEmpty y → NothingWaits outs → NothingWaits (set outs k y)
  nothing_there outs k y mine none i t is =
      ⊎_elim (λ h. subst IsEmpty h.1 mine) (λ h. none i t h.1) (at_set outs k i y t is)

  -- a link on which nothing more waits
  pub nothing_more : (outs : List (Tx M)) (k : ℕ) (x y : Tx M) → get_elem? outs k ≡ some x → waiting y ≡ waiting x
      → NothingWaits outs → NothingWaits (set outs k y)
  nothing_more outs k x y at same none = nothing_there outs k y (same ∙ none k x at) none

  -- a link of which it is noticed whether something waits on it
  pub nothing_noticed : (outs : List (Tx M)) (k : ℕ) (y : Tx M) (before there : Bool) → (before ≡ false → NothingWaits outs)
      → (there ≡ false → IsEmpty y)
      → (before || there) ≡ false → NothingWaits (set outs k y)
  nothing_noticed outs k y before there none mine is =
      let each = neither before there is in nothing_there outs k y (mine each.1) (none each.0)

  -- the end that was looked at is the one that is there now
  pub sees_nothing : (ins : List (Rx M)) (k : ℕ) (y : Rx M) → in_ring y ≡ [] → SeesNothing k (set ins k y)
  sees_nothing ins k y mine r at =
      ⊎_elim (λ h. subst (λ (x : Rx M). in_ring x ≡ []) h.1 mine) (λ h. absurd (h.0 refl)) (at_set ins k k y r at)

  pub sees_some : (ins : List (Rx M)) (k : ℕ) (y : Rx M) → in_ring y ≢ [] → SeesSome k (set ins k y)
  sees_some ins k y mine r at =
      ⊎_elim (λ h. subst (λ (x : Rx M). in_ring x ≢ []) h.1 mine) (λ h. absurd (h.0 refl)) (at_set ins k k y r at)
