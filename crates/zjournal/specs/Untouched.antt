-- What the steps of a renewal leave of the old file: nothing of it changes before it is replaced.
use Rattle.std.specs.Prelude.{◌≡◌, ◌⊎◌, ℕ, List, [], ◌∷◌, ◌++◌}
use Rattle.zjournal.specs.Device.{Only, LeavesOnly}

-- a read returns the same, all of it durable, and so was what a crash left at every moment
pub record IsUntouched {D : Type 0} (seen : D → List ℕ) (may_leave : D → List ℕ → Type 0) (moment : D → ℕ) (left_since : D → ℕ → List ℕ → Type 0) (old new : D) : Type 0 where
  pub same : seen new ≡ seen old
  pub durable : Only (seen new) (may_leave new)
  pub any_moment : LeavesOnly moment left_since old new (λ c. c ≡ seen old)

-- the old file, or the new one with a clear commit byte after it
abbrev pub IsTaking : List ℕ → List ℕ → List ℕ → Type 0
IsTaking old next c = (c ≡ old) ⊎ (c ≡ next ++ 0 ∷ [])
