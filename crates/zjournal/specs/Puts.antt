-- What an unfinished put leaves.
use Rattle.std.specs.Prelude.{◌≡◌, ◌⊎◌}
use Rattle.zjournal.specs.declared.fault.PutError.{PutError}
use Rattle.zjournal.specs.declared.fault.PutError.TheVariants.{Memory, Failed, NotText, Full, Closed}
use Rattle.zjournal.specs.declared.journal.Journal.{Journal}
use Rattle.zjournal.specs.Journal.{IsOpen}

-- no device call was made, or the journal takes nothing more
abbrev pub IsLeftBy : {D : Type 0} → PutError → Journal D → Journal D → Type 0
IsLeftBy Memory old new = (new ≡ old) ⊎ (IsOpen new → ⊥)
IsLeftBy Failed old new = IsOpen new → ⊥
IsLeftBy NotText old new = new ≡ old
IsLeftBy Full old new = new ≡ old
IsLeftBy Closed old new = (new ≡ old) × (IsOpen old → ⊥)
