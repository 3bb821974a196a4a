-- How a journal's file is renewed: a new file with other batches is written beside it, block by
-- block. Then it is ended, and replaces the old one.
use Rattle.std.specs.Prelude.{◌≡◌, ℕ, List}
use Rattle.zjournal.specs.declared.fault.PutError.{PutError}
use Rattle.zjournal.specs.declared.fault.PutError.TheVariants.{Memory, Failed, NotText, Full, Closed}
use Rattle.zjournal.specs.declared.journal.Journal.{Journal}
use Rattle.zjournal.specs.Blocks.{AreTexts, blocks}
use Rattle.zjournal.specs.Journal.{device_of, holdings, IsAtRest, IsOpen, IsPlace}

-- of the new file: the length in bytes of its blocks, and the sum from which its first checksum
-- continues
abbrev pub renewed_size_of : {D : Type 0} → Journal D → ℕ
renewed_size_of journal = journal.renewed.end

abbrev pub renewed_start_of : {D : Type 0} → Journal D → ℕ
renewed_start_of journal = journal.renewed.start

-- the file is at rest with some batches, and the file beside it has the blocks of the next ones so
-- far
pub record IsRenewing {D : Type 0} (seen : D → List ℕ) (may_leave : D → List ℕ → Type 0) (beside : D → List ℕ) (servers : ℕ) (batches next : List (List ℕ)) (journal : Journal D) : Type 0 where
  pub rest : IsAtRest seen may_leave servers batches journal
  pub texts : AreTexts (holdings journal.renewed.start servers next)
  pub so_far : beside journal.device ≡ blocks (holdings journal.renewed.start servers next)
  pub place : IsPlace servers next journal.renewed

-- a journal that takes batches is being renewed
abbrev pub IsInRenewal : {D : Type 0} → (D → List ℕ) → (D → List ℕ → Type 0) → (D → List ℕ) → Journal D → Type 0
IsInRenewal seen may_leave beside journal = IsOpen journal → (servers : ℕ) × (batches next : List (List ℕ)) × IsRenewing seen may_leave beside servers batches next journal

-- at most the device has changed: the journal takes batches exactly if it did before
abbrev pub IsOnlyCalled : {D : Type 0} → Journal D → Journal D → Type 0
IsOnlyCalled old new = new ≡ record old { device = device_of new }

-- a new file isn't begun or written: the journal was open, and it is as it was
abbrev pub IsStoppedBy : {D : Type 0} → PutError → Journal D → Journal D → Type 0
IsStoppedBy Memory old new = IsOpen old × IsOnlyCalled old new
IsStoppedBy Failed old new = IsOpen old × IsOnlyCalled old new
IsStoppedBy NotText old new = new ≡ old
IsStoppedBy Full old new = new ≡ old
IsStoppedBy Closed old new = (new ≡ old) × (IsOpen old → ⊥)
