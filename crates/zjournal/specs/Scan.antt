-- How the blocks of a file are read in order.
use Rattle.std.specs.Prelude.{◌≡◌, ℕ, ◌+◌, ◌<◌, ◌≤◌, List, [], ◌∷◌, ◌++◌, length, drop}
use Rattle.zjournal.specs.declared.place.Place.{Place}
use Rattle.zjournal.specs.declared.fault.OpenError.{OpenError}
use Rattle.zjournal.specs.declared.fault.OpenError.TheVariants as fault
use Rattle.zjournal.specs.Blocks.{IsText, AreTexts, blocks}
use Rattle.zjournal.specs.Checksum.{adler_after, sum_after_all, stamped, stamped_all}

-- a text from there on ends with the 0 here
abbrev pub EndsAt : List ℕ → ℕ → ℕ → Type 0
EndsAt bytes start at = (at < length bytes)
    × ((text : List ℕ) × (drop start bytes ≡ text ++ 0 ∷ drop (at + 1) bytes) × (at ≡ start + length text) × IsText text)

-- the batch is in the block at this position, and the next block goes there
pub record IsBatch (bytes : List ℕ) (place : Place) (batch : List ℕ) (there : Place) : Type 0 where
  pub text : IsText (stamped place.sum batch)
  pub within : there.end ≤ length bytes
  pub stands : drop (place.end + 1) bytes ≡ stamped place.sum batch ++ 0 ∷ drop there.end bytes
  pub long : there.end ≡ place.end + (length (stamped place.sum batch) + 2)
  pub same : there.start ≡ place.start
  pub goes_on : there.sum ≡ adler_after place.sum batch

-- no batch is in a block at this position
abbrev pub IsNoBatch : List ℕ → Place → Type 0
IsNoBatch bytes place = (batch more : List ℕ) → IsText (stamped place.sum batch) → drop (place.end + 1) bytes ≡ stamped place.sum batch ++ 0 ∷ more → ⊥

-- all texts in order, joined
abbrev pub joined : List (List ℕ) → List ℕ
joined [] = []
joined (text ∷ texts) = text ++ joined texts

-- the blocks of these batches reach from one position to another
pub record AreBatches (bytes : List ℕ) (start : Place) (batches : List (List ℕ)) (last : Place) : Type 0 where
  pub texts : AreTexts (stamped_all start.sum batches)
  pub within : last.end ≤ length bytes
  pub stand : drop start.end bytes ≡ blocks (stamped_all start.sum batches) ++ drop last.end bytes
  pub long : last.end ≡ start.end + length (blocks (stamped_all start.sum batches))
  pub same : last.start ≡ start.start
  pub goes_on : last.sum ≡ sum_after_all start.sum batches

-- after some batches is a set commit byte at this index, and after it something that is no batch
abbrev pub IsOtherAt : List ℕ → Place → ℕ → Type 0
IsOtherAt bytes start commit_byte = (batches : List (List ℕ)) × (last : Place) × AreBatches bytes start batches last × (commit_byte ≡ last.end)
    × (drop last.end bytes ≡ 1 ∷ drop (last.end + 1) bytes) × (last.end + 1 < length bytes) × IsNoBatch bytes last

abbrev pub IsOther : List ℕ → Place → OpenError → Type 0
IsOther bytes start fault.Memory = Unit {0}
IsOther bytes start (fault.Damaged commit_byte) = IsOtherAt bytes start commit_byte
IsOther bytes start e = ⊥
