-- What a file turns out to be.
use Rattle.std.specs.Prelude.{◌≡◌, ℕ, List, ◌++◌, drop}
use Rattle.zjournal.specs.declared.place.Place.{Place}
use Rattle.zjournal.specs.declared.reading.Found.{Found}
use Rattle.zjournal.specs.declared.reading.Found.TheVariants.{Unmade, Unopened, Cached}
use Rattle.zjournal.specs.Blocks.{AreTexts, blocks, IsEnd}
use Rattle.zjournal.specs.Journal.{holdings, IsPlace, IsUnmade, IsUnopened}
use Rattle.zjournal.specs.Scan.{joined}

-- it holds these batches, up to this position
pub record KeepsTo (servers : ℕ) (batches : List (List ℕ)) (place : Place) (file : List ℕ) : Type 0 where
  pub texts : AreTexts (holdings place.start servers batches)
  pub split : file ≡ blocks (holdings place.start servers batches) ++ drop place.end file
  pub is_place : IsPlace servers batches place
  pub counts_for_nothing : IsEnd (drop place.end file)

abbrev pub IsFound : ℕ → List ℕ → Found → Type 0
IsFound servers file Unmade = IsUnmade servers file
IsFound servers file Unopened = IsUnopened servers file × (IsUnmade servers file → ⊥)
IsFound servers file (Cached text place) = (batches : List (List ℕ)) × KeepsTo servers batches place file × (text.items ≡ joined batches)
