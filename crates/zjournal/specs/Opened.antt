-- What opening read and left.
use Rattle.std.specs.Prelude.{◌≡◌, ℕ, List}
use Rattle.zjournal.specs.declared.place.Place.{Place}
use Rattle.zjournal.specs.Device.{Only}
use Rattle.zjournal.specs.Blocks.{AreTexts, at_rest}
use Rattle.zjournal.specs.Journal.{holdings, IsPlace}
use Rattle.zjournal.specs.Scan.{joined}

-- the text is that of the batches, and the file is at rest with them, up to this position
pub record IsRead {D : Type 0} (seen : D → List ℕ) (may_leave : D → List ℕ → Type 0) (servers : ℕ) (batches : List (List ℕ)) (text : List ℕ) (place : Place) (device : D) : Type 0 where
  pub texts : AreTexts (holdings place.start servers batches)
  pub text_is : text ≡ joined batches
  pub is_place : IsPlace servers batches place
  pub file : seen device ≡ at_rest (holdings place.start servers batches)
  pub durable : Only (seen device) (may_leave device)
