-- A state that is read from rows, each in bytes of its own.
use Rattle.std.specs.Prelude.{◌≡◌, ◌≢◌, ℕ, Bool, false, List, [], ◌∷◌, ◌++◌, map, Option, None, Some, Result, Ok, IfErr}
use Rattle.zcodec.specs.Choices.{sized}
use Rattle.zops.specs.Machine.{MachineState}
use Rattle.zwire.specs.declared.limits.TheConstants.{MAX_FRAME}
use Rattle.zsnapshots.specs.declared.header.Header.{Header}
use Rattle.zsnapshots.specs.declared.fault.RowFault.{RowFault}
use Rattle.zsnapshots.specs.declared.fault.RowFault.TheVariants.{Trailing, Memory}
use Rattle.zsnapshots.specs.Rows.{header_text}
use Rattle.zsnapshots.specs.States.{StateRow, ReadingView, Fits, spelled, rows_of, rows_so_far, is_done, IsReadable, IsRowFault, IsRootFault, IsNextFault}
use Rattle.zsnapshots.specs.States.StateRow.{OfHeader}

-- what was taken so far: nothing; the header; or the header, the root and the rows after them
pub record LoadingView : Type 0 where
  pub header : Option Header
  pub reading : Option ReadingView

-- nothing
abbrev pub nothing_loaded : LoadingView
nothing_loaded = record { header = None; reading = None }

-- the rows so far
abbrev pub rows_from : Option Header → Option ReadingView → List StateRow
rows_from header (Some r) = rows_so_far r
rows_from None None = []
rows_from (Some h) None = OfHeader h ∷ []

abbrev pub rows_loaded : LoadingView → List StateRow
rows_loaded l = rows_from l.header l.reading

-- their bytes, row by row
abbrev pub bytes_loaded : LoadingView → List (List ℕ)
bytes_loaded l = map spelled (rows_loaded l)

-- all rows that the header announces were taken
abbrev pub is_whole_from : Option ReadingView → Bool
is_whole_from None = false
is_whole_from (Some r) = is_done r

abbrev pub is_whole : LoadingView → Bool
is_whole l = is_whole_from l.reading

-- one row was taken: these are its bytes, and it comes after the rows so far
pub record IsLoaded (before after : List StateRow) (bytes : List ℕ) : Type 0 where
  pub x : StateRow
  pub fits : Fits x
  pub text : bytes ≡ spelled x
  pub rows : after ≡ before ++ x ∷ []

-- The bytes of a readable state's next row are refused only where memory runs out.
abbrev pub NeverRefusesAlone : List (List ℕ) → Result (Unit {0}) RowFault → List ℕ → Type 0
NeverRefusesAlone before result bytes =
    (s : MachineState) (rest : List (List ℕ)) → IsReadable s →
    map spelled (rows_of s) ≡ before ++ bytes ∷ rest → IfErr result (λ fault. fault ≡ Memory)

-- the rows of no readable state have these bytes
abbrev pub AreOfNone : List (List ℕ) → Type 0
AreOfNone rows = (s : MachineState) → IsReadable s → map spelled (rows_of s) ≢ rows

-- the bytes begin with a whole frame, and more follows
abbrev pub IsFollowed : List ℕ → Type 0
IsFollowed bytes =
    (text : List ℕ) × (rest : List ℕ) × ((sized MAX_FRAME).read bytes ≡ Ok (text, rest)) ×
    (rest ≢ [])

-- the fault of the row that comes next
abbrev pub IsFaultFrom : Option Header → Option ReadingView → List ℕ → RowFault → Type 0
IsFaultFrom header (Some r) bytes fault = IsNextFault r bytes fault
IsFaultFrom None None bytes fault =
    IsRowFault header_text (λ h. Unit {0}) (λ h. Unit {0}) bytes fault
IsFaultFrom (Some h) None bytes fault = IsRootFault h bytes fault

-- Which fault it is: that of a row that isn't alone; or else that of the row that comes next.
abbrev pub IsLoadingFault : LoadingView → List ℕ → RowFault → Type 0
IsLoadingFault l bytes Trailing = IsFollowed bytes
IsLoadingFault l bytes fault = (IsFollowed bytes → ⊥) × IsFaultFrom l.header l.reading bytes fault
