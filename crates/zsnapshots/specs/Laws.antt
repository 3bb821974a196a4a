-- Laws of the definitions.
use Rattle.std.specs.Prelude.{◌≡◌, ◌≢◌, ℕ, ◌+◌, ◌≤◌, true, List, [], ◌++◌, length, map}
use Rattle.zcodec.specs.Forms.{Form}
use Rattle.zcodec.specs.Laws.{IsForm}
use Rattle.zops.specs.Machine.{MachineState}
use Rattle.zwire.specs.declared.fault.FrameFault.{FrameFault}
use Rattle.zwire.specs.declared.fault.FrameFault.TheVariants.{Cut}
use Rattle.zwire.specs.Frames.{IsFaultOf}
use Rattle.zsnapshots.specs.declared.limits.TheConstants.{MAX_ROW}
use Rattle.zsnapshots.specs.Rows.{row}
use Rattle.zsnapshots.specs.States.{StateRow, ReadingView, Fits, spelled, rows_of, text_of, rows_so_far, IsReadable, is_done}

-- what is read was spelled so, and fits; what fits is read again; a row without its end is cut; of
-- what isn't cut, no more bytes make a row
pub record AreRows {A : Type 0} (c : Form A) : Type 0 where
  pub form : IsForm (row c)
  pub cut : (x : A) (front back : List ℕ) → (row c).Fits x → (row c).spell x ≡ front ++ back →
      back ≢ [] → IsFaultOf c front Cut
  pub stays : (bytes more : List ℕ) (fault : FrameFault) → fault ≢ Cut →
      IsFaultOf c bytes fault → IsFaultOf c (bytes ++ more) fault

-- no row of a state has more bytes after its length than this
abbrev pub RowsAreShort : Type 0
RowsAreShort = (x : StateRow) → Fits x → length (spelled x) ≤ MAX_ROW + 4

-- two states with the same rows are one
abbrev pub RowsAreOfOneState : Type 0
RowsAreOfOneState = (s w : MachineState) → rows_of s ≡ rows_of w → s ≡ w

-- two readable states whose rows have the same bytes are one
abbrev pub RowsAreDistinct : Type 0
RowsAreDistinct =
    (s w : MachineState) → IsReadable s → IsReadable w →
    map spelled (rows_of s) ≡ map spelled (rows_of w) → s ≡ w

-- no list of rows begins with those of two different readable states
abbrev pub OneStateInFront : Type 0
OneStateInFront =
    (s w : MachineState) (rest more : List (List ℕ)) → IsReadable s → IsReadable w →
    map spelled (rows_of s) ++ rest ≡ map spelled (rows_of w) ++ more → (s ≡ w) × (rest ≡ more)

-- and no text with the bytes of two
abbrev pub OneStateInFrontOfText : Type 0
OneStateInFrontOfText =
    (s w : MachineState) (rest more : List ℕ) → IsReadable s → IsReadable w →
    text_of s ++ rest ≡ text_of w ++ more → (s ≡ w) × (rest ≡ more)

-- once the rows of a state were read, none that its header announces is missing
abbrev pub NoneIsMissing : Type 0
NoneIsMissing = (s : MachineState) (r : ReadingView) → rows_of s ≡ rows_so_far r → is_done r ≡ true
