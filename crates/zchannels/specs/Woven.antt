-- The rings between processes: a row for each process, of those that it sends on, and a column for
-- each, of those that it receives from.
use Rattle.std.specs.Prelude.{◌≡◌, ℕ, List, [], ◌∷◌, ◌++◌, length, map, All}
use mathlib.Core.Option.{some}
use lib.ListN.{get_elem?}
use Rattle.std.specs.declared.alloc.Global.{Global}
use Rattle.std.specs.declared.vec.Vec.{Vec}
use Rattle.zchannels.specs.declared.rings.Tx.{Tx}
use Rattle.zchannels.specs.declared.rings.Rx.{Rx}
use Rattle.zchannels.specs.Rings.{Ring, put_of, ring_of_rx, ring_of_tx, taken_of}

-- the rings of the ends
abbrev pub out_rings : {M : Type 0} → List (Vec (Tx M) Global) → List (List Ring)
out_rings rows = map (λ row. map ring_of_tx row.items) rows

abbrev pub in_rings : {M : Type 0} → List (Vec (Rx M) Global) → List (List Ring)
in_rings columns = map (λ column. map ring_of_rx column.items) columns

-- nothing was sent, and nothing was received
abbrev pub AreBlankOuts : {M : Type 0} → List (Vec (Tx M) Global) → Type 0
AreBlankOuts rows = All (λ row. All (λ tx. put_of tx ≡ []) row.items) rows

abbrev pub AreBlankIns : {M : Type 0} → List (Vec (Rx M) Global) → Type 0
AreBlankIns columns = All (λ column. All (λ rx. taken_of rx ≡ []) column.items) columns

-- each has n ends
abbrev pub AreWide : {X : Type 0} → ℕ → List (Vec X Global) → Type 0
AreWide n ends = All (λ e. length e.items ≡ n) ends

-- each of n processes has a ring to each and from each; the ring on which one sends to another is
-- that from which the other receives
pub record IsWoven (n : ℕ) (outs ins : List (List Ring)) : Type 0 where
  pub rows : length outs ≡ n
  pub columns : length ins ≡ n
  pub each_row : (i : ℕ) (row : List Ring) → get_elem? outs i ≡ some row → length row ≡ n
  pub each_column : (j : ℕ) (column : List Ring) → get_elem? ins j ≡ some column → length column ≡ n
  pub ends : (i j : ℕ) (row column : List Ring) (a b : Ring)
      → get_elem? outs i ≡ some row → get_elem? row j ≡ some a
      → get_elem? ins j ≡ some column → get_elem? column i ≡ some b → a ≡ b

-- the ends are those of such rings
abbrev pub AreWoven : {M : Type 0} → ℕ → List (Vec (Tx M) Global) → List (Vec (Rx M) Global) → Type 0
AreWoven n outs ins = IsWoven n (out_rings outs) (in_rings ins)

-- the columns with one ring more at the end of each
abbrev pub with_row : List (List Ring) → List Ring → List (List Ring)
with_row [] row = []
with_row (column ∷ columns) [] = column ∷ columns
with_row (column ∷ columns) (ring ∷ row) = (column ++ ring ∷ []) ∷ with_row columns row

-- each column has one more end, that of the ring at its index in the row
abbrev pub HasRowMore : {M : Type 0} → List (Vec (Rx M) Global) → List (Vec (Rx M) Global) → List (Tx M) → Type 0
HasRowMore old new row = in_rings new ≡ with_row (in_rings old) (map ring_of_tx row)
