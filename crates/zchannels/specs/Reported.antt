-- What was sent on each channel, and what was received from it.
use Rattle.std.specs.Prelude.{◌≡◌, ℕ, List, ◌++◌, map}
use mathlib.Core.Option.{some}
use lib.ListN.{get_elem?}
use Rattle.std.specs.declared.alloc.Global.{Global}
use Rattle.std.specs.declared.vec.Vec.{Vec}
use Rattle.zchannels.specs.declared.rings.Tx.{Tx}
use Rattle.zchannels.specs.declared.rings.Rx.{Rx}
use Rattle.zchannels.specs.Rings.{put_of, taken_of}

-- what each process sent, by the index of the other
abbrev pub out_lists : {M : Type 0} → List (Vec (Tx M) Global) → List (List (List M))
out_lists rows = map (λ row. map put_of row.items) rows

-- what each process received, by the index of the other
abbrev pub in_lists : {M : Type 0} → List (Vec (Rx M) Global) → List (List (List M))
in_lists columns = map (λ column. map taken_of column.items) columns

-- what the one received from the other is a prefix of what the other sent to it
abbrev pub IsReportedAt : {M : Type 0} → List (List (List M)) → List (List (List M)) → ℕ → ℕ → Type 0
IsReportedAt {M} outs ins i j =
    (row column : List (List M)) (put taken : List M)
    → get_elem? outs i ≡ some row → get_elem? row j ≡ some put
    → get_elem? ins j ≡ some column → get_elem? column i ≡ some taken
    → (rest : List M) × (put ≡ taken ++ rest)

-- the ends of the channel from the one to the other show this
abbrev pub ReportIt : {M : Type 0} → List (Vec (Tx M) Global) → List (Vec (Rx M) Global) → ℕ → ℕ → Type 0
ReportIt outs ins from to = IsReportedAt (out_lists outs) (in_lists ins) from to

-- each received from each a prefix of what the other sent to it
abbrev pub AreReported : {M : Type 0} → List (List (List M)) → List (List (List M)) → Type 0
AreReported outs ins = (i j : ℕ) → IsReportedAt outs ins i j
