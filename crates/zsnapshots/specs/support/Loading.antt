-- What a reader of rows with bytes of their own holds.
use Rattle.std.specs.Prelude.{◌≡◌, ℕ, List, [], ◌∷◌, ◌++◌, map, Option, Result, OnOk, IfErr, refl}
use Rattle.std.specs.Coded.{Coded, code_by, coded×, coded_option}
use Rattle.std.specs.List.{AllByRecursion}
use Rattle.zops.specs.Machine.{MachineState}
use Rattle.zsnapshots.specs.declared.header.Header.{Header}
use Rattle.zsnapshots.specs.declared.fault.RowFault.{RowFault}
use Rattle.zsnapshots.specs.declared.fault.RowFault.TheVariants.{Memory}
use Rattle.zsnapshots.specs.contracts.header.Header as header
use Rattle.zsnapshots.specs.States.{StateRow, ReadingView, Fits, spelled, rows_of, IsReadable}
use Rattle.zsnapshots.specs.Loading.{LoadingView, rows_from}
use Rattle.zsnapshots.specs.support.Reading.{coded_reading}

-- how what was taken so far is stored
abbrev pub coded_loading : Coded LoadingView
coded_loading =
    code_by (Option Header × Option ReadingView)
    (coded× (coded_option header.the_row.coded) (coded_option coded_reading))
    (λ l. (l.header, l.reading)) (λ p. record { header = p.0; reading = p.1 }) (λ _. refl)

-- a readable state whose bytes begin with those of these rows begins with these rows
abbrev pub ReportTheState : List StateRow → Type 0
ReportTheState rows =
    (s : MachineState) (rest : List (List ℕ)) → IsReadable s →
    map spelled (rows_of s) ≡ map spelled rows ++ rest →
    (more : List StateRow) × (rows_of s ≡ rows ++ more) × (map spelled more ≡ rest)

-- the rows that were taken
abbrev pub AreLoaded : List StateRow → Type 0
AreLoaded rows = AllByRecursion Fits rows × ReportTheState rows

abbrev pub IsLoading : Option Header → Option ReadingView → Type 0
IsLoading header reading = AreLoaded (rows_from header reading)

-- The row of a readable state that comes after these rows is taken, unless memory runs out.
abbrev pub NeverRefusesNext : List StateRow → List StateRow → Result (Unit {0}) RowFault →
    List ℕ → Type 0
NeverRefusesNext before after result bytes =
    (s : MachineState) (x : StateRow) (rest : List StateRow) → IsReadable s →
    rows_of s ≡ before ++ x ∷ rest → bytes ≡ spelled x →
    OnOk result (after ≡ before ++ x ∷ []) × IfErr result (λ fault. fault ≡ Memory)
