use Rattle.std.proofs.Common.{◌≡◌, Option, map, sym, subst}
use Rattle.std.specs.Prelude.{IfNone}
use Rattle.zops.specs.Machine.{MachineState}
use Rattle.zsnapshots.specs.States.{ReadingView, spelled, rows_of, rows_so_far}
use Rattle.zsnapshots.specs.Loading.{LoadingView, rows_from, bytes_loaded, AreOfNone}
use Rattle.zsnapshots.specs.support.Loading.{AreLoaded}
use Rattle.zsnapshots.proofs.Loaded.{of_none, header_of_none, on_none}
use Rattle.zsnapshots.proofs.loading.Loading.finish.Goals as goal

pub returns-in-Some-clause-none : goal.returns-in-Some-clause-none
returns-in-Some-clause-none c =
    let i = c.self.inside in
    let are = subst (λ (r : Option ReadingView). AreLoaded (rows_from i.header r)) c.in-Some.is c.self.invariant in
    subst (λ (l : LoadingView). IfNone c.finished.result (AreOfNone (bytes_loaded l))) c.self.view_is
    (subst (λ (r : Option ReadingView). IfNone c.finished.result (AreOfNone (map spelled (rows_from i.header r)))) (sym c.in-Some.is)
    (on_none c.finished.result _ _ (of_none (rows_so_far c.in-Some.reading) are)
    (subst (λ (r : ReadingView). IfNone c.finished.result ((s : MachineState) → rows_of s ≡ rows_so_far r → ⊥))
    c.in-Some.reading-is c.finished.ensures.none)))

pub returns-in-None-clause-none : goal.returns-in-None-clause-none
returns-in-None-clause-none c =
    let i = c.self.inside in
    let are = subst (λ (r : Option ReadingView). AreLoaded (rows_from i.header r)) c.in-None.is c.self.invariant in
    subst (λ (l : LoadingView). AreOfNone (bytes_loaded l)) c.self.view_is
    (subst (λ (r : Option ReadingView). AreOfNone (map spelled (rows_from i.header r))) (sym c.in-None.is) (header_of_none i.header are))
