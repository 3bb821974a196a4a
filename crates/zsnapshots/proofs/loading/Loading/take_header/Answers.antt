use Rattle.std.proofs.Common.{◌≡◌, [], ◌∷◌, Option, Some, None, Ok, Err, sym, ap, subst, ◌∙◌}
use Rattle.zsnapshots.specs.declared.header.Header.{Header}
use Rattle.zsnapshots.specs.declared.fault.RowFault.{RowFault}
use Rattle.zsnapshots.specs.States.{ReadingView}
use Rattle.zsnapshots.specs.States.StateRow.{OfHeader}
use Rattle.zsnapshots.specs.Loading.{LoadingView, rows_from, rows_loaded, IsLoaded}
use Rattle.zsnapshots.specs.support.Loading.{AreLoaded, NeverRefusesNext}
use Rattle.zsnapshots.specs.support.Faults.{of_frame}
use Rattle.zsnapshots.proofs.Loaded.{header_never_refused, header_never_taken_wrong, header_loaded, loaded_next, report_at_first}
use Rattle.zsnapshots.proofs.loading.Loading.take_header.Goals as goal

pub returns-in-Err-clause-only : goal.returns-in-Err-clause-only
returns-in-Err-clause-only c =
    let old = c.args.self.now in
    subst (λ (fault : RowFault). NeverRefusesNext (rows_loaded old) (rows_loaded old) (Err fault) c.args.row.now) (sym c.from.ensures)
    (subst (λ (l : LoadingView). NeverRefusesNext (rows_loaded l) (rows_loaded l) (Err (of_frame c.in-Err.fault)) c.args.row.now)
    (sym c.requires.nothing)
    (header_never_refused c.args.row.now [] c.in-Err.fault c.in-Err.ensures.fault))

pub returns-clause-taken : goal.returns-clause-taken
returns-clause-taken c =
    let i = c.self.inside in
    let h = c.in-Ok.read.0 in
    let found = c.in-Ok.ensures.found in
    let none : i.reading ≡ None = ap (λ (l : LoadingView). l.reading) (c.self.view_is ∙ c.requires.nothing) in
    subst (λ (l : LoadingView). IsLoaded (rows_loaded l) (rows_from (Some c.of.result) i.reading) c.args.row.now) (sym c.requires.nothing)
    (subst (λ (r : Option ReadingView). IsLoaded [] (rows_from (Some c.of.result) r) c.args.row.now) (sym none)
    (subst (λ (h : Header). IsLoaded [] (rows_from (Some h) None) c.args.row.now) (sym c.of.ensures)
    (header_loaded c.args.row.now c.in-Ok.read.1.now c.requires.alone h found.0 found.1)))

pub returns-clause-only : goal.returns-clause-only
returns-clause-only c =
    let i = c.self.inside in
    let h = c.in-Ok.read.0 in
    let found = c.in-Ok.ensures.found in
    let none : i.reading ≡ None = ap (λ (l : LoadingView). l.reading) (c.self.view_is ∙ c.requires.nothing) in
    subst (λ (l : LoadingView). NeverRefusesNext (rows_loaded l) (rows_from (Some c.of.result) i.reading) (Ok tt) c.args.row.now)
    (sym c.requires.nothing)
    (subst (λ (r : Option ReadingView). NeverRefusesNext [] (rows_from (Some c.of.result) r) (Ok tt) c.args.row.now) (sym none)
    (subst (λ (h : Header). NeverRefusesNext [] (rows_from (Some h) None) (Ok tt) c.args.row.now) (sym c.of.ensures)
    (header_never_taken_wrong h c.args.row.now c.in-Ok.read.1.now found.0 found.1)))

pub invariant_of-self : goal.invariant_of-self
invariant_of-self c =
    let i = c.self.inside in
    let h = c.in-Ok.read.0 in
    let found = c.in-Ok.ensures.found in
    let none : i.reading ≡ None = ap (λ (l : LoadingView). l.reading) (c.self.view_is ∙ c.requires.nothing) in
    subst (λ (r : Option ReadingView). AreLoaded (rows_from (Some c.of.result) r)) (sym none)
    (subst (λ (h : Header). AreLoaded (rows_from (Some h) None)) (sym c.of.ensures)
    (loaded_next [] (OfHeader h ∷ []) c.args.row.now (tt, report_at_first) (header_loaded c.args.row.now c.in-Ok.read.1.now
    c.requires.alone h found.0 found.1)
    (header_never_taken_wrong h c.args.row.now c.in-Ok.read.1.now found.0 found.1)))
