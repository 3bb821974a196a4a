use Rattle.std.proofs.Common.{◌≡◌, true, false, Option, map, sym, subst, ◌∙◌}
use Rattle.zsnapshots.specs.States.{ReadingView, spelled, rows_so_far}
use Rattle.zsnapshots.specs.Loading.{LoadingView, rows_from, bytes_loaded, AreOfNone}
use Rattle.zsnapshots.specs.support.Loading.{AreLoaded}
use Rattle.zsnapshots.proofs.Loaded.{of_none, header_of_none}
use Rattle.zsnapshots.proofs.Apart.{no_row_is_missing}
use Rattle.zsnapshots.proofs.loading.Loading.is_whole.Goals as goal

pub returns-in-Some-clause-part : goal.returns-in-Some-clause-part
returns-in-Some-clause-part c = λ no.
    let i = c.self.inside in
    let are = subst (λ (r : Option ReadingView). AreLoaded (rows_from i.header r)) c.in-Some.is c.self.invariant in
    subst (λ (l : LoadingView). AreOfNone (bytes_loaded l)) c.self.view_is
    (subst (λ (r : Option ReadingView). AreOfNone (map spelled (rows_from i.header r))) (sym c.in-Some.is)
    (of_none (rows_so_far c.in-Some.reading) are (λ s rows.
    let bad : true ≡ false = sym (no_row_is_missing s c.in-Some.reading rows) ∙ sym c.is_done.ensures ∙ no in cc)))

pub returns-in-None-clause-part : goal.returns-in-None-clause-part
returns-in-None-clause-part c = λ no.
    let i = c.self.inside in
    let are = subst (λ (r : Option ReadingView). AreLoaded (rows_from i.header r)) c.in-None.is c.self.invariant in
    subst (λ (l : LoadingView). AreOfNone (bytes_loaded l)) c.self.view_is
    (subst (λ (r : Option ReadingView). AreOfNone (map spelled (rows_from i.header r))) (sym c.in-None.is) (header_of_none i.header are))
