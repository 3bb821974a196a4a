use Rattle.std.proofs.Common.{◌≡◌, List, Option, ap, sym, subst, ◌∙◌}
use Rattle.zsnapshots.specs.States.{StateRow, ReadingView, rows_so_far}
use Rattle.zsnapshots.specs.Loading.{LoadingView, rows_from, rows_loaded}
use Rattle.zsnapshots.specs.support.Loading.{AreLoaded, NeverRefusesNext}
use Rattle.zsnapshots.proofs.Loaded.{loaded_or_same}
use Rattle.zsnapshots.proofs.loading.Loading.take_alone.Goals as goal

pub returns-in_default-clause-only : goal.returns-in_default-clause-only
returns-in_default-clause-only c =
    subst (λ (l : LoadingView). NeverRefusesNext (rows_loaded l) (rows_loaded c.take_first.new.self) c.take_first.result c.args.row.now)
    c.self.view_is c.take_first.ensures.only

pub invariant_of-self-2 : goal.invariant_of-self-2
invariant_of-self-2 c =
    let i = c.self.inside in
    let are = subst (λ (r : Option ReadingView). AreLoaded (rows_from i.header r)) c.in-Some.is c.self.invariant in
    loaded_or_same c.in-Some.reading c.take_further.new.reading c.args.row.now c.take_further.result are
    c.take_further.ensures.taken c.take_further.ensures.only c.take_further.ensures.err

pub returns-clause-only : goal.returns-clause-only
returns-clause-only c =
    let i = c.self.inside in
    let rows : rows_loaded c.args.self.now ≡ rows_so_far c.in-Some.reading =
    sym (ap rows_loaded c.self.view_is) ∙ ap (rows_from i.header) c.in-Some.is in
    subst (λ (rows : List StateRow). NeverRefusesNext rows (rows_so_far c.take_further.new.reading) c.take_further.result c.args.row.now)
    (sym rows) c.take_further.ensures.only
