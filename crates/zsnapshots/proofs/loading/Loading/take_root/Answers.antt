use Rattle.std.proofs.Common.{List, [], ◌∷◌, Ok, Err, ap, sym, subst, ◌∙◌}
use Rattle.zsnapshots.specs.States.{StateRow, rows_so_far}
use Rattle.zsnapshots.specs.States.StateRow.{OfHeader}
use Rattle.zsnapshots.specs.Loading.{rows_loaded, IsLoaded}
use Rattle.zsnapshots.specs.support.Loading.{AreLoaded, NeverRefusesNext}
use Rattle.zsnapshots.proofs.Loaded.{header_rows, root_loaded, loaded_next, never_taken_wrong, never_refused}
use Rattle.zsnapshots.proofs.loading.Loading.take_root.Goals as goal

pub returns-in-Err-clause-only : goal.returns-in-Err-clause-only
returns-in-Err-clause-only c =
    let rows = header_rows c.args.self.now c.args.header c.requires.header c.requires.none in
    let before = OfHeader c.args.header ∷ [] in
    subst (λ (rows : List StateRow). NeverRefusesNext rows rows (Err c.in-Err.fault) c.args.row.now) (sym rows)
    (never_refused c.new.result before (λ x. (rows_so_far x.0, x.1.now)) c.args.row.now c.new.ensures.only before c.in-Err.fault c.in-Err.is)

pub invariant_of-self : goal.invariant_of-self
invariant_of-self c =
    let rows = header_rows c.args.self.now c.args.header c.requires.header c.requires.none in
    let before = OfHeader c.args.header ∷ [] in
    let are = subst AreLoaded (ap rows_loaded c.self.view_is ∙ rows) c.self.invariant in
    loaded_next before (rows_so_far c.in-Ok.read.0) c.args.row.now are
    (root_loaded c.args.row.now c.in-Ok.read.1.now c.requires.alone c.args.header c.in-Ok.read.0 c.in-Ok.ensures.taken)
    (never_taken_wrong c.new.result before (λ x. (rows_so_far x.0, x.1.now)) c.args.row.now c.new.ensures.only c.in-Ok.read c.in-Ok.is)

pub returns-clause-taken : goal.returns-clause-taken
returns-clause-taken c =
    let rows = header_rows c.args.self.now c.args.header c.requires.header c.requires.none in
    subst (λ (rows : List StateRow). IsLoaded rows (rows_so_far c.in-Ok.read.0) c.args.row.now) (sym rows)
    (root_loaded c.args.row.now c.in-Ok.read.1.now c.requires.alone c.args.header c.in-Ok.read.0 c.in-Ok.ensures.taken)

pub returns-clause-only : goal.returns-clause-only
returns-clause-only c =
    let rows = header_rows c.args.self.now c.args.header c.requires.header c.requires.none in
    let before = OfHeader c.args.header ∷ [] in
    subst (λ (rows : List StateRow). NeverRefusesNext rows (rows_so_far c.in-Ok.read.0) (Ok tt) c.args.row.now) (sym rows)
    (never_taken_wrong c.new.result before (λ x. (rows_so_far x.0, x.1.now)) c.args.row.now c.new.ensures.only c.in-Ok.read c.in-Ok.is)
