use Rattle.std.proofs.Common.{subst}
use Rattle.zsnapshots.specs.Loading.{LoadingView, rows_loaded}
use Rattle.zsnapshots.specs.support.Loading.{AreLoaded}
use Rattle.zsnapshots.proofs.Loaded.{never_refused_by_bytes}
use Rattle.zsnapshots.proofs.loading.Loading.take.Goals as goal

pub returns-clause-only : goal.returns-clause-only
returns-clause-only c =
    let are = subst (λ (l : LoadingView). AreLoaded (rows_loaded l)) c.self.view_is c.self.invariant in
    never_refused_by_bytes (rows_loaded c.args.self.now) (rows_loaded c.take_row.new.self) c.args.row.now c.take_row.result
    are c.take_row.ensures.only
