use Rattle.std.proofs.Common.{refl}
use Rattle.zsnapshots.specs.declared.fault.RowFault.TheVariants.{Trailing}
use Rattle.zsnapshots.specs.Loading.{rows_loaded}
use Rattle.zsnapshots.proofs.Loaded.{never_followed}
use Rattle.zsnapshots.proofs.loading.Loading.take_row.Goals as goal

pub returns-then-is_followed-clause-only : goal.returns-then-is_followed-clause-only
returns-then-is_followed-clause-only c =
    never_followed (rows_loaded c.args.self.now) (rows_loaded c.args.self.now) Trailing c.args.row.now (c.if-is_followed.ensures.yes refl)
