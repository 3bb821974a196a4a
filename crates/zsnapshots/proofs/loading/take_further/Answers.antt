use Rattle.zsnapshots.specs.States.{rows_so_far}
use Rattle.zsnapshots.proofs.Loaded.{row_loaded, never_taken_wrong, never_refused}
use Rattle.zsnapshots.proofs.loading.take_further.Goals as goal

pub returns-in-Ok-clause-taken : goal.returns-in-Ok-clause-taken
returns-in-Ok-clause-taken c =
    row_loaded c.args.row.now c.in-Ok.field-0.now c.requires.alone c.args.reading.now c.take-taken.new.self c.in-Ok.ensures.taken

pub returns-in-Ok-clause-only : goal.returns-in-Ok-clause-only
returns-in-Ok-clause-only c =
    never_taken_wrong c.take-taken.result (rows_so_far c.args.reading.now) (λ rest. (rows_so_far c.take-taken.new.self, rest.now))
    c.args.row.now c.take-taken.ensures.only c.in-Ok.field-0 c.in-Ok.is

pub returns-in-Err-clause-only : goal.returns-in-Err-clause-only
returns-in-Err-clause-only c =
    never_refused c.take-taken.result (rows_so_far c.args.reading.now) (λ rest. (rows_so_far c.take-taken.new.self, rest.now))
    c.args.row.now c.take-taken.ensures.only (rows_so_far c.take-taken.new.self) c.in-Err.fault c.in-Err.is
