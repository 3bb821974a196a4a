use Rattle.std.proofs.Common.{subst, ◌∙◌}
use Rattle.zwire.specs.records.Records.{AllFit}
use Rattle.zdurable.proofs.Serving.{are_entries}
use Rattle.zdurable.proofs.writing.written.Goals as goal

pub returns-clause-are : goal.returns-clause-are
returns-clause-are c =
    are_entries c.args.updates.items (subst AllFit (c.deref.ensures.value ∙ c.in_ok-records.ensures) c.in_ok-write_records.ensures.fits)
