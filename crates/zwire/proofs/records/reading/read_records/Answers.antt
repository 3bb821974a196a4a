use Rattle.zwire.proofs.records_lemmas.Faults.{read_alone}
use Rattle.zwire.proofs.records.reading.read_records.Goals as goal

pub returns-clause-only : goal.returns-clause-only
returns-clause-only c = read_alone (λ v. v.items) c.args.text.now c.records_in.result c.records_in.ensures.found c.records_in.ensures.fault
