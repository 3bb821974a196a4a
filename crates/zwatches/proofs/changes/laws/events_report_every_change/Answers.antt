use Rattle.zwatches.proofs.changes_lemmas.Changes.{events_report_every_change}
use Rattle.zwatches.proofs.changes.laws.events_report_every_change.Goals as goal

pub returns : goal.returns
returns c = events_report_every_change
