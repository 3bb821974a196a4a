use Rattle.zdurable.proofs.Parts.{compacted_parts_continue}
use Rattle.zdurable.proofs.laws.compacted_parts_continue.Goals as goal

pub returns : goal.returns
returns c = compacted_parts_continue
