use Rattle.zwire.proofs.records_lemmas.Texts.{are_lines}
use Rattle.zwire.proofs.records.laws.texts_are_lines.Goals as goal

pub returns : goal.returns
returns c = are_lines
