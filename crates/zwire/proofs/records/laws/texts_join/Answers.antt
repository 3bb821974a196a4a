use Rattle.zwire.proofs.records_lemmas.Texts.{texts_join}
use Rattle.zwire.proofs.records.laws.texts_join.Goals as goal

pub returns : goal.returns
returns c = texts_join
