use Rattle.zwire.proofs.records_lemmas.Texts.{one_record, texts_apart}
use Rattle.zwire.proofs.records.laws.texts_are_distinct.Goals as goal

pub returns : goal.returns
returns c = record { first = one_record; all = texts_apart }
