use Rattle.zsnapshots.proofs.folder_lemmas.Records.{entries_are_theirs, entries_come_back, entries_are_distinct, records_come_back}
use Rattle.zsnapshots.proofs.folder.laws.entries_come_back.Goals as goal

pub returns : goal.returns
returns c = record { entries = entries_come_back; records = records_come_back; theirs = entries_are_theirs; texts = entries_are_distinct }
