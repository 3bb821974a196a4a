use Rattle.zjournal.proofs.file_lemmas.Seen.{seen_may}
use Rattle.zjournal.proofs.file.laws.what_is_read_may_be_left.Goals as goal

pub returns : goal.returns
returns c = seen_may
