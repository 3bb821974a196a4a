use Rattle.zsnapshots.proofs.folder_lemmas.Chunks.{nothing_left, chunks_are_all, chunks_join}
use Rattle.zsnapshots.proofs.folder.laws.chunks_join.Goals as goal

pub returns : goal.returns
returns c = record { join = chunks_join; all = chunks_are_all; end = nothing_left }
