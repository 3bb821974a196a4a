use Rattle.zmaster_log.proofs.Bytes.{entries_are_their_bytes}
use Rattle.zmaster_log.proofs.laws.entries_are_their_bytes.Goals as goal

pub returns : goal.returns
returns c = entries_are_their_bytes
