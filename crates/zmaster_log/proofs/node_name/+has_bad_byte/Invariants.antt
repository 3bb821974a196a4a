use Rattle.std.proofs.Common.{length}
use Rattle.zmaster_log.proofs.node_name.+has_bad_byte.Given as goal

abbrev pub decreases-has_bad_byte : goal.decreases-has_bad_byte
decreases-has_bad_byte l = length l.bytes.now
