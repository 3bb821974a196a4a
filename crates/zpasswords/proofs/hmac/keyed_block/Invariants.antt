use Rattle.std.proofs.Common.{◌≡◌}
use Rattle.zpasswords.proofs.Blocks.{block_with}
use Rattle.zpasswords.proofs.hmac.keyed_block.Given as goal

abbrev pub invariant-bytes : goal.invariant-bytes
invariant-bytes l = l.block ≡ block_with l.pad l.key l.i
