use Rattle.std.proofs.Common.{◌≡◌, ◌-◌}
use Rattle.zcodec.specs.Forms.{read_times}
use Rattle.zcodec.proofs.Loops.{with_front}
use Rattle.zmaster_log.specs.Bytes.{node}
use Rattle.zmaster_log.proofs.reading.counted_names.Given as goal

abbrev pub invariant-loop : goal.invariant-loop
invariant-loop l = with_front l.names.items (read_times node (l.count - l.counter) l.rest) ≡ read_times node l.count l.bytes
