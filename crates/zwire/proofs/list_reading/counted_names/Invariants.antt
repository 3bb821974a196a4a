use Rattle.std.proofs.Common.{◌≡◌, ◌-◌}
use Rattle.zcodec.specs.Forms.{read_times}
use Rattle.zcodec.proofs.Loops.{with_front}
use Rattle.zwire.specs.Fields.{name}
use Rattle.zwire.proofs.list_reading.counted_names.Given as goal

abbrev pub invariant-loop : goal.invariant-loop
invariant-loop l = with_front l.names.items (read_times name (l.count - l.counter) l.rest) ≡ read_times name l.count l.bytes
