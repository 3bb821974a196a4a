use Rattle.std.proofs.Common.{◌≡◌, ◌-◌, length}
use Rattle.zcodec.specs.Forms.{read_times}
use Rattle.zcodec.proofs.Loops.{with_front}
use Rattle.zwire.specs.records.Calls.{part}
use Rattle.zwire.proofs.records.call_reading.counted_parts.Given as goal

abbrev pub invariant-loop : goal.invariant-loop
invariant-loop l =
    record {
      so_far : with_front l.parts.items (read_times part (l.count - l.counter) l.rest) ≡ read_times part l.count l.bytes;
      counted : length l.parts.items ≡ l.counter;
    }
