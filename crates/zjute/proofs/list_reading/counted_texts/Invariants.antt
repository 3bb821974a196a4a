use Rattle.std.proofs.Common.{◌≡◌, ◌-◌, length}
use Rattle.zcodec.specs.Forms.{read_times}
use Rattle.zjute.specs.Jute.{text}
use Rattle.zcodec.proofs.Loops.{with_front}
use Rattle.zjute.proofs.list_reading.counted_texts.Given as goal

abbrev pub invariant-loop : goal.invariant-loop
invariant-loop l =
    record {
      so_far : with_front l.texts.items (read_times text (l.count - l.counter) l.rest) ≡ read_times text l.count l.bytes;
      counted : length l.texts.items ≡ l.counter;
    }
