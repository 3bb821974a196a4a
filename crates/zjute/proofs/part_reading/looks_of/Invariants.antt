use Rattle.std.proofs.Common.{◌≡◌, ◌-◌, length}
use Rattle.zjute.specs.Shapes.{read_until}
use Rattle.zjute.specs.Parts.{look_or_end}
use Rattle.zcodec.proofs.Loops.{with_front}
use Rattle.zjute.proofs.part_reading.looks_of.Given as goal

abbrev pub invariant-loop : goal.invariant-loop
invariant-loop l =
    record {
      so_far : with_front l.looks.items (read_until look_or_end (l.end - l.counter) l.rest) ≡ read_until look_or_end (length l.bytes) l.bytes;
      last : l.end ≡ length l.bytes;
    }
