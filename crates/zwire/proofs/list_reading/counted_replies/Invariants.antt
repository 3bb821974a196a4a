use Rattle.std.proofs.Common.{◌≡◌, ◌-◌}
use Rattle.zcodec.specs.Forms.{read_times}
use Rattle.zcodec.proofs.Loops.{with_front}
use Rattle.zwire.specs.Replies.{part_reply}
use Rattle.zwire.proofs.list_reading.counted_replies.Given as goal

abbrev pub invariant-loop : goal.invariant-loop
invariant-loop l = with_front l.replies.items (read_times part_reply (l.count - l.counter) l.rest) ≡ read_times part_reply l.count l.bytes
