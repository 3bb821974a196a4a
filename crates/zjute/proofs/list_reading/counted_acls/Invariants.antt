use Rattle.std.proofs.Common.{◌≡◌, ◌-◌, length}
use Rattle.zcodec.specs.Forms.{read_times}
use Rattle.zjute.specs.Requests.{acl}
use Rattle.zcodec.proofs.Loops.{with_front}
use Rattle.zjute.proofs.list_reading.counted_acls.Given as goal

abbrev pub invariant-loop : goal.invariant-loop
invariant-loop l =
    record {
      so_far : with_front l.acls.items (read_times acl (l.count - l.counter) l.rest) ≡ read_times acl l.count l.bytes;
      counted : length l.acls.items ≡ l.counter;
    }
