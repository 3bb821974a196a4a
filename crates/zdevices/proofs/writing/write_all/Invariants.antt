use Rattle.std.proofs.Common.{length, ◌-◌, ◌≤◌, take}
use Rattle.zdevices.proofs.writing.write_all.Given as goal

abbrev pub invariant-loop-done : goal.invariant-loop-done
invariant-loop-done g l = record {
  within : l.done ≤ length l.bytes;
  written : g.K.Sink.took l.initial.sink (take l.done l.bytes) l.sink;
  sound : g.K.Sink.failed l.initial.sink 0 l.sink;
}

abbrev pub decreases-loop-done : goal.decreases-loop-done
decreases-loop-done g l = length l.bytes - l.done
