use Rattle.std.proofs.Common.{◌≤◌, length}
use Rattle.zdevices.specs.Device.{Between}
use Rattle.zscript.proofs.Progress.{Progress}
use Rattle.zscript.proofs.player.Player.play_lines.Given as goal

abbrev pub invariant-loop-place : goal.invariant-loop-place
invariant-loop-place g l = record {
  progress : Progress (Between g.K.Sink.took l.initial.sink l.sink) l.fn.self l.self l.bytes l.rest;
  short : length l.rest ≤ length l.bytes;
  sound : g.K.Sink.failed l.initial.sink 0 l.sink;
}

abbrev pub decreases-loop-place : goal.decreases-loop-place
decreases-loop-place g l = length l.rest
