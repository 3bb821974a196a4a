use Rattle.std.proofs.Common.{List, ℕ}
use Rattle.zdevices.specs.Device.{Between}
use Rattle.zscript.specs.support.PlayerView.{world_now}
use Rattle.zscript.proofs.Runs.{Heard}
use Rattle.zscript.proofs.script.play_blocks.Given as goal

abbrev pub invariant-loop-count : goal.invariant-loop-count
invariant-loop-count g l = record {
  so_far : (bytes : List ℕ) × (g.S.Source.gave l.initial.source bytes l.source)
      × (Heard (world_now l.initial.player) (Between g.K.Sink.took l.initial.sink l.sink) bytes l.player);
  source_sound : g.S.Source.failed l.initial.source 0 l.source;
  sink_sound : g.K.Sink.failed l.initial.sink 0 l.sink;
}

abbrev pub decreases-loop-count : goal.decreases-loop-count
decreases-loop-count g l = g.S.Source.reads_left l.source
