use Rattle.zprotocol.specs.server.Machine.{cached_tree, replay}
use Rattle.zprotocol.proofs.server_lemmas.Projection.{log_stands_for_machine}
use Rattle.zprotocol.proofs.world_lemmas.LogWorlds.{enabled_with, runs_with}
use Rattle.zprotocol.proofs.world.laws.log_world_stands_for_the_world.Goals as goal

pub returns : goal.returns
returns c = record {
  world = runs_with (replay cached_tree) (log_stands_for_machine cached_tree);
  enabled = enabled_with (replay cached_tree);
}
