use Rattle.zprotocol.proofs.world_lemmas.FirstCallsFrom.{initial_can_start, opening_can_start}
use Rattle.zprotocol.proofs.world.rows.beginnings.trees_can_start.Goals as goal

pub returns : goal.returns
returns c = record {
  initial = opening_can_start;
  within = initial_can_start;
  timeout = λ t id s can here. (can.granted id s here).least;
  most = λ t id s can here. (can.granted id s here).most;
  id = λ t id s can here.
      (can.granted id s here).before;
}
