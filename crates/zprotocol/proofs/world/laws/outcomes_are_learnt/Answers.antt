use Rattle.zprotocol.specs.server.Machine.{cached_tree}
use Rattle.zprotocol.proofs.world_lemmas.Learning.{done_is_learnt, idle_is_passed, pass_begins, passes_end, reading_is_learnt}
use Rattle.zprotocol.proofs.world.laws.outcomes_are_learnt.Goals as goal

pub returns : goal.returns
returns c = record {
  done = done_is_learnt cached_tree;
  idle = idle_is_passed cached_tree;
  begins = pass_begins cached_tree;
  ends = passes_end cached_tree;
  reading = reading_is_learnt cached_tree;
}
