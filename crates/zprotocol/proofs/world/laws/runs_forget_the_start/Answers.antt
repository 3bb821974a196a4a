use Rattle.zprotocol.proofs.world_lemmas.Starts.{events_forget_the_start, runs_forget_the_start}
use Rattle.zprotocol.proofs.world.laws.runs_forget_the_start.Goals as goal

pub returns : goal.returns
returns c = record { event = events_forget_the_start; run = runs_forget_the_start }
