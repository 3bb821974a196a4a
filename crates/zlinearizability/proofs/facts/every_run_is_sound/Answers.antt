use Rattle.zlinearizability.proofs.Runs.{every_run_is_sound}
use Rattle.zlinearizability.proofs.facts.every_run_is_sound.Goals as goal

pub returns : goal.returns
returns c = every_run_is_sound
