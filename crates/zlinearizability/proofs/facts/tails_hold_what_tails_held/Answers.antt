use Rattle.zlinearizability.proofs.Tails.{tails_hold_what_tails_held}
use Rattle.zlinearizability.proofs.facts.tails_hold_what_tails_held.Goals as goal

pub returns : goal.returns
returns c = tails_hold_what_tails_held
