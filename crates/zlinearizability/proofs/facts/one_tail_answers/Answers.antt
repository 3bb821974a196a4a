use Rattle.zlinearizability.proofs.Tails.{one_tail_answers}
use Rattle.zlinearizability.proofs.facts.one_tail_answers.Goals as goal

pub returns : goal.returns
returns c = one_tail_answers
