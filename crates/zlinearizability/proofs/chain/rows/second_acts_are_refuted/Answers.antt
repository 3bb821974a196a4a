use Rattle.zlinearizability.proofs.chain_lemmas.WrongTables.{second_acts_are_refuted}
use Rattle.zlinearizability.proofs.chain.rows.second_acts_are_refuted.Goals as goal

pub returns : goal.returns
returns c = second_acts_are_refuted
