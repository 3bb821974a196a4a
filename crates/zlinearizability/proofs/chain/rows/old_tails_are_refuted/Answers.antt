use Rattle.zlinearizability.proofs.chain_lemmas.WrongTables.{old_tails_are_refuted}
use Rattle.zlinearizability.proofs.chain.rows.old_tails_are_refuted.Goals as goal

pub returns : goal.returns
returns c = old_tails_are_refuted
