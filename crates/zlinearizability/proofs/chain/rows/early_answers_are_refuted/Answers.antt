use Rattle.zlinearizability.proofs.chain_lemmas.WrongTables.{early_answers_are_refuted}
use Rattle.zlinearizability.proofs.chain.rows.early_answers_are_refuted.Goals as goal

pub returns : goal.returns
returns c = early_answers_are_refuted
