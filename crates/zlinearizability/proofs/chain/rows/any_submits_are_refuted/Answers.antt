use Rattle.zlinearizability.proofs.chain_lemmas.WrongTables.{any_submits_are_refuted}
use Rattle.zlinearizability.proofs.chain.rows.any_submits_are_refuted.Goals as goal

pub returns : goal.returns
returns c = any_submits_are_refuted
