use Rattle.zlinearizability.proofs.chain_lemmas.WrongTables.{any_updates_are_refuted}
use Rattle.zlinearizability.proofs.chain.rows.any_updates_are_refuted.Goals as goal

pub returns : goal.returns
returns c = any_updates_are_refuted
