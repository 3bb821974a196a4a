use Rattle.zlinearizability.proofs.chain_lemmas.WrongTables.{any_queries_are_refuted}
use Rattle.zlinearizability.proofs.chain.rows.any_queries_are_refuted.Goals as goal

pub returns : goal.returns
returns c = any_queries_are_refuted
