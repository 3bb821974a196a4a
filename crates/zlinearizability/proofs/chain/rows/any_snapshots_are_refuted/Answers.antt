use Rattle.zlinearizability.proofs.chain_lemmas.WrongTables.{any_snapshots_are_refuted}
use Rattle.zlinearizability.proofs.chain.rows.any_snapshots_are_refuted.Goals as goal

pub returns : goal.returns
returns c = any_snapshots_are_refuted
