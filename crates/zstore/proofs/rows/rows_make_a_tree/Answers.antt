use Rattle.zstore.proofs.Worked.{session_there, ephemeral_there, root_still}
use Rattle.zstore.proofs.rows.rows_make_a_tree.Goals as goal

pub returns-clause-session : goal.returns-clause-session
returns-clause-session c = session_there

pub returns-clause-node : goal.returns-clause-node
returns-clause-node c = ephemeral_there

pub returns-clause-root : goal.returns-clause-root
returns-clause-root c = root_still
