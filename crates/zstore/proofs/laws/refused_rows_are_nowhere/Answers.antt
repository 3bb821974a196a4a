use Rattle.zstore.proofs.Rebuilt.{refused_roots, refused_sessions, refused_nodes}
use Rattle.zstore.proofs.laws.refused_rows_are_nowhere.Goals as goal

pub returns-clause-root : goal.returns-clause-root
returns-clause-root c = refused_roots

pub returns-clause-session : goal.returns-clause-session
returns-clause-session c = refused_sessions

pub returns-clause-node : goal.returns-clause-node
returns-clause-node c = refused_nodes
