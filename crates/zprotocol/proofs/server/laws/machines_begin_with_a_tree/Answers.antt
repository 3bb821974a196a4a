use Rattle.zcalls.specs.Cached.{nothing_cached}
use Rattle.zprotocol.specs.server.Machine.{cached_tree}
use Rattle.zprotocol.proofs.server_lemmas.Starts.{same_table}
use Rattle.zprotocol.proofs.server.laws.machines_begin_with_a_tree.Goals as goal

pub returns-clause-table : goal.returns-clause-table
returns-clause-table c t = same_table cached_tree (nothing_cached t)
