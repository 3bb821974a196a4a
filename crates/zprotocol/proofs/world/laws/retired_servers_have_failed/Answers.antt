use Rattle.zprotocol.specs.server.Machine.{cached_tree}
use Rattle.zprotocol.proofs.world_lemmas.Retiring.{retired_have_failed}
use Rattle.zprotocol.proofs.world.laws.retired_servers_have_failed.Goals as goal

pub returns : goal.returns
returns c = retired_have_failed cached_tree
