use Rattle.zprotocol.specs.server.Machine.{cached_tree}
use Rattle.zprotocol.proofs.world_lemmas.Keeping.{keeping_runs, keeping_enabled}
use Rattle.zprotocol.proofs.world.laws.failed_servers_do_not_matter.Goals as goal

pub returns : goal.returns
returns c = record { run = keeping_runs cached_tree; enabled = keeping_enabled cached_tree }
