use Rattle.zprotocol.specs.server.Machine.{cached_tree}
use Rattle.zprotocol.proofs.world_lemmas.Settling.{settling_is_a_run, settling_keeps_its_limit, quiet_has_nothing_to_take}
use Rattle.zprotocol.proofs.world.laws.settling_is_a_run.Goals as goal

pub returns : goal.returns
returns c = record { run = settling_is_a_run cached_tree; limit = settling_keeps_its_limit cached_tree; quiet = quiet_has_nothing_to_take cached_tree }
