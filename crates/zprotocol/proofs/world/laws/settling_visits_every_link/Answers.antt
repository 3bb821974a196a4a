use Rattle.zprotocol.proofs.world_lemmas.Visited.{links_are_visited, quiet_is_quiet}
use Rattle.zprotocol.proofs.world.laws.settling_visits_every_link.Goals as goal

pub returns : goal.returns
returns c = record { visited = links_are_visited; quiet = quiet_is_quiet }
