use Rattle.zworld.proofs.links_lemmas.Flags.{none_kept}
use Rattle.zworld.proofs.links.links.Links.new.Goals as goal

pub returns-clause-empty : goal.returns-clause-empty
returns-clause-empty g c = none_kept _ _ (search (c.in_ok-queues.ensures.items)) c.none.ensures
