use Rattle.zworld.proofs.Going.{past_is_longer}
use Rattle.zworld.proofs.world.World.forget.Goals as goal

pub invariant_of-self : goal.invariant_of-self
invariant_of-self c =
    past_is_longer c.self.inside.is_restored c.self.inside.has_forgotten c.self.inside.is_broken c.self.inside.processes
    c.self.inside.history.items c.clear.new.self.items c.self.invariant c.clear.ensures.items
