use Rattle.std.proofs.Common.{◌≡◌, ◌++◌, List, false}
use Rattle.zprotocol.specs.declared.world.event.Event.{Event}
use Rattle.zworld.specs.Steps.{IsExplainedFromStart, world_in}
use Rattle.zworld.specs.support.Past.{LeadRead}
use Rattle.zworld.proofs.world.World.run.Given as goal

abbrev pub invariant-loop-event : goal.invariant-loop-event
invariant-loop-event l =
    (front : List Event) × (l.fn.events.items ≡ front ++ l.event-iterator.rest.items) × LeadRead (world_in l.initial.self) front (world_in l.self)
    × (l.self.is_broken ≡ false) × IsExplainedFromStart l.self × (l.self.has_forgotten ≡ l.initial.self.has_forgotten)
    × (l.self.is_restored ≡ l.initial.self.is_restored)
