-- Where an outcome fits, an event reads as it says.
use Rattle.std.proofs.Common.{◌≡◌, true, refl}
use Rattle.zprotocol.specs.server.Machine.{Does}
use Rattle.zprotocol.specs.declared.world.event.Event.{Event}
use Rattle.zprotocol.specs.declared.world.outcome.Outcome.{Outcome}
use Rattle.zprotocol.specs.world.World.{World}
use Rattle.zprotocol.specs.world.Reading.{reading_by, is_fitting, read}

pub fitting_is_read : {M : Type 0} (machine : Does M) (w : World M) (event : Event) (outcome : Outcome)
    → is_fitting machine w event outcome ≡ true → read machine w event outcome ≡ reading_by event outcome
fitting_is_read machine w event outcome fits = rw fits refl
