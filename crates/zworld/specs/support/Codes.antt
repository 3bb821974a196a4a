-- How what is held, and a world, are stored, by the codes of their parts. A proof distinguishes
-- worlds by them.
use Rattle.std.specs.Prelude.{Bool, List, refl}
use Rattle.std.specs.Coded.{Coded, code_by, coded×, coded_bool, coded_list}
use Rattle.zworld.specs.contracts.links.links.Links as links
use Rattle.zserver.specs.contracts.snapshot.Snapshot as snapshot
use Rattle.zprotocol.specs.contracts.world.history.CallEvent as call_event
use Rattle.zprotocol.specs.world.History.{History}
use Rattle.zactor.specs.Acting.{TreeStanding}
use Rattle.zactor.specs.support.Codes.{coded_standing}
use Rattle.zworld.specs.Held.{HeldChannels, Held}
use Rattle.zworld.specs.Steps.{WorldView}

-- how what is held is stored
abbrev pub coded_held : Coded Held
coded_held =
    code_by (List TreeStanding × HeldChannels)
    (coded× (coded_list coded_standing) (links.the_row snapshot.the_row).coded)
    (λ h. (h.actors, h.links))
    (λ p. record { actors = p.0; links = p.1 }) (λ _. refl)

-- how a world is stored
abbrev pub coded_world : Coded WorldView
coded_world =
    code_by (Held × (History × (Bool × (Bool × Bool))))
    (coded× coded_held (coded× (coded_list call_event.the_row.coded) (coded× coded_bool (coded× coded_bool coded_bool))))
    (λ w. (w.held, (w.history, (w.has_forgotten, (w.is_restored, w.is_broken)))))
    (λ p. record { held = p.0; history = p.1.0; has_forgotten = p.1.1.0; is_restored = p.1.1.1.0; is_broken = p.1.1.1.1 }) (λ _. refl)
