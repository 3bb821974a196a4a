-- What came before doesn't matter: a run with more history before it is the same run.
use Rattle.std.proofs.Common.{◌≡◌, Bool, true, false, List, [], ◌∷◌, ◌++◌, refl, ap, ◌∙◌, append_assoc}
use Rattle.zprotocol.specs.declared.process.Process.{Process}
use Rattle.zprotocol.specs.declared.process.Process.TheVariants.{Master, Server, Client}
use Rattle.zprotocol.specs.server.Machine.{Does}
use Rattle.zprotocol.specs.server.View.{MessageOf}
use Rattle.zprotocol.specs.declared.world.event.Event.{Event}
use Rattle.zprotocol.specs.declared.world.event.Event.TheVariants.{Begin, Retry, Take, Ignore, Fail, Order}
use Rattle.zprotocol.specs.world.History.{History}
use Rattle.zprotocol.specs.world.Links.{put, without_front}
use Rattle.zprotocol.specs.world.World.{World}
use Rattle.zprotocol.specs.world.Does as given
use Rattle.zprotocol.specs.world.Does.{Standing, AtMaster, AtServer, AtClient, Out, Input, Hear, Obey, Stop, Effect, does}
use Rattle.zprotocol.specs.world.Events.{is_enabled, with_standing, goes_on, did_in, does_in, front_step, acts, let_go, happens, run}

-- the world, with more history before its own
abbrev pub with_past : {M : Type 0} → History → World M → World M
with_past past w = record w { history = past ++ w.history }

-- what callers see goes after both
reported : (past history more : History) → goes_on (past ++ history) more ≡ past ++ goes_on history more
reported past history [] = refl
reported past history (seen ∷ more) = append_assoc past history (seen ∷ more)

-- the standing of a process doesn't depend on it
stands : {M : Type 0} (past : History) (w : World M) (p : Process) (left : Standing M)
    → with_standing (with_past past w) p left ≡ with_past past (with_standing w p left)
stands past w Master (AtMaster v) = refl
stands past w Master left = refl
stands past w (Server s) (AtServer v) = refl
stands past w (Server s) Out = refl
stands past w (Server s) left = refl
stands past w (Client c) (AtClient v) = refl
stands past w (Client c) left = refl

did_past : {M : Type 0} (past : History) (w : World M) (p : Process) (did : Effect M) → did_in (with_past past w) p did
    ≡ with_past past (did_in w p did)
did_past past w p did =
    λ i. record (stands past w p did.left i) { links = put w.links p did.posts; history = reported past w.history did.reported i }

module _ {M : Type 0} (machine : Does M) (past : History) where
  does_past : (w : World M) (p : Process) (input : Input M) → does_in machine (with_past past w) p input ≡ with_past past (does_in machine w p input)
  does_past w Master input = did_past past w Master (does machine Master input (AtMaster w.master))
  does_past w (Server s) input = did_past past w (Server s) (does machine (Server s) input (AtServer (w.servers s)))
  does_past w (Client c) input = did_past past w (Client c) (does machine (Client c) input (AtClient (w.clients c)))

  front_past : (w : World M) (from to : Process) (link : List (MessageOf M))
      → front_step machine (with_past past w) from to link ≡ with_past past (front_step machine w from to link)
  front_past w from to [] = refl
  front_past w from to (message ∷ more) = does_past (record w { links = without_front w.links from to }) to (Hear from message)

  acts_past : (w : World M) (event : Event) → acts machine (with_past past w) event ≡ with_past past (acts machine w event)
  acts_past w (Begin c call) = does_past w (Client c) (given.Begin call)
  acts_past w (Retry c) = does_past w (Client c) given.Retry
  acts_past w (Take from to) = front_past w from to (w.links from to)
  acts_past w (Ignore from to) = refl
  acts_past w (Fail s) = does_past w (Server s) Stop
  acts_past w (Order order) = does_past w Master (Obey order)

  happens_by : (w : World M) (event : Event) (b : Bool) → is_enabled w event ≡ b
      → happens machine (with_past past w) event ≡ with_past past (happens machine w event)
  happens_by w event true enabled = rw enabled (ap let_go (acts_past w event))
  happens_by w event false enabled = rw enabled refl

  pub run_past : (w : World M) (events : List Event) → run machine (with_past past w) events ≡ with_past past (run machine w events)
  run_past w [] = refl
  run_past w (event ∷ events) =
      ap (λ v. run machine v events) (happens_by w event (is_enabled w event) refl) ∙ run_past (happens machine w event) events
