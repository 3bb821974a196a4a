-- The events of the world, and its runs. Each event is one atomic step. One process receives the
-- front message of one channel, or one input from outside. It does with that what its definition
-- says (Does.antt), and what it sends is put on its outgoing channels.
use Rattle.std.specs.Prelude.{Bool, true, false, ◌&&◌, not, nat_lt, if◌then◌else◌, List, [], ◌∷◌, ◌++◌}
use Rattle.zprotocol.specs.declared.message.Message.TheVariants as message
use Rattle.zprotocol.specs.declared.process.Process.{Process}
use Rattle.zprotocol.specs.declared.process.Process.TheVariants.{Master, Server, Client}
use Rattle.zprotocol.specs.server.Machine.{Does}
use Rattle.zprotocol.specs.Places.{is_server}
use Rattle.zprotocol.specs.server.View.{MessageOf, spare}
use Rattle.zprotocol.specs.declared.world.event.Event.{Event}
use Rattle.zprotocol.specs.declared.world.event.Event.TheVariants.{Begin, Retry, Take, Ignore, Fail, Order}
use Rattle.zprotocol.specs.world.History.{History}
use Rattle.zprotocol.specs.world.Links.{put, without_front}
use Rattle.zprotocol.specs.world.World.{World, at}
use Rattle.zprotocol.specs.world.Does as given
use Rattle.zprotocol.specs.world.Does.{Standing, AtMaster, AtServer, AtClient, Out, Input, Hear, Obey, Stop, Effect, accepts, does}

-- there is a front, and it passes the test
abbrev pub front_is : {M : Type 0} → (MessageOf M → Bool) → List (MessageOf M) → Bool
front_is test [] = false
front_is test (message ∷ more) = test message

-- a client's request: the one kind of message that may be lost
abbrev pub is_request : {M : Type 0} → MessageOf M → Bool
is_request (message.Submit number update) = true
is_request (message.Query number query) = true
is_request other = false

-- the process has failed, which only a server does
abbrev pub has_failed : {M : Type 0} → World M → Process → Bool
has_failed w Master = false
has_failed w (Server s) = w.failed s
has_failed w (Client c) = false

-- the standing of a process in a world; of a server that has failed, its last one
abbrev pub standing_of : {M : Type 0} → World M → Process → Standing M
standing_of w Master = AtMaster w.master
standing_of w (Server s) = AtServer (w.servers s)
standing_of w (Client c) = AtClient (w.clients c)

-- the event is enabled
abbrev pub is_enabled : {M : Type 0} → World M → Event → Bool
is_enabled w (Begin c call) = nat_lt c w.master.clients && accepts (Client c) (given.Begin call) (standing_of w (Client c))
is_enabled w (Retry c) = accepts (Client c) given.Retry (standing_of w (Client c))
is_enabled w (Take from to) = front_is (λ message. true) (w.links from to) && not (has_failed w to)
is_enabled w (Ignore from to) = front_is is_request (w.links from to) && not (has_failed w to)
is_enabled w (Fail s) = is_server s && not (w.failed s)
is_enabled w (Order order) = accepts Master (Obey order) (standing_of w Master)

-- a process with another standing; a server that takes no part any more has failed
abbrev pub with_standing : {M : Type 0} → World M → Process → Standing M → World M
with_standing w Master (AtMaster v) = record w { master = v }
with_standing w (Server s) (AtServer v) = record w { servers = at s v w.servers }
with_standing w (Server s) Out = record w { failed = at s true w.failed }
with_standing w (Client c) (AtClient v) = record w { clients = at c v w.clients }
with_standing w p standing = w

-- a history continues with what callers see
abbrev pub goes_on : History → History → History
goes_on history [] = history
goes_on history (seen ∷ more) = history ++ seen ∷ more

-- a process did this: its standing then, what it sent, and what callers see
abbrev pub did_in : {M : Type 0} → World M → Process → Effect M → World M
did_in w p did = record (with_standing w p did.left) { links = put w.links p did.posts; history = goes_on w.history did.reported }

-- a process does with an input what its definition says
abbrev pub does_in : {M : Type 0} → Does M → World M → Process → Input M → World M
does_in machine w p input = did_in w p (does machine p input (standing_of w p))

-- the front of a channel is delivered, if there is one
abbrev pub front_step : {M : Type 0} → Does M → World M → Process → Process → List (MessageOf M) → World M
front_step machine w from to [] = w
front_step machine w from to (message ∷ more) =
    does_in machine (record w { links = without_front w.links from to }) to (Hear from message)

-- what an enabled event does
abbrev pub acts : {M : Type 0} → Does M → World M → Event → World M
acts machine w (Begin c call) = does_in machine w (Client c) (given.Begin call)
acts machine w (Retry c) = does_in machine w (Client c) given.Retry
acts machine w (Take from to) = front_step machine w from to (w.links from to)
acts machine w (Ignore from to) = record w { links = without_front w.links from to }
acts machine w (Fail s) = does_in machine w (Server s) Stop
acts machine w (Order order) = does_in machine w Master (Obey order)

-- what a failed server held is dropped: its view, and what is on channels into it. It receives
-- nothing more, and sends nothing more
abbrev pub let_go : {M : Type 0} → World M → World M
let_go w = record w {
  servers = λ s. if w.failed s then spare else w.servers s;
  links = λ from to. if has_failed w to then [] else w.links from to;
}

-- an event that is enabled acts, and what failed servers held is dropped; one that isn't changes
-- nothing
abbrev pub happens : {M : Type 0} → Does M → World M → Event → World M
happens machine w event = if is_enabled w event then let_go (acts machine w event) else w

-- a run: the events one after the other
abbrev pub run : {M : Type 0} → Does M → World M → List Event → World M
run machine w [] = w
run machine w (event ∷ events) = run machine (happens machine w event) events
