-- What the program holds of a world, and the world that it represents.
use Rattle.std.specs.Prelude.{◌≡◌, None, List, [], get_or}
use Rattle.ztree.specs.Tree.{Tree}
use Rattle.zcalls.specs.Cached.{CachedState}
use Rattle.zprotocol.specs.declared.process.Process.{Process}
use Rattle.zprotocol.specs.declared.process.Process.TheVariants.{Master, Server, Client}
use Rattle.zprotocol.specs.Places.{place_of}
use Rattle.zprotocol.specs.server.View.{ServerView, Transfer, spare}
use Rattle.zprotocol.specs.client.View.{ClientView}
use Rattle.zprotocol.specs.master.View.{MasterView, opening_master}
use Rattle.zactor.specs.Acting.{TreeStanding, has_stopped}
use Rattle.zworld.specs.links.Places.{Channels, links_of}
use Rattle.zprotocol.specs.world.Does.{AtMaster, AtServer, AtClient}
use Rattle.zprotocol.specs.world.History.{History}
use Rattle.zprotocol.specs.world.World.{World}
use Rattle.zprotocol.specs.world.Events.{let_go}

-- the channels as they are stored
abbrev pub HeldChannels : Type 0
HeldChannels = Channels (Transfer (CachedState Tree))

-- the standing of each process, by its position, and the messages in flight
pub record Held : Type 0 where
  pub actors : List TreeStanding
  pub links : HeldChannels

-- a client that the world doesn't have
abbrev pub nobody : ClientView
nobody = record { number = 0; outstanding = None; epoch = 0; head = None; tail = None }

-- the standing of a process that isn't held: it takes no part
abbrev pub bystander : Process → TreeStanding
bystander Master = AtMaster (opening_master 1 0)
bystander (Server s) = AtServer spare
bystander (Client c) = AtClient nobody

-- the standing of a process
abbrev pub standing_at : List TreeStanding → Process → TreeStanding
standing_at actors process = get_or actors (place_of process) (bystander process)

-- the views of processes of that standing. A server that has stopped has dropped what it held
abbrev pub master_of : TreeStanding → MasterView
master_of (AtMaster v) = v
master_of standing = opening_master 1 0

abbrev pub view_of : TreeStanding → ServerView (CachedState Tree)
view_of (AtServer v) = v
view_of standing = spare

abbrev pub client_of : TreeStanding → ClientView
client_of (AtClient v) = v
client_of standing = nobody

-- the world that is held, with this history, and with whatever is on channels into failed servers
abbrev pub kept_world : Held → History → World (CachedState Tree)
kept_world held history = record {
  servers = λ s. view_of (standing_at held.actors (Server s));
  clients = λ c. client_of (standing_at held.actors (Client c));
  master = master_of (standing_at held.actors Master);
  failed = λ s. has_stopped (standing_at held.actors (Server s));
  links = links_of held.links;
  history = history;
}

-- the world that it represents: what failed servers held is dropped there
abbrev pub world_of : Held → History → World (CachedState Tree)
world_of held history = let_go (kept_world held history)

-- no message that the process sent is still in flight
abbrev pub SendsNothing : World (CachedState Tree) → Process → Type 0
SendsNothing w from = (to : Process) → w.links from to ≡ []
