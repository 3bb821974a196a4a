-- Runs in which connections break. Before each event any channel from a server or a client may lose
-- its end: of what is in flight on it, only a prefix remains. So a server that fails may lose any
-- end of what it had sent. A connection between two running processes may break, lose what was in
-- it, and be made anew. The master's own channels lose nothing.
use Rattle.std.specs.Prelude.{ℕ, List, [], ◌∷◌, take}
use Rattle.zprotocol.specs.declared.process.Process.{Process}
use Rattle.zprotocol.specs.declared.process.Process.TheVariants.{Master, Server, Client}
use Rattle.zprotocol.specs.server.Machine.{Does, cached_tree}
use Rattle.zprotocol.specs.declared.world.event.Event.{Event}
use Rattle.zprotocol.specs.world.Links.{Links}
use Rattle.zprotocol.specs.world.World.{World, opening_world}
use Rattle.zprotocol.specs.world.Events.{happens}
use Rattle.zprotocol.specs.world.PlainTree.{IsExplained}

-- how many messages remain on the channel from one process to another, counted from the front
abbrev pub Stays : Type 0
Stays = Process → Process → ℕ

-- the channels after some lost their ends: any but those from the master
abbrev pub cut_links : {M : Type 0} → Stays → Links M → Links M
cut_links stays links Master to = links Master to
cut_links stays links (Server s) to = take (stays (Server s) to) (links (Server s) to)
cut_links stays links (Client c) to = take (stays (Client c) to) (links (Client c) to)

-- the world with these channels; no process notices
abbrev pub cut : {M : Type 0} → Stays → World M → World M
cut stays w = record w { links = cut_links stays w.links }

-- a run: before each event channels lose their ends, and then it happens
abbrev pub run_with_cuts : {M : Type 0} → Does M → World M → List (Stays × Event) → World M
run_with_cuts machine w [] = w
run_with_cuts machine w (step ∷ more) = run_with_cuts machine (happens machine (cut step.0 w) step.1) more

-- for every list of events, and whatever is lost before each, the history of the run is
-- linearizable over the plain tree
abbrev pub EveryHistoryWithCutsIsExplained : Type 0
EveryHistoryWithCutsIsExplained =
    (servers clients : ℕ) (steps : List (Stays × Event))
    → IsExplained (run_with_cuts cached_tree (opening_world cached_tree servers clients) steps).history
