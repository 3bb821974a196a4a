-- A world that preserves what failed servers held does the same as one that drops it. So no history
-- depends on that. The proof of the chain needs what failed servers held, and preserves it.
use Rattle.std.specs.Prelude.{◌≡◌, ℕ, true, if◌then◌else◌, List, [], ◌∷◌}
use Rattle.ztree.specs.Tree.{Tree}
use Rattle.zcalls.specs.Cached.{CachedState}
use Rattle.zprotocol.specs.declared.message.Message.TheVariants as message
use Rattle.zprotocol.specs.declared.process.Process.TheVariants.{Master, Server}
use Rattle.zprotocol.specs.server.Machine.{Does, cached_tree}
use Rattle.zprotocol.specs.server.View.{MessageOf}
use Rattle.zprotocol.specs.declared.world.event.Event.{Event}
use Rattle.zprotocol.specs.declared.world.event.Event.TheVariants.{Take, Fail}
use Rattle.zprotocol.specs.world.World.{World}
use Rattle.zprotocol.specs.world.Events.{is_enabled, acts, let_go, happens, run}

-- an event and a run where what failed servers held is preserved
abbrev pub keeps : {M : Type 0} → Does M → World M → Event → World M
keeps machine w event = if is_enabled w event then acts machine w event else w

abbrev pub run_keeping : {M : Type 0} → Does M → World M → List Event → World M
run_keeping machine w [] = w
run_keeping machine w (event ∷ events) = run_keeping machine (keeps machine w event) events

-- with that dropped, it is the run of the definition, and has the same history
abbrev pub KeepingDoesTheSame : Type 0
KeepingDoesTheSame =
    (w : World (CachedState Tree)) (events : List Event) → run cached_tree (let_go w) events ≡ let_go (run_keeping cached_tree w events)

-- the same events are enabled
abbrev pub KeepingHasTheSameEnabled : Type 0
KeepingHasTheSameEnabled = (w : World (CachedState Tree)) (event : Event) → is_enabled (let_go w) event ≡ is_enabled w event

-- a server that receives an order to retire is as one that failed at that moment
abbrev pub RetiredHaveFailed : Type 0
RetiredHaveFailed =
    (w : World (CachedState Tree)) (s : ℕ) (more : List (MessageOf (CachedState Tree)))
    → w.links Master (Server s) ≡ message.Retire ∷ more → is_enabled w (Fail s) ≡ true
    → happens cached_tree w (Fail s) ≡ happens cached_tree w (Take Master (Server s))
