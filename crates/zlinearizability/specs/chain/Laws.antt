-- What holds before the first event, what each event preserves, and what therefore holds of every
-- list of events.
use Rattle.std.specs.Prelude.{ℕ, List}
use Rattle.zcalls.specs.PlainTree.{plain_tree}
use Rattle.zprotocol.specs.declared.process.Process.{Process}
use Rattle.zprotocol.specs.declared.world.event.Event.{Event}
use Rattle.zprotocol.specs.declared.world.event.Event.TheVariants.{Ignore}
use Rattle.zprotocol.specs.world.World.{opening_world}
use Rattle.zprotocol.specs.world.Events.{run}
use Rattle.zlinearizability.specs.chain.Flow.{log_machine}
use Rattle.zlinearizability.specs.chain.Last.{LastsAreLengths}
use Rattle.zlinearizability.specs.chain.Account.{opening_account}
use Rattle.zlinearizability.specs.chain.Sound.{IsSound}
use Rattle.zlinearizability.specs.chain.Events.{KeepsSound}

-- after every list of events each last number is the length of its log
abbrev pub LastIsLength : Type 0
LastIsLength =
    (servers clients : ℕ) (events : List Event) → LastsAreLengths (run (log_machine plain_tree) (opening_world (log_machine plain_tree) servers clients) events)

-- the initial state is sound
abbrev pub OpeningIsSound : Type 0
OpeningIsSound = (servers clients : ℕ) → IsSound plain_tree (opening_account plain_tree servers clients)

-- a request is lost
abbrev pub RequestsAreLost : Type 0
RequestsAreLost = (from to : Process) → KeepsSound (Ignore from to)
