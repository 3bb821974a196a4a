-- Worked scenarios: calls that settle, with failures and joins between them, over a machine that
-- counts, with two clients (0 and 1). In each the chain preserves the state as long as one server
-- that has it doesn't fail.
use Rattle.std.specs.Prelude.{ℕ, List, [], ◌∷◌}
use Rattle.zcalls.specs.declared.call.Call.{Call}
use Rattle.zprotocol.specs.declared.world.event.Event.{Event}
use Rattle.zprotocol.specs.declared.world.event.Event.TheVariants.{Begin, Take, Fail}
use Rattle.zprotocol.specs.world.Orders.{Join}
use Rattle.zprotocol.specs.master.View.{MasterView}
use Rattle.zprotocol.specs.server.View.{Neighbour}
use Rattle.zprotocol.specs.world.History.{History}
use Rattle.zprotocol.specs.world.World.{World, opening_world}
use Rattle.zprotocol.specs.world.Events.{happens, run}
use Rattle.zprotocol.specs.world.Settle.{settle}
use Rattle.zprotocol.specs.world.support.Counter.{Counting, counting_machine, create, exists}
use Rattle.zprotocol.specs.world.support.RunRows.{m, s1, s2, s3, s4, c1}

-- a part of a scenario: events happen, the world settles, or client 1 invokes a call and the world
-- settles
pub data Scene : Type 0 where
  Happen : List Event → Scene
  Settles : Scene
  Calls : Call → Scene

-- the world after it
abbrev pub after_scene : World Counting → Scene → World Counting
after_scene w (Happen events) = run counting_machine w events
after_scene w Settles = (settle counting_machine w 100 []).world
after_scene w (Calls call) = (settle counting_machine (happens counting_machine w (Begin 1 call)) 100 []).world

-- and after all parts
abbrev pub after_scenes : World Counting → List Scene → World Counting
after_scenes w [] = w
after_scenes w (scene ∷ scenes) = after_scenes (after_scene w scene) scenes

-- a scenario with this many servers
abbrev pub scenes_end : ℕ → List Scene → World Counting
scenes_end servers scenes = after_scenes (opening_world counting_machine servers 2) scenes

-- the master's view that it leaves, what callers saw of it, and the chain
abbrev pub scenes_master : ℕ → List Scene → MasterView
scenes_master servers scenes = (scenes_end servers scenes).master

abbrev pub scenes_history : ℕ → List Scene → History
scenes_history servers scenes = (scenes_end servers scenes).history

abbrev pub scenes_chain : ℕ → List Scene → List Neighbour
scenes_chain servers scenes = (scenes_master servers scenes).chain

-- two of three servers fail at once, between two calls
abbrev pub two_fail : List Scene
two_fail = Calls create ∷ Happen (Fail 1 ∷ Fail 2 ∷ []) ∷ Settles ∷ Calls create ∷ []

-- both servers in the middle of four fail, when the first of them has received the update
abbrev pub both_middle_servers_fail : List Scene
both_middle_servers_fail = Happen (Begin 1 create ∷ Take c1 s1 ∷ Take s1 s2 ∷ Fail 2 ∷ Fail 3 ∷ []) ∷ Settles ∷ []

-- the middle of three fails, and then the head too, when the tail has received its new predecessor
abbrev pub head_fails_in_a_repair : List Scene
head_fails_in_a_repair =
    Happen (Begin 1 create ∷ Take c1 s1 ∷ Fail 2 ∷ Take s2 m ∷ Take m s3 ∷ Fail 1 ∷ Take s1 m ∷ Take s3 m ∷ []) ∷ Settles ∷ []

-- two servers join one after the other, and then the first two fail
abbrev pub state_moves_on : List Scene
state_moves_on =
    Calls create ∷ Happen (Join 2 ∷ Join 3 ∷ []) ∷ Settles ∷ Happen (Join 3 ∷ []) ∷ Settles ∷ Happen (Fail 1 ∷ Fail 2 ∷ []) ∷ Calls exists ∷ []

-- a fourth server joins, and the tail fails before it has handed the state over
abbrev pub tail_fails_in_a_join : List Scene
tail_fails_in_a_join =
    Calls create ∷ Happen (Join 4 ∷ Take m s4 ∷ Take s4 m ∷ Fail 3 ∷ []) ∷ Settles ∷ Calls create ∷ []

-- a fourth server joins, and fails when the tail has handed the state over
abbrev pub joining_server_fails : List Scene
joining_server_fails =
    Calls create ∷ Happen (Join 4 ∷ Take m s4 ∷ Take s4 m ∷ Take m s3 ∷ Fail 4 ∷ []) ∷ Settles ∷ Calls create ∷ []

-- a spare server fails, and is asked to join before the master knows
abbrev pub failed_spare_joins : List Scene
failed_spare_joins = Happen (Fail 2 ∷ Join 2 ∷ []) ∷ Settles ∷ Calls create ∷ []

-- the only server fails
abbrev pub chain_is_empty : List Scene
chain_is_empty = Happen (Fail 1 ∷ []) ∷ Settles ∷ []
