-- Worked runs in which a server joins, over a machine that counts, with two clients (0 and 1).
use Rattle.std.specs.Prelude.{List, [], ◌∷◌}
use Rattle.zprotocol.specs.declared.world.event.Event.{Event}
use Rattle.zprotocol.specs.declared.world.event.Event.TheVariants.{Begin, Take, Fail}
use Rattle.zprotocol.specs.world.Orders.{Join}
use Rattle.zprotocol.specs.world.support.Counter.{create, exists}
use Rattle.zprotocol.specs.world.support.RunRows.{m, s1, s2, s3, c1}

-- one server has an update, and s2 joins after it; client 1 asks s1, which has handed the state
-- over, and learns from the master to ask s2
abbrev pub state_is_handed_over : List Event
state_is_handed_over =
    Begin 1 create
    ∷ Take c1 s1
    ∷ Take s1 c1
    ∷ Join 2
    ∷ Take m s2
    ∷ Take s2 m
    ∷ Take m s1
    ∷ Begin 1 exists
    ∷ Take c1 s1
    ∷ Take s1 s2
    ∷ Take s2 m
    ∷ Take m c1
    ∷ Take c1 s2
    ∷ Take s2 c1
    ∷ []

-- two servers have an update; s3 joins after s2, which sends its snapshot and fails; meanwhile s1
-- accepted one more update. When s3 has learnt that s1 is its predecessor, the old snapshot
-- arrives; then s1 sends its own
abbrev pub snapshot_is_stale : List Event
snapshot_is_stale =
    Begin 1 create
    ∷ Take c1 s1
    ∷ Take s1 s2
    ∷ Take s2 c1
    ∷ Join 3
    ∷ Take m s3
    ∷ Take s3 m
    ∷ Take m s2
    ∷ Begin 1 create
    ∷ Take c1 s1
    ∷ Fail 2
    ∷ Take s2 m
    ∷ Take m s3
    ∷ Take s2 s3
    ∷ Take s3 m
    ∷ Take m s1
    ∷ Take s1 s3
    ∷ []

-- the only server fails before the joining one has the state; client 1 learns of the chain that is
-- left, and asks it
abbrev pub state_is_lost : List Event
state_is_lost =
    Join 2
    ∷ Fail 1
    ∷ Begin 1 exists
    ∷ Take s1 m
    ∷ Take m s2
    ∷ Take m s2
    ∷ Take s2 m
    ∷ Take m c1
    ∷ Take c1 s2
    ∷ []
