-- Worked runs in which a member is ordered to leave, over a machine that counts, with two clients
-- (0 and 1).
use Rattle.std.specs.Prelude.{List, [], ◌∷◌}
use Rattle.zprotocol.specs.declared.world.event.Event.{Event}
use Rattle.zprotocol.specs.declared.world.event.Event.TheVariants.{Begin, Take, Fail}
use Rattle.zprotocol.specs.world.Orders.{Join, Retire}
use Rattle.zprotocol.specs.world.support.Counter.{create, exists}
use Rattle.zprotocol.specs.world.support.RunRows.{m, s1, s2, s3, c1}
use Rattle.zprotocol.specs.world.support.ScenarioRows.{Scene, Happen, Settles, Calls}

-- the head is ordered to leave, and receives the order
abbrev pub order_taken : List Event
order_taken = Retire 1 ∷ Take m s1 ∷ []

-- the head of three is ordered to leave; it serves until it receives the order, and then s2 is the
-- head
abbrev pub head_retires : List Event
head_retires =
    Begin 1 create
    ∷ Retire 1
    ∷ Take c1 s1
    ∷ Take s1 s2
    ∷ Take m s1
    ∷ Take s1 m
    ∷ Take m s2
    ∷ Take s2 s3
    ∷ Take s3 c1
    ∷ []

-- the middle is ordered to leave, and receives the order before client 1's update: s3 reports to
-- the master what it has, and s1 sends s3 what it lacks
abbrev pub middle_retires : List Event
middle_retires =
    Begin 1 create
    ∷ Take c1 s1
    ∷ Retire 2
    ∷ Take m s2
    ∷ Take s2 m
    ∷ Take m s3
    ∷ Take s3 m
    ∷ Take m s1
    ∷ Take s1 s3
    ∷ Take s3 c1
    ∷ []

-- the tail is ordered to leave, and receives the order before client 1's update. Then s2 is the
-- tail, and has processed what it forwarded; it sends the cached reply when it is asked again
abbrev pub tail_retires : List Event
tail_retires =
    Begin 1 create
    ∷ Take c1 s1
    ∷ Take s1 s2
    ∷ Retire 3
    ∷ Take m s3
    ∷ Take s3 m
    ∷ Take m s2
    ∷ Take m c1
    ∷ Take c1 s1
    ∷ Take s1 s2
    ∷ Take s2 c1
    ∷ []

-- two of three leave, one after the other
abbrev pub two_retire : List Scene
two_retire = Calls create ∷ Happen (Retire 1 ∷ []) ∷ Settles ∷ Happen (Retire 2 ∷ []) ∷ Settles ∷ Calls exists ∷ []

-- a third server joins, and then the first leaves
abbrev pub one_is_replaced : List Scene
one_is_replaced = Happen (Join 3 ∷ []) ∷ Settles ∷ Happen (Retire 1 ∷ []) ∷ Settles ∷ []

-- both servers of a chain are replaced by others
abbrev pub both_are_replaced : List Scene
both_are_replaced =
    Calls create
    ∷ Happen (Join 3 ∷ [])
    ∷ Settles
    ∷ Happen (Retire 1 ∷ [])
    ∷ Settles
    ∷ Happen (Join 4 ∷ [])
    ∷ Settles
    ∷ Happen (Retire 2 ∷ [])
    ∷ Settles
    ∷ Calls exists
    ∷ []

-- the head of three is ordered to leave, and the middle fails before the head receives the order
abbrev pub another_fails : List Scene
another_fails = Calls create ∷ Happen (Retire 1 ∷ Fail 2 ∷ Take s2 m ∷ []) ∷ Settles ∷ Calls create ∷ []

-- the head of three is ordered to leave, and fails before it receives the order
abbrev pub retiring_server_fails : List Scene
retiring_server_fails = Calls create ∷ Happen (Retire 1 ∷ Fail 1 ∷ []) ∷ Settles ∷ Calls create ∷ []
