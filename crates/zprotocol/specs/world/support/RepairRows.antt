-- Worked runs in which a server of three fails, over a machine that counts, with two clients (0 and
-- 1).
use Rattle.std.specs.Prelude.{List, [], ◌∷◌}
use Rattle.zprotocol.specs.declared.world.event.Event.{Event}
use Rattle.zprotocol.specs.declared.world.event.Event.TheVariants.{Begin, Take, Fail}
use Rattle.zprotocol.specs.world.support.Counter.{create}
use Rattle.zprotocol.specs.world.support.RunRows.{m, s1, s2, s3, c1}

-- the head fails after it forwarded client 1's update: s2 is the head, and the update continues
-- down
abbrev pub head_fails : List Event
head_fails =
    Begin 1 create
    ∷ Take c1 s1
    ∷ Take s1 s2
    ∷ Fail 1
    ∷ Take s1 m
    ∷ Take m s2
    ∷ Take s2 s3
    ∷ Take s3 c1
    ∷ []

-- the same, where the client learns of the new head first, and sends again
abbrev pub head_fails_and_is_asked_again : List Event
head_fails_and_is_asked_again =
    Begin 1 create
    ∷ Take c1 s1
    ∷ Take s1 s2
    ∷ Fail 1
    ∷ Take s1 m
    ∷ Take m s2
    ∷ Take m c1
    ∷ Take c1 s2
    ∷ Take s2 s3
    ∷ Take s2 s3
    ∷ Take s3 c1
    ∷ Take s3 c1
    ∷ []

-- the head fails, and s2 learns of it before it receives what the head forwarded
abbrev pub head_fails_first : List Event
head_fails_first = Begin 1 create ∷ Take c1 s1 ∷ Fail 1 ∷ Take s1 m ∷ Take m s2 ∷ Take s1 s2 ∷ []

-- the tail fails before it had client 1's update: s2 is the tail, and has processed what it
-- forwarded; it sends the cached reply when it is asked again
abbrev pub tail_fails : List Event
tail_fails =
    Begin 1 create
    ∷ Take c1 s1
    ∷ Take s1 s2
    ∷ Fail 3
    ∷ Take s3 m
    ∷ Take m s2
    ∷ Take m c1
    ∷ Take c1 s1
    ∷ Take s1 s2
    ∷ Take s2 c1
    ∷ []

-- the middle fails before it had client 1's update: s3 reports to the master what it has, and s1
-- sends s3 what it lacks
abbrev pub middle_fails : List Event
middle_fails =
    Begin 1 create
    ∷ Take c1 s1
    ∷ Fail 2
    ∷ Take s2 m
    ∷ Take m s3
    ∷ Take s3 m
    ∷ Take m s1
    ∷ Take s1 s3
    ∷ Take s3 c1
    ∷ Take s3 s1
    ∷ []
