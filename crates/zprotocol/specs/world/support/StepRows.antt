-- Worked steps of one process, over a machine that counts: what the processes of a chain of three
-- are, and what each does.
use Rattle.std.specs.Prelude.{◌≡◌, true, false, List}
use Rattle.zprotocol.specs.declared.process.Process.{Process}
use Rattle.zprotocol.specs.declared.world.event.Event.{Event}
use Rattle.zprotocol.specs.world.Does.{Standing, Input, Effect, accepts, does}
use Rattle.zprotocol.specs.world.Events.{standing_of}
use Rattle.zprotocol.specs.world.support.Counter.{Counting, counting_machine}
use Rattle.zprotocol.specs.world.support.RunRows.{after}

-- the standing of a process after events
abbrev pub stands : List Event → Process → Standing Counting
stands events p = standing_of (after 3 events) p

-- what it does then with an input
abbrev pub effect : List Event → Process → Input Counting → Effect Counting
effect events p input = does counting_machine p input (stands events p)

-- it accepts the input then, or it doesn't
abbrev pub Accepts : List Event → Process → Input Counting → Type 0
Accepts events p input = accepts p input (stands events p) ≡ true

abbrev pub Refuses : List Event → Process → Input Counting → Type 0
Refuses events p input = accepts p input (stands events p) ≡ false
