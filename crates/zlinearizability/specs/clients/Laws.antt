-- The events of clients, and that a server fails.
use Rattle.std.specs.Prelude.{ℕ}
use Rattle.zcalls.specs.declared.call.Call.{Call}
use Rattle.zprotocol.specs.declared.process.Process.{Process}
use Rattle.zprotocol.specs.declared.process.Process.TheVariants.{Client}
use Rattle.zprotocol.specs.declared.world.event.Event.TheVariants.{Begin, Retry, Take, Fail}
use Rattle.zlinearizability.specs.chain.Events.{KeepsSound}

-- a client receives a message: Answer, Config, or one that is ignored
abbrev pub ClientsHear : Type 0
ClientsHear = (from : Process) (c : ℕ) → KeepsSound (Take from (Client c))

-- a client invokes a call
abbrev pub CallsBegin : Type 0
CallsBegin = (c : ℕ) (call : Call) → KeepsSound (Begin c call)

-- a call is sent again
abbrev pub CallsAreSentAgain : Type 0
CallsAreSentAgain = (c : ℕ) → KeepsSound (Retry c)

-- a server fails
abbrev pub ServersFail : Type 0
ServersFail = (s : ℕ) → KeepsSound (Fail s)
