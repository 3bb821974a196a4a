-- The inputs of a server for ZooKeeper's clients. They are this project's profile.
use Rattle.std.specs.Prelude.{ℕ, List}
use Rattle.zconnections.specs.declared.buffers.input.Input.{Input}
use Rattle.zconnections.specs.declared.buffers.input.Input.TheVariants as code

-- a connection was opened; bytes arrived on one; one ended; a tick elapsed
pub data InputView : Type 0 where
  Opened : ℕ → InputView
  Came : ℕ → List ℕ → InputView
  Ended : ℕ → InputView
  Tick : InputView

-- the code's input, without its address in memory
abbrev pub input_of : Input → InputView
input_of (code.Opened connection) = Opened connection
input_of (code.Came connection bytes) = Came connection bytes.now
input_of (code.Ended connection) = Ended connection
input_of code.Tick = Tick
