-- Which process a thread runs.
use Rattle.std.specs.Prelude.{ℕ}
use Rattle.zprotocol.specs.declared.process.Process.{Process}
use Rattle.zprotocol.specs.declared.process.Process.TheVariants.{Server}

-- the server of that number
abbrev pub ServerProcess : ℕ → Process
ServerProcess s = Server s
