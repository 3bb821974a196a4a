-- The steps in which a node sends records.
use Rattle.std.specs.Prelude.{◌≡◌, ℕ, List, ◌∷◌, ◌++◌, map, Some}
use Rattle.zprotocol.specs.declared.process.Process.{Process}
use Rattle.zprotocol.specs.declared.process.Process.TheVariants.{Server}
use Rattle.zwire.specs.declared.fault.WriteError.{WriteError}
use Rattle.zwire.specs.declared.fault.WriteError.TheVariants.{TooLong, Memory}
use Rattle.zpeers.specs.Records.{LinkRecord}
use Rattle.zpeers.specs.Outgoing.{OutgoingView, OthersWait, records_for}
use Rattle.znode.specs.pipe.Outputs.{OutputView, Send, output}
use Rattle.znode.specs.pipe.Serving.{outputs_text}
use Rattle.znode.specs.Turns.{AreSentTo, HasLong, HasLongFor, Sends}

-- the first record that waits for a process is sent
pub record SendsOne (own : ℕ) (to : Process) (old new : OutgoingView) (before after : List ℕ) : Type 0 where
  pub it : LinkRecord
  pub next : records_for old (Server own) to ≡ it ∷ records_for new (Server own) to
  pub text : after ≡ before ++ output.spell (Send to it)
  pub others : OthersWait old new to

-- the first records that wait for it are sent
pub record SendsSome (own : ℕ) (to : Process) (old new : OutgoingView) (before after : List ℕ) : Type 0 where
  pub records : List LinkRecord
  pub sent : AreSentTo (Server own) to records old new
  pub text : after ≡ before ++ outputs_text (map (λ r. Send to r) records)
  pub others : OthersWait old new to

-- and those for each process
pub record SendsAll (own : ℕ) (old new : OutgoingView) (before after : List ℕ) : Type 0 where
  pub outputs : List OutputView
  pub sends : Sends (Some own) outputs old new
  pub text : after ≡ before ++ outputs_text outputs

-- why no record is sent to a process
abbrev pub IsSendFault : ℕ → Process → OutgoingView → WriteError → Type 0
IsSendFault own to o Memory = Unit {0}
IsSendFault own to o TooLong = HasLongFor own to o

-- and to any
abbrev pub IsAnySendFault : ℕ → OutgoingView → WriteError → Type 0
IsAnySendFault own o Memory = Unit {0}
IsAnySendFault own o TooLong = HasLong own o
