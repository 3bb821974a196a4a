-- What a clause says of a round over the links of a process, and when it may receive a message.
use Rattle.std.specs.Prelude.{ℕ, IfSome, List, Option, None, Some}
use Rattle.zprotocol.specs.declared.process.Process.{Process}
use Rattle.zprotocol.specs.declared.process.Process.TheVariants.{Server}
use Rattle.zprotocol.specs.declared.master.order.Order.{Order}
use Rattle.zchannels.specs.declared.looks.Look.{Look}
use Rattle.zchannels.specs.HaltSeats.{Found}
use Rattle.zthreads.specs.declared.endpoint.Endpoint.{Endpoint}
use Rattle.zthreads.specs.Endpoints.{SameEndpoint}
use Rattle.zthreads.specs.Acts.{HasFollowed}
use Rattle.zthreads.specs.Said.{GoesOn}

-- the bit of a halt at which a process stops: a server's is its number, and the others have none
abbrev pub bit_of : Process → Option ℕ
bit_of (Server s) = Some s
bit_of other = None

-- the look found no end of the run, and the process that has this bit isn't halted
abbrev pub LetsTake : Look → Option ℕ → Type 0
LetsTake look bit = (Found look 0 → ⊥) × IfSome bit (λ s. Found look s → ⊥)

-- the same endpoint, and its trace continues, unless it is cut; no order was followed meanwhile
pub record WentOn (a b : Endpoint) : Type 0 where
  pub same : SameEndpoint a b
  pub goes : GoesOn a b
  pub orders : (received : List Order) (waiting : Option Order) → HasFollowed a received waiting → HasFollowed b received waiting
