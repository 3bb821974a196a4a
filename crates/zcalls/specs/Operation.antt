-- One call of one client, with the client's number for it.
use Rattle.std.specs.Prelude.{◌≡◌, ℕ}
use Rattle.zcalls.specs.declared.call.Call.{Call}
use Rattle.zcalls.specs.declared.call.Call.TheVariants.{Update}
use Rattle.zcalls.specs.declared.call.Entry.{Entry}
use Rattle.zcalls.specs.declared.reply.Reply.{Reply}

-- a call of a client
pub record Operation : Type 0 where
  pub client : ℕ
  pub number : ℕ
  pub call : Call

-- the two are the same call: one client, one number
abbrev pub IsSameCall : Operation → Operation → Type 0
IsSameCall a b = (a.client ≡ b.client) × (a.number ≡ b.number)

-- an entry as a call of its client
abbrev pub operation_of : Entry → Operation
operation_of e = record { client = e.client; number = e.number; call = Update e.update }

-- two calls with their replies are the same call
abbrev pub AreOneUpdate : Operation × Reply → Operation × Reply → Type 0
AreOneUpdate a b = IsSameCall a.0 b.0
