-- The legal order of a history is its linearization: one order of its calls that explains every
-- reply, as if one machine had done one call after the other. It knows no chain, no log number, no
-- epoch and no retry.
use Rattle.std.specs.Prelude.{◌≡◌, ◌⊎◌, ℕ, List, [], ◌∷◌}
use Rattle.std.specs.List.{AllByRecursion}
use Rattle.zcalls.specs.declared.call.Call.{Call}
use Rattle.zcalls.specs.declared.reply.Reply.{Reply}
use Rattle.zprotocol.specs.declared.world.history.CallEvent.TheVariants.{Answer}
use Rattle.zcalls.specs.Lists.{Among, ComesBefore, NoTwo}
use Rattle.zcalls.specs.Operation.{Operation, IsSameCall}
use Rattle.zprotocol.specs.world.History.{History, IsUpdate, HasBegun, IsAnswered, EndsBefore}

-- a sequential specification: its initial state, and what a client's call does to a state, with its
-- reply
pub record Service (P : Type 0) : Type 0 where
  pub opening : P
  pub step : P → ℕ → Call → P × Reply

-- what the service does at an operation, and replies
abbrev pub operation_step : {P : Type 0} → Service P → P → Operation → P × Reply
operation_step service p o = service.step p o.client o.call

-- the operations one after the other from a state, each with the reply that it gets
abbrev pub replies_from : {P : Type 0} → Service P → P → List Operation → List (Operation × Reply)
replies_from service p [] = []
replies_from service p (o ∷ os) = (o, (operation_step service p o).1) ∷ replies_from service (operation_step service p o).0 os

-- the states on the way, including the first and the last
abbrev pub states_from : {P : Type 0} → Service P → P → List Operation → List P
states_from service p [] = p ∷ []
states_from service p (o ∷ os) = p ∷ states_from service (operation_step service p o).0 os

-- the order has the answered call of that client and number, and its replay gives this reply
abbrev pub IsReplayed : {P : Type 0} → Service P → List Operation → ℕ → ℕ → Reply → Type 0
IsReplayed service order client number reply =
    (o : Operation) × (o.client ≡ client) × (o.number ≡ number) × Among (o, reply) (replies_from service service.opening order)

-- the order is a linearization of the history
pub record IsLegalOrder {P : Type 0} (Lawful : P → Type 0) (service : Service P) (history : History) (order : List Operation) : Type 0 where
  -- it consists of calls of the history
  pub begun : (o : Operation) → Among o order → HasBegun history o
  -- each once
  pub once : NoTwo IsSameCall order
  -- every answered call is in it, and the replay gives it its reply
  pub answered : (client number : ℕ) (reply : Reply) → Among (Answer client number reply) history → IsReplayed service order client number reply
  -- a call in it that isn't answered is an update
  pub unanswered : (o : Operation) → Among o order → IsUpdate o.call ⊎ IsAnswered history o
  -- where the response to one comes before the invocation of another, the first comes earlier
  pub in_time : (a b : Operation) → EndsBefore history a b → Among a order → Among b order → ComesBefore a b order
  -- every state of the replay is lawful
  pub lawful : AllByRecursion Lawful (states_from service service.opening order)
