-- The chain as the master knows it, the channels to and from the master, and relations between two
-- members.
use Rattle.std.specs.Prelude.{◌≡◌, ◌⊎◌, ℕ, ◌≤◌, Bool, true, false, ◌&&◌, ◌==◌, if◌then◌else◌, Option, None, Some, List, [], ◌∷◌, is_none}
use Rattle.zcalls.specs.declared.call.Entry.{Entry}
use Rattle.zcalls.specs.Lists.{Among}
use Rattle.zprotocol.specs.declared.message.Message.TheVariants as message
use Rattle.zprotocol.specs.declared.process.Process.TheVariants.{Master, Server}
use Rattle.zprotocol.specs.server.View.{Neighbour}
use Rattle.zprotocol.specs.master.View.{members, is_among}
use Rattle.zlinearizability.specs.legal.Prefix.{IsPrefix}
use Rattle.zlinearizability.specs.chain.Flow.{LogWorld, LogMessage, log_at, final_log}

-- the master's messages in flight to a server, the first order first
abbrev pub queue : LogWorld → ℕ → List LogMessage
queue w s = w.links Master (Server s)

-- the number is used
abbrev pub IsUsed : LogWorld → ℕ → Type 0
IsUsed w s = is_among s w.master.used ≡ true

-- the server is a member of the chain
abbrev pub IsMember : LogWorld → ℕ → Type 0
IsMember w s = Among s (members w.master)

-- a member's position: its predecessor with the epoch of their pair, or none for the head
abbrev pub Place : Type 0
Place = Option Neighbour

-- the position after a member, in an epoch
abbrev pub place_behind : Option ℕ → ℕ → Place
place_behind None epoch = None
place_behind (Some p) epoch = Some (p, epoch)

-- the position of a server in a chain that continues after a member, if it has one
abbrev pub place_from : Option ℕ → List Neighbour → ℕ → Option Place
place_from before [] s = None
place_from before (t ∷ rest) s = if t.0 == s then Some (place_behind before t.1) else place_from (Some t.0) rest s

-- the position that the master knows for a server, if it has one
abbrev pub place_in_chain : LogWorld → ℕ → Option Place
place_in_chain w s = place_from None w.master.chain s

-- the master knows p as the predecessor of t, as a pair of this epoch
abbrev pub IsPair : LogWorld → ℕ → ℕ → ℕ → Type 0
IsPair w p t epoch = place_in_chain w t ≡ Some (Some (p, epoch))

-- a predecessor that can't send anything that matters any more: it was a member, and isn't one now
abbrev pub IsPast : LogWorld → Place → Type 0
IsPast w None = ⊥
IsPast w (Some pred) = IsUsed w pred.0 × (IsMember w pred.0 → ⊥)

-- the position that an order gives, if it gives one
abbrev pub turn_of : LogMessage → Option Place
turn_of (message.NewPred epoch p) = Some (Some (p, epoch))
turn_of (message.BecomeHead epoch) = Some None
turn_of other = None

-- orders that lead from one predecessor to another: each predecessor that the server leaves is
-- past, unless the server is fresh
abbrev pub LeadsTo : (Place → Type 0) → Bool → Place → List LogMessage → Place → Type 0
LeadsTo Past fresh pred [] target = pred ≡ target
LeadsTo Past fresh pred (m ∷ more) target =
    elim (turn_of m) [
      | None ↦ LeadsTo Past fresh pred more target
      | Some new ↦ ((fresh ≡ true) ⊎ Past pred) × LeadsTo Past false new more target
    ]

-- a server that has no log and no predecessor yet
abbrev pub is_fresh : LogWorld → ℕ → Bool
is_fresh w s = is_none (log_at w s) && is_none (w.servers s).pred

-- the epoch was given, and if it is one of the server's own, the server has received it
abbrev pub IsOpened : LogWorld → ℕ → ℕ → Type 0
IsOpened w s k = (k ≤ w.master.epoch) × ((p : ℕ) → Among (message.NewPred k p) (queue w s) → ⊥)

-- no order to become the tail
abbrev pub HasNoTailOrder : List LogMessage → Type 0
HasNoTailOrder orders = (epoch : ℕ) → Among (message.BecomeTail epoch) orders → ⊥

-- after an order that names a successor which the master still knows for this server, there is no
-- order to become the tail
abbrev pub HoldsBehind : LogWorld → ℕ → LogMessage → List LogMessage → Type 0
HoldsBehind w s (message.NewSucc epoch t last) more = IsPair w s t epoch → HasNoTailOrder more
HoldsBehind w s other more = Unit {0}

abbrev pub HasNoTailOrderBehind : LogWorld → ℕ → List LogMessage → Type 0
HasNoTailOrderBehind w s [] = Unit {0}
HasNoTailOrderBehind w s (m ∷ more) = HoldsBehind w s m more × HasNoTailOrderBehind w s more

-- the epochs of the new predecessors in a queue differ, and none is above this
abbrev pub IsNewEpoch : ℕ → LogMessage → List LogMessage → Type 0
IsNewEpoch last (message.NewPred epoch p) more = (epoch ≤ last) × ((q : ℕ) → Among (message.NewPred epoch q) more → ⊥)
IsNewEpoch last other more = Unit {0}

abbrev pub HasDistinctEpochs : ℕ → List LogMessage → Type 0
HasDistinctEpochs last [] = Unit {0}
HasDistinctEpochs last (m ∷ more) = IsNewEpoch last m more × HasDistinctEpochs last more

-- a server is ahead of this log: it holds the log, has a successor, and isn't about to become the
-- tail
pub record IsAhead (w : LogWorld) (x : ℕ) (log : List Entry) : Type 0 where
  pub own : List Entry
  pub holds : log_at w x ≡ Some own
  pub begins : IsPrefix log own
  pub has_successor : is_none (w.servers x).succ ≡ false
  pub no_tail_order : HasNoTailOrder (queue w x)

-- x is ahead of all that y has or could still receive
abbrev pub IsBehind : LogWorld → ℕ → ℕ → Type 0
IsBehind w x y = (log : List Entry) → final_log w y ≡ Some log → IsAhead w x log
