-- Laws of the master table: it doesn't look at any machine, and it gives few epochs.
use Rattle.std.specs.Prelude.{◌≡◌, ℕ, ◌+◌, ◌*◌, ◌≤◌, true, Option, None, Some, List, [], ◌∷◌, length}
use Rattle.zcalls.specs.declared.call.Entry.{Entry}
use Rattle.zprotocol.specs.declared.process.Process.{Process}
use Rattle.zprotocol.specs.server.Machine.{Does, replay}
use Rattle.zprotocol.specs.server.View.{Transfer, MessageOf}
use Rattle.zprotocol.specs.server.support.Homomorphism.{message_with, posts_with}
use Rattle.zprotocol.specs.master.View.{MasterView, is_among, members, opening_master}
use Rattle.zprotocol.specs.declared.master.order.Order.{Order}
use Rattle.zprotocol.specs.master.Table.{MasterResult, order_fault, order_step, master_step}

-- the same view, with the machines in the outgoing messages mapped
abbrev pub master_result_with : {M N : Type 0} → (M → N) → MasterResult (Transfer M) → MasterResult (Transfer N)
master_result_with h taken = (taken.0, posts_with h taken.1)

-- The master does the same whether the machines in messages are logs, or the states that those logs
-- lead to.
abbrev pub TableKeepsLogs : {M : Type 0} → Does M → Type 0
TableKeepsLogs does =
    (v : MasterView) (from : Process) (m : MessageOf (List Entry))
    → master_step v from (message_with (replay does) m) ≡ master_result_with (replay does) (master_step v from m)

-- the same holds of an order
abbrev pub OrderKeepsLogs : {M : Type 0} → Does M → Type 0
OrderKeepsLogs does = (v : MasterView) (order : Order) → order_step v order ≡ master_result_with (replay does) (order_step v order)

-- the numbers are strictly rising, and none is below `first`
abbrev pub IsRisingFrom : ℕ → List ℕ → Type 0
IsRisingFrom first [] = Unit {0}
IsRisingFrom first (number ∷ numbers) = (first ≤ number) × IsRisingFrom (number + 1) numbers

-- the number of members without state: 0 or 1
abbrev pub joining_count : Option ℕ → ℕ
joining_count None = 0
joining_count (Some s) = 1

-- Bounds on the master's view. Each used number accounts for three epochs: one to join, one when it
-- has joined, one to leave.
pub record IsBounded (v : MasterView) : Type 0 where
  -- the used numbers are rising
  pub rising : IsRisingFrom 0 v.used
  -- there are at least as many of them as members
  pub enough : length v.chain ≤ length v.used
  -- the epochs so far, one for each member to leave, and one for a join to finish, are at most
  -- three per used number
  pub epochs : v.epoch + length v.chain + joining_count v.joining ≤ 3 * length v.used
  -- a joining server is a member
  pub joins : (s : ℕ) → v.joining ≡ Some s → is_among s (members v) ≡ true
  -- a retiring server is a member
  pub retires : (s : ℕ) → v.retiring ≡ Some s → is_among s (members v) ≡ true

-- the initial view is within the bounds
abbrev pub OpeningIsBounded : Type 0
OpeningIsBounded = (servers clients : ℕ) → IsBounded (opening_master servers clients)

-- every message preserves the bounds
abbrev pub MessagesKeepBounds : {M : Type 0} → Does M → Type 0
MessagesKeepBounds {M} does = (v : MasterView) (from : Process) (m : MessageOf M) → IsBounded v → IsBounded (master_step v from m).0

-- every order that isn't refused preserves them
abbrev pub OrdersKeepBounds : {M : Type 0} → Does M → Type 0
OrdersKeepBounds {M} does =
    (v : MasterView) (order : Order) → order_fault v order ≡ None → IsBounded v → IsBounded (order_step {T = Transfer M} v order).0
