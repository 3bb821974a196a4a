-- What the master does with a message, as one of five kinds of row, each with its conditions. How a
-- chain is repaired is one of four. A proof that splits the master table has one case for each.
use Rattle.std.specs.Prelude.{◌≡◌, ℕ, ◌+◌, true, false, List, [], ◌∷◌, ◌++◌, Option, Some, None}
use Rattle.zprotocol.specs.declared.message.Message.{Message}
use Rattle.zprotocol.specs.declared.message.Message.TheVariants as message
use Rattle.zprotocol.specs.declared.process.Process.{Process}
use Rattle.zprotocol.specs.declared.process.Process.TheVariants.{Server}
use Rattle.zprotocol.specs.server.View.{Neighbour}
use Rattle.zprotocol.specs.master.View.{MasterView, is_among, with_number, members}
use Rattle.zprotocol.specs.master.Table.{MasterResult, and_report_clients, before, MendedChain, without_member}

-- a chain from which a server has failed: the only one, the first, the last, or one between two
-- others
pub data IsMended {T : Type 0} (epoch s : ℕ) : List Neighbour → MendedChain T → Type 0 where
  Only : (k : ℕ) → IsMended epoch s ((s, k) ∷ []) ([], [])
  First : (k : ℕ) (t : Neighbour) (rest : List Neighbour)
      → IsMended epoch s ((s, k) ∷ t ∷ rest) (t ∷ rest, (Server t.0, message.BecomeHead epoch) ∷ [])
  Last : (front : List Neighbour) (p : Neighbour) (k : ℕ)
      → IsMended epoch s (front ++ p ∷ (s, k) ∷ []) (front ++ p ∷ [], (Server p.0, message.BecomeTail epoch) ∷ [])
  Between : (front : List Neighbour) (p : Neighbour) (k : ℕ) (t : Neighbour) (rest : List Neighbour)
      → IsMended epoch s (front ++ p ∷ (s, k) ∷ t ∷ rest)
      (front ++ p ∷ (t.0, epoch) ∷ rest, (Server t.0, message.NewPred epoch p.0) ∷ [])

-- the view when a member has failed and its chain was repaired
abbrev pub after_gone : {T : Type 0} → MasterView → ℕ → MendedChain T → MasterView
after_gone v s chain = without_member v s chain.0

-- the rows that do something, and that nothing is done
pub data IsMasterRow {T : Type 0} (v : MasterView) : Process → Message T → MasterResult T → Type 0 where
  Ignores : (from : Process) (m : Message T) → IsMasterRow v from m (v, [])
  Reports : (s epoch : ℕ) (last : Option ℕ) (p : ℕ) → before s epoch v.chain ≡ Some p
      → IsMasterRow v (Server s) (message.Have epoch last) (v, (Server p, message.NewSucc epoch s last) ∷ [])
  Joins : (s epoch : ℕ) → v.joining ≡ Some s
      → IsMasterRow v (Server s) (message.Joined epoch) (and_report_clients (record v { joining = None; epoch = v.epoch + 1 }) [])
  LeavesOutside : (s : ℕ) → is_among s (members v) ≡ false
      → IsMasterRow v (Server s) message.Gone (record v { used = with_number s v.used }, [])
  Leaves : (s : ℕ) (chain : MendedChain T) → is_among s (members v) ≡ true → IsMended (v.epoch + 1) s v.chain chain
      → IsMasterRow v (Server s) message.Gone (and_report_clients (after_gone v s chain) chain.1)
