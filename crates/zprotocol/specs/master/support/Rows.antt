-- Chains for the worked examples of the master table.
use Rattle.std.specs.Prelude.{◌≡◌, ℕ, Option, None, Some, List, [], ◌∷◌}
use Rattle.zprotocol.specs.declared.message.Message.TheVariants as message
use Rattle.zprotocol.specs.declared.process.Process.TheVariants.{Server, Client}
use Rattle.zprotocol.specs.declared.process.Process.{Process}
use Rattle.zprotocol.specs.server.View.{Neighbour, Transfer, MessageOf, Post}
use Rattle.zprotocol.specs.master.View.{MasterView}
use Rattle.zprotocol.specs.declared.master.order.Order.{Order}
use Rattle.zprotocol.specs.master.Table.{MasterResult, master_step, order_step}

-- the master of two clients, of servers 1 to 4 and of epochs up to 6, with this chain and this
-- server joining
abbrev pub master : List Neighbour → Option ℕ → MasterView
master chain joining = record { chain = chain; joining = joining; retiring = None; used = 1 ∷ 2 ∷ 3 ∷ 4 ∷ []; epoch = 6; clients = 2 }

-- three members, and four
abbrev pub three : MasterView
three = master ((1, 0) ∷ (2, 3) ∷ (4, 5) ∷ []) None

abbrev pub four : MasterView
four = master ((1, 0) ∷ (2, 3) ∷ (3, 2) ∷ (4, 5) ∷ []) None

-- the three, after which server 5 joins
abbrev pub with_fifth : MasterView
with_fifth =
    record three {
      chain = (1, 0) ∷ (2, 3) ∷ (4, 5) ∷ (5, 7) ∷ [];
      joining = Some 5;
      used = 1 ∷ 2 ∷ 3 ∷ 4 ∷ 5 ∷ [];
      epoch = 7;
    }

-- the initial master of a chain of two, with three clients
abbrev pub opening_of_two : MasterView
opening_of_two =
    record { chain = (1, 0) ∷ (2, 0) ∷ []; joining = None; retiring = None; used = 1 ∷ 2 ∷ []; epoch = 0; clients = 3 }

-- three members, of which the last has no state yet
abbrev pub growing : MasterView
growing = master ((1, 0) ∷ (2, 3) ∷ (4, 5) ∷ []) (Some 4)

-- a master that ordered this member to leave
abbrev pub retiring : ℕ → MasterView → MasterView
retiring s v = record v { retiring = Some s }

-- one member; one that has no state; and none
abbrev pub one : MasterView
one = master ((2, 3) ∷ []) None

abbrev pub lost : MasterView
lost = master ((4, 5) ∷ []) (Some 4)

abbrev pub empty : MasterView
empty = master [] None

-- both clients receive this head and this tail in epoch 7, or that there is no chain
abbrev pub reports : ℕ → ℕ → List (Post ℕ)
reports head tail = (Client 0, message.Config 7 (Some head) (Some tail)) ∷ (Client 1, message.Config 7 (Some head) (Some tail)) ∷ []

abbrev pub reports_of_none : List (Post ℕ)
reports_of_none = (Client 0, message.Config 7 None None) ∷ (Client 1, message.Config 7 None None) ∷ []

-- what the master does with a message, between servers whose machine is a number
abbrev pub after : MasterView → Process → MessageOf ℕ → MasterResult (Transfer ℕ)
after v from m = master_step v from m

-- the message changes nothing, and sends nothing
abbrev pub Ignores : MasterView → Process → MessageOf ℕ → Type 0
Ignores v from m = after v from m ≡ (v, [])

-- what the master does at an order
abbrev pub after_order : MasterView → Order → MasterResult (Transfer ℕ)
after_order v order = order_step v order

-- what it does with the report of server 4, of a pair of epoch 5, when that server has the state,
-- and when a server is gone
abbrev pub after_have : MasterView → Option ℕ → MasterResult (Transfer ℕ)
after_have v last = after v (Server 4) (message.Have 5 last)

abbrev pub after_joined : MasterView → MasterResult (Transfer ℕ)
after_joined v = after v (Server 4) (message.Joined 5)

abbrev pub after_gone : MasterView → ℕ → MasterResult (Transfer ℕ)
after_gone v s = after v (Server s) message.Gone

-- a master whose chain was repaired in epoch 7
abbrev pub with_chain : List Neighbour → MasterView → MasterView
with_chain chain v = record v { chain = chain; epoch = 7 }

-- the three without one of them, the four without one of them, and the three whose last has no
-- state without their second
abbrev pub three_without_1 : MasterView
three_without_1 = with_chain ((2, 3) ∷ (4, 5) ∷ []) three

abbrev pub three_without_2 : MasterView
three_without_2 = with_chain ((1, 0) ∷ (4, 7) ∷ []) three

abbrev pub three_without_4 : MasterView
three_without_4 = with_chain ((1, 0) ∷ (2, 3) ∷ []) three

abbrev pub four_without_2 : MasterView
four_without_2 = with_chain ((1, 0) ∷ (3, 7) ∷ (4, 5) ∷ []) four

abbrev pub four_without_3 : MasterView
four_without_3 = with_chain ((1, 0) ∷ (2, 3) ∷ (4, 7) ∷ []) four

abbrev pub growing_without_2 : MasterView
growing_without_2 = with_chain ((1, 0) ∷ (4, 7) ∷ []) growing

-- a master with no joining server, in epoch 7
abbrev pub without_joining : MasterView → MasterView
without_joining v = record v { joining = None; epoch = 7 }

-- server 2 receives what server 4, its next in a pair of epoch 5, reported
abbrev pub passed_on : Option ℕ → Post ℕ
passed_on last = (Server 2, message.NewSucc 5 4 last)

-- what is sent when the chain is repaired. In epoch 7 a server becomes the head or the tail, or
-- gets a new predecessor. The clients receive the head and the tail
abbrev pub new_head : ℕ → ℕ → List (Post ℕ)
new_head head tail = (Server head, message.BecomeHead 7) ∷ reports head tail

abbrev pub new_tail : ℕ → ℕ → List (Post ℕ)
new_tail head tail = (Server tail, message.BecomeTail 7) ∷ reports head tail

abbrev pub new_pred : ℕ → ℕ → ℕ → ℕ → List (Post ℕ)
new_pred s pred head tail = (Server s, message.NewPred 7 pred) ∷ reports head tail
