-- The master table: what the master does with each message of a server, and with each order: that a
-- server join, or that a member leave. It never looks at the contents of a Snapshot, so these can
-- be of any type.
use Rattle.std.specs.Prelude.{ℕ, ◌+◌, Bool, false, not, ◌&&◌, Option, None, Some, List, [], ◌∷◌, ◌++◌, length, if◌then◌else◌, is_some, nat_lt, ◌==◌, map}
use Rattle.std.specs.List.{range_with_len, last_or}
use Rattle.zpath.specs.First.{first_that_holds}
use Rattle.zprotocol.specs.declared.message.Message.{Message}
use Rattle.zprotocol.specs.declared.message.Message.TheVariants as message
use Rattle.zprotocol.specs.declared.process.Process.{Process}
use Rattle.zprotocol.specs.declared.process.Process.TheVariants.{Server, Client}
use Rattle.zprotocol.specs.server.View.{Neighbour, PostOf}
use Rattle.zprotocol.specs.declared.master.order.Order.{Order}
use Rattle.zprotocol.specs.declared.master.order.Order.TheVariants.{Join, Retire}
use Rattle.zprotocol.specs.declared.master.order_fault.OrderFault.{OrderFault}
use Rattle.zprotocol.specs.declared.master.order_fault.OrderFault.TheVariants.{Used, NotMember, Joining, NoChain, Lost, Last, Retiring}
use Rattle.zprotocol.specs.master.View.{MasterView, is_among, with_number, members, is_joining, is_retiring, head_of, tail_of}

-- the view after an input, and the messages sent
abbrev pub MasterResult : Type 0 → Type 0
MasterResult T = MasterView × List (PostOf T)

-- nothing changes, and nothing is sent
abbrev pub no_effect : {T : Type 0} → MasterView → MasterResult T
no_effect v = (v, [])

-- every client, by number, is sent the epoch, the head and the tail
abbrev pub config_posts : {T : Type 0} → MasterView → List (PostOf T)
config_posts v = map (λ c. (Client c, message.Config v.epoch (head_of v) (tail_of v))) (range_with_len 0 v.clients)

-- a new view: these messages are sent, and then the configuration to every client
abbrev pub and_report_clients : {T : Type 0} → MasterView → List (PostOf T) → MasterResult T
and_report_clients v first = (v, first ++ config_posts v)

-- a server is joining, and the chain has another member
abbrev pub is_another_joining : MasterView → Bool
is_another_joining v = is_some v.joining && nat_lt 1 (length v.chain)

-- the only member of the chain is joining
abbrev pub is_only_member_joining : MasterView → List ℕ → Bool
is_only_member_joining v (s ∷ []) = is_joining v s
is_only_member_joining v members = false

-- the tests of a join, and those of an order to leave, each with its fault
abbrev pub own_tests : MasterView → Order → List (Bool × OrderFault)
own_tests v (Join s) =
    (is_among s v.used, Used)
    ∷ (is_another_joining v, Joining)
    ∷ (length v.chain == 0, NoChain)
    ∷ (is_only_member_joining v (members v), Lost)
    ∷ []
own_tests v (Retire s) =
    (not (is_among s (members v)), NotMember)
    ∷ (is_some v.joining, Joining)
    ∷ (length v.chain == 1, Last)
    ∷ []

-- why an order is refused, by the first test that holds. The last test of each is that a member is
-- leaving
unfoldable pub order_fault : MasterView → Order → Option OrderFault
order_fault v order = first_that_holds (own_tests v order ++ (is_some v.retiring, Retiring) ∷ [])

-- An order that isn't refused. A server that joins is appended to the chain, and the old last
-- member is its predecessor, in a new epoch. An order to leave is sent to the member, which stays a
-- member until its Gone arrives.
unfoldable pub order_step : {T : Type 0} → MasterView → Order → MasterResult T
order_step v (Join s) =
    elim (last_or None (members v)) [
      | None ↦ no_effect v
      | Some last ↦ (
        record v { chain = v.chain ++ (s, v.epoch + 1) ∷ []; joining = Some s; used = with_number s v.used; epoch = v.epoch + 1 },
        (Server s, message.NewPred (v.epoch + 1) last) ∷ [],
      )
    ]
order_step v (Retire s) = (record v { retiring = Some s }, (Server s, message.Retire) ∷ [])

-- the predecessor of a member, if their pair has this epoch; the first member has none
abbrev pub before : ℕ → ℕ → List Neighbour → Option ℕ
before s epoch [] = None
before s epoch (p ∷ []) = None
before s epoch (p ∷ (t ∷ rest)) = if t.0 == s && t.1 == epoch then Some p.0 else before s epoch (t ∷ rest)

-- Have from a member other than the first, with its epoch: the predecessor is sent this member as
-- its new successor, with its last number
unfoldable pub have_row : {T : Type 0} → MasterView → ℕ → ℕ → Option ℕ → MasterResult T
have_row v s epoch last =
    elim (before s epoch v.chain) [ None ↦ no_effect v | Some p ↦ (v, (Server p, message.NewSucc epoch s last) ∷ []) ]

-- Joined from the server that is joining: it has the state now, so there is a new epoch, and the
-- clients are sent the configuration
unfoldable pub joined_row : {T : Type 0} → MasterView → ℕ → MasterResult T
joined_row v s =
    if is_joining v s then and_report_clients (record v { joining = None; epoch = v.epoch + 1 }) []
    else no_effect v

-- the members that remain in a chain, and the messages to its servers
abbrev pub MendedChain : Type 0 → Type 0
MendedChain T = List Neighbour × List (PostOf T)

-- the first member has failed: the next one becomes the head
abbrev pub without_first : {T : Type 0} → ℕ → List Neighbour → MendedChain T
without_first epoch [] = ([], [])
without_first epoch (t ∷ rest) = (t ∷ rest, (Server t.0, message.BecomeHead epoch) ∷ [])

-- The member after p has failed. If it was the last, p becomes the tail; else the next one is
-- paired with p in the new epoch.
abbrev pub without_next : {T : Type 0} → ℕ → ℕ → List Neighbour → MendedChain T
without_next epoch p [] = ([], (Server p, message.BecomeTail epoch) ∷ [])
without_next epoch p (t ∷ rest) = ((t.0, epoch) ∷ rest, (Server t.0, message.NewPred epoch p) ∷ [])

-- the part of a chain after p, after a server in it has failed
abbrev pub mended_chain_behind : {T : Type 0} → ℕ → ℕ → ℕ → List Neighbour → MendedChain T
mended_chain_behind epoch s p [] = ([], [])
mended_chain_behind epoch s p (t ∷ rest) =
    if t.0 == s then without_next epoch p rest else
    let mended_chain = mended_chain_behind epoch s t.0 rest in
    (t ∷ mended_chain.0, mended_chain.1)

-- a chain after one of its servers has failed: the first, the last or one in between
abbrev pub mended_chain : {T : Type 0} → ℕ → ℕ → List Neighbour → MendedChain T
mended_chain epoch s [] = ([], [])
mended_chain epoch s (t ∷ rest) =
    if t.0 == s then without_first epoch rest else
    let mended_chain = mended_chain_behind epoch s t.0 rest in
    (t ∷ mended_chain.0, mended_chain.1)

-- the view without a member, given the remaining chain; the member isn't joining or retiring any
-- more
abbrev pub without_member : MasterView → ℕ → List Neighbour → MasterView
without_member v s chain =
    record v {
      chain = chain;
      joining = if is_joining v s then None else v.joining;
      retiring = if is_retiring v s then None else v.retiring;
      epoch = v.epoch + 1;
    }

-- Gone from a server. A member is removed, the chain is repaired in a new epoch, and the clients
-- are sent the configuration. The number of a server outside the chain becomes a used one.
unfoldable pub gone_row : {T : Type 0} → MasterView → ℕ → MasterResult T
gone_row v s =
    if is_among s (members v) then
    (let chain = mended_chain (v.epoch + 1) s v.chain in and_report_clients (without_member v s chain.0) chain.1)
    else (record v { used = with_number s v.used }, [])

-- the table; any other message is ignored
unfoldable pub master_step : {T : Type 0} → MasterView → Process → Message T → MasterResult T
master_step v (Server s) (message.Have epoch last) = have_row v s epoch last
master_step v (Server s) (message.Joined epoch) = joined_row v s
master_step v (Server s) message.Gone = gone_row v s
master_step v from other = no_effect v
