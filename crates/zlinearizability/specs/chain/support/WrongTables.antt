-- Wrong tables, each with a step that loses an invariant. The table itself is in the server's
-- crate, so its wrong variants are defined here.
use Rattle.std.specs.Prelude.{◌≡◌, ℕ, ◌+◌, ◌==◌, ◌&&◌, if◌then◌else◌, Option, None, Some, List, [], ◌∷◌, ◌++◌, length}
use Rattle.zcalls.specs.declared.call.Entry.{Entry}
use Rattle.zcalls.specs.declared.call.Expected.TheVariants.{Any}
use Rattle.zcalls.specs.declared.call.Query.{Query}
use Rattle.zcalls.specs.declared.call.Update.{Update}
use Rattle.zcalls.specs.declared.call.Update.TheVariants.{Delete}
use Rattle.zcalls.specs.declared.reply.Reply.{Reply}
use Rattle.zcalls.specs.Operation.{Operation}
use Rattle.zcalls.specs.Lists.{Among}
use Rattle.zcalls.specs.PlainTree.{plain_tree}
use Rattle.zprotocol.specs.declared.message.Message.TheVariants as message
use Rattle.zprotocol.specs.declared.process.Process.{Process}
use Rattle.zprotocol.specs.declared.process.Process.TheVariants.{Server, Client}
use Rattle.zprotocol.specs.server.Machine.{Does}
use Rattle.zprotocol.specs.server.View.{ServerView, Neighbour, Transfer, spare}
use Rattle.zprotocol.specs.server.Table.{ServerResult, if_initialised, is_neighbour, no_effect, accept_result, forward_post}
use Rattle.zprotocol.specs.declared.world.event.Event.TheVariants.{Take}
use Rattle.zprotocol.specs.world.Links.{Links, is_same, without_front}
use Rattle.zprotocol.specs.world.World.{opening_world}
use Rattle.zprotocol.specs.world.Does.{server_effect}
use Rattle.zprotocol.specs.world.Events.{did_in}
use Rattle.zlinearizability.specs.legal.Prefix.{IsPrefix}
use Rattle.zlinearizability.specs.legal.Items.{updates_of}
use Rattle.zlinearizability.specs.chain.Flow.{LogWorld, LogMessage, Log, log_machine}
use Rattle.zlinearizability.specs.chain.Account.{Account, account_by}
use Rattle.zlinearizability.specs.chain.Messages.{IsJustified}
use Rattle.zlinearizability.specs.chain.Sound.{IsSound, ChainIsOrdered}

-- client 0's call of this number
abbrev pub call : ℕ → Entry
call number = record { client = 0; number = number; update = Delete (record { path = []; version = Any }) }

-- a member with this log and these neighbours
abbrev pub holder : Log → Option Neighbour → Option Neighbour → ServerView (List Entry)
holder None pred succ = record { machine = None; last = 0; sent = []; pred = pred; succ = succ }
holder (Some log) pred succ = record { machine = Some log; last = length log; sent = []; pred = pred; succ = succ }

-- channels of which one has this message alone
abbrev pub on_link : Process → Process → LogMessage → Links (List Entry)
on_link sender receiver m from to = if is_same from sender && is_same to receiver then m ∷ [] else []

-- server 1 before server 2, as a pair of epoch 0: what each has, and what is in flight
abbrev pub two_members : List Entry → Log → Links (List Entry) → LogWorld
two_members first second links =
    record (opening_world (log_machine plain_tree) 2 1) {
      servers = λ s.
          if s == 1 then holder (Some first) None (Some (2, 0)) else
          if s == 2 then holder second (Some (1, 0)) None else spare;
      links = links;
    }

-- the world after a server receives a message with this result
abbrev pub taken_world : LogWorld → Process → ℕ → ServerResult (List Entry) → LogWorld
taken_world w from s result = did_in (record w { links = without_front w.links from (Server s) }) (Server s) (server_effect result)

-- the same with the account beside the world, from this committed log on
abbrev pub taken_account : LogWorld → List Entry → Process → ℕ → ServerResult (List Entry) → Account
taken_account w committed from s result =
    account_by plain_tree (record { world = w; committed = committed; items = [] }) (Take from (Server s)) (taken_world w from s result)

-- then the server sends client 0 a message that isn't justified: an answer of no item
abbrev pub AnswersNoItem : LogWorld → List Entry → ℕ → ServerResult (List Entry) → Type 0
AnswersNoItem w committed s result =
    let u = taken_account w committed (Client 0) s result in
    (m : LogMessage) × Among m (u.world.links (Server s) (Client 0)) × (IsJustified u.world u.items (Server s) (Client 0) m → ⊥)

-- the chain was in order, and then it isn't
abbrev pub LosesOrder : LogWorld → Process → ℕ → ServerResult (List Entry) → Type 0
LosesOrder w from s result = ChainIsOrdered w × (ChainIsOrdered (taken_world w from s result) → ⊥)

-- what was committed isn't any more
abbrev pub LosesCommitted : LogWorld → List Entry → Process → ℕ → ServerResult (List Entry) → Type 0
LosesCommitted w committed from s result = IsPrefix committed (taken_account w committed from s result).committed → ⊥

-- a head that answers before the tail has the update
abbrev pub early_answer : {M : Type 0} → Does M → ServerView M → M → Neighbour → Entry → Reply → ServerResult M
early_answer does v m succ entry reply = (
  record v { machine = Some (does.apply m entry).0; last = v.last + 1; sent = v.sent ++ (v.last + 1, entry) ∷ [] },
  forward_post succ (v.last + 1, entry) ∷ (Client entry.client, message.Answer entry.number reply) ∷ [],
)

abbrev pub EarlyAnswersAreRefuted : Type 0
EarlyAnswersAreRefuted =
    (reply : Reply)
    → AnswersNoItem (two_members [] (Some []) (on_link (Client 0) (Server 1) (message.Submit 1 (call 1).update))) [] 1
    (early_answer (log_machine plain_tree) (holder (Some []) None (Some (2, 0))) [] (2, 0) (call 1) reply)

-- a server with a log that answers queries, tail or not
abbrev pub any_query_row : {M : Type 0} → Does M → ServerView M → ℕ → ℕ → Query → ServerResult M
any_query_row does v client number query =
    if_initialised v (λ m. (v, (Client client, message.Answer number (does.ask m query)) ∷ []))

abbrev pub AnyQueriesAreRefuted : Type 0
AnyQueriesAreRefuted =
    (query : Query)
    → AnswersNoItem (two_members [] (Some []) (on_link (Client 0) (Server 1) (message.Query 1 query))) [] 1
    (any_query_row (log_machine plain_tree) (holder (Some []) None (Some (2, 0))) 0 1 query)

-- and so an old tail, which has sent its snapshot
abbrev pub OldTailsAreRefuted : Type 0
OldTailsAreRefuted =
    (query : Query)
    → let snapshot = on_link (Server 1) (Server 2) (message.Snapshot 0 (record { last = 1; machine = call 1 ∷ [] })) in
    let asked = on_link (Client 0) (Server 1) (message.Query 2 query) in
    AnswersNoItem (two_members (call 1 ∷ []) None (λ from to. snapshot from to ++ asked from to)) (call 1 ∷ []) 1
    (any_query_row (log_machine plain_tree) (holder (Some (call 1 ∷ [])) None (Some (2, 0))) 0 2 query)

-- a server with a log that accepts updates from clients, head or not
abbrev pub any_submit_row : {M : Type 0} → Does M → ServerView M → ℕ → ℕ → Update → ServerResult M
any_submit_row does v client number update =
    if_initialised v (λ m. accept_result does v m (v.last + 1) (record { client = client; number = number; update = update }))

abbrev pub AnySubmitsAreRefuted : Type 0
AnySubmitsAreRefuted =
    LosesOrder (two_members [] (Some []) (on_link (Client 0) (Server 2) (message.Submit 1 (call 1).update))) (Client 0) 2
    (any_submit_row (log_machine plain_tree) (holder (Some []) (Some (1, 0)) None) 0 1 (call 1).update)

-- an update of the predecessor that is accepted though its number isn't the next
abbrev pub any_update_row : {M : Type 0} → Does M → ServerView M → ℕ → ℕ → ℕ → Entry → ServerResult M
any_update_row does v p epoch n entry =
    if_initialised v (λ m. if is_neighbour v.pred p epoch then accept_result does v m n entry else no_effect v)

abbrev pub AnyUpdatesAreRefuted : Type 0
AnyUpdatesAreRefuted =
    LosesOrder (two_members (call 1 ∷ call 2 ∷ []) (Some []) (on_link (Server 1) (Server 2) (message.Update 0 2 (call 2)))) (Server 1) 2
    (any_update_row (log_machine plain_tree) (holder (Some []) (Some (1, 0)) None) 1 0 2 (call 2))

-- a snapshot of the predecessor that replaces a state that the server has
abbrev pub any_snapshot_row : {M : Type 0} → ServerView M → ℕ → ℕ → Transfer M → ServerResult M
any_snapshot_row v p epoch transfer =
    if is_neighbour v.pred p epoch then (record v { machine = Some transfer.machine; last = transfer.last; sent = [] }, []) else no_effect v

abbrev pub AnySnapshotsAreRefuted : Type 0
AnySnapshotsAreRefuted =
    LosesCommitted (two_members (call 1 ∷ []) (Some (call 1 ∷ [])) (on_link (Server 1) (Server 2) (message.Snapshot 0 (record { last = 0; machine = [] }))))
    (call 1 ∷ []) (Server 1) 2 (any_snapshot_row (holder (Some (call 1 ∷ [])) (Some (1, 0)) None) 1 0 (record { last = 0; machine = [] }))

-- a retried update that acts again occurs twice among the items
abbrev pub SecondActsAreRefuted : Type 0
SecondActsAreRefuted =
    (t : Account) (o : Operation) (first second : Reply)
    → updates_of t.items ≡ (o, first) ∷ (o, second) ∷ [] → IsSound plain_tree t → ⊥
