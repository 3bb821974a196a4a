-- The master's log. Each entry is an input of the master, and is played once. All nodes play the
-- same entries in the same order, so all have the same master.
--
-- An entry is skipped where the master has no such input then: a second opening, an order that the
-- master refuses, a join under another number than the next one, and a report that isn't the next
-- one of its author, or of a server that is gone.
use Rattle.std.specs.Prelude.{◌≡◌, ◌≢◌, ℕ, ◌+◌, ◌-◌, Bool, true, false, not, ◌&&◌, ◌==◌, nat_le, is_none, Option, None, Some, List, [], ◌∷◌, ◌++◌, length, replicate, get_or, slice_get, slice_index, slice_set, if◌then◌else◌}
use Rattle.zprotocol.specs.declared.limits.TheConstants.{MAX_SERVERS}
use Rattle.zprotocol.specs.declared.message.Message.{Message}
use Rattle.zprotocol.specs.declared.message.Message.TheVariants as message
use Rattle.zprotocol.specs.declared.process.Process.{Process}
use Rattle.zprotocol.specs.declared.process.Process.TheVariants.{Master, Server, Client}
use Rattle.zprotocol.specs.declared.master.order.Order.{Order}
use Rattle.zprotocol.specs.declared.master.order.Order.TheVariants as order
use Rattle.zprotocol.specs.declared.master.order_fault.OrderFault.{OrderFault}
use Rattle.zprotocol.specs.declared.master.order_fault.OrderFault.TheVariants.{NoChain}
use Rattle.zprotocol.specs.server.View.{PostOf}
use Rattle.zprotocol.specs.master.View.{MasterView, opening_master}
use Rattle.zprotocol.specs.master.Table.{order_fault, order_step, master_step}
use Rattle.zmaster_log.specs.declared.limits.TheConstants.{MAX_ENTRIES}
use Rattle.zmaster_log.specs.declared.play_fault.PlayFault.{PlayFault}
use Rattle.zmaster_log.specs.declared.play_fault.PlayFault.TheVariants.{NotNext, Full, Memory}
use Rattle.zmaster_log.specs.declared.entry.LogEntry.{LogEntry}
use Rattle.zmaster_log.specs.declared.entry.LogEntry.TheVariants as log
use Rattle.zmaster_log.specs.declared.entry.Report.{Report}
use Rattle.zmaster_log.specs.declared.entry.News.{News}
use Rattle.zmaster_log.specs.declared.entry.News.TheVariants as news

-- ---- what the entries make

-- What the entries from the opening on make: the master; the node of each server, from server 1 on;
-- and for each server number from 1 to `MAX_SERVERS`, how many reports of it were played, and
-- whether it is gone.
pub record MembershipView : Type 0 where
  pub master : MasterView
  pub nodes : List (List ℕ)
  pub counts : List ℕ
  pub gone : List Bool

-- the initial chain has a server on each of these nodes, and the master has no clients
unfoldable pub opened : List (List ℕ) → MembershipView
opened nodes =
    record {
      master = opening_master (length nodes) 0;
      nodes = nodes;
      counts = replicate MAX_SERVERS 0;
      gone = replicate MAX_SERVERS false;
    }

-- the server has joined, or was in the initial chain, and isn't gone
abbrev pub is_live : MembershipView → ℕ → Bool
is_live m s = nat_le s (length m.nodes) && not (get_or m.gone (s - 1) false)

-- how many reports of the server were played
abbrev pub count_of : MembershipView → ℕ → ℕ
count_of m s = slice_index m.counts (s - 1)

-- ---- what an entry does

-- what an entry leaves, and what the master sends
abbrev pub Played : Type 0 → Type 0
Played T = MembershipView × List (PostOf T)

-- the entry is skipped
abbrev pub skipped : {T : Type 0} → MembershipView → Played T
skipped m = (m, [])

-- the number is the next one, and the master lets a server join
abbrev pub may_join : MembershipView → ℕ → Bool
may_join m s = s == length m.nodes + 1 && is_none (order_fault m.master (order.Join s))

-- a server joins on a node
abbrev pub joins : {T : Type 0} → MembershipView → ℕ → List ℕ → Played T
joins m s node =
    let did = order_step m.master (order.Join s) in
    (record m { master = did.0; nodes = m.nodes ++ node ∷ [] }, did.1)

unfoldable pub join_played : {T : Type 0} → MembershipView → ℕ → List ℕ → Played T
join_played m s node = if may_join m s then joins m s node else skipped m

-- the master orders a member to leave
abbrev pub may_retire : MembershipView → ℕ → Bool
may_retire m s = is_none (order_fault m.master (order.Retire s))

abbrev pub retires : {T : Type 0} → MembershipView → ℕ → Played T
retires m s =
    let did = order_step m.master (order.Retire s) in
    (record m { master = did.0 }, did.1)

unfoldable pub retire_played : {T : Type 0} → MembershipView → ℕ → Played T
retire_played m s = if may_retire m s then retires m s else skipped m

-- the server that a report is about
abbrev pub subject_of : ℕ → News → ℕ
subject_of author (news.Have epoch last) = author
subject_of author (news.Joined epoch) = author
subject_of author (news.Gone s) = s

-- the message of that server that the master takes
abbrev pub message_of : {T : Type 0} → News → Message T
message_of (news.Have epoch last) = message.Have epoch last
message_of (news.Joined epoch) = message.Joined epoch
message_of (news.Gone s) = message.Gone

-- the report is the next one of its author, and neither its author nor its subject is gone
abbrev pub is_next : MembershipView → Report → Bool
is_next m r =
    is_live m r.author && count_of m r.author == r.earlier && is_live m (subject_of r.author r.news)

-- the servers that are gone after a report
abbrev pub gone_after : List Bool → News → List Bool
gone_after gone (news.Have epoch last) = gone
gone_after gone (news.Joined epoch) = gone
gone_after gone (news.Gone s) = slice_set gone (s - 1) true

-- the report counts
abbrev pub counted : MembershipView → Report → MasterView → MembershipView
counted m r master =
    record m {
      master = master;
      counts = slice_set m.counts (r.author - 1) (r.earlier + 1);
      gone = gone_after m.gone r.news;
    }

-- the master takes the message of the server that a report is about
abbrev pub takes : {T : Type 0} → MembershipView → Report → Played T
takes m r =
    let did = master_step m.master (Server (subject_of r.author r.news)) (message_of r.news) in
    (counted m r did.0, did.1)

unfoldable pub report_played : {T : Type 0} → MembershipView → Report → Played T
report_played m r = if is_next m r then takes m r else skipped m

-- ---- the log

-- what entries make: nothing before the opening
abbrev pub State : Type 0
State = Option MembershipView

abbrev pub with_state : {T : Type 0} → Played T → State × List (PostOf T)
with_state did = (Some did.0, did.1)

-- an entry after the opening
abbrev pub plays : {T : Type 0} → MembershipView → LogEntry → Played T
plays m (log.Opening nodes) = skipped m
plays m (log.Join s node) = join_played m s node
plays m (log.Retire s) = retire_played m s
plays m (log.Reported r) = report_played m r

-- entries after the opening, one after the other, and all that the master sends
abbrev pub plays_all : {T : Type 0} → MembershipView → List LogEntry → Played T
plays_all m [] = skipped m
plays_all m (entry ∷ entries) =
    let first = plays m entry in
    let rest = plays_all first.0 entries in
    (rest.0, first.1 ++ rest.1)

-- an entry: before the opening, any other is skipped
abbrev pub entry_played : {T : Type 0} → State → LogEntry → State × List (PostOf T)
entry_played None (log.Opening nodes) = (Some (opened nodes), [])
entry_played None (log.Join s node) = (None, [])
entry_played None (log.Retire s) = (None, [])
entry_played None (log.Reported r) = (None, [])
entry_played (Some m) entry = with_state (plays m entry)

-- a log: its entries one after the other
abbrev pub log_played : {T : Type 0} → State → List LogEntry → State × List (PostOf T)
log_played state [] = (state, [])
log_played state (entry ∷ entries) =
    let first = entry_played state entry in
    let rest = log_played first.0 entries in
    (rest.0, first.1 ++ rest.1)

-- ---- the orders for one server

-- the process is this server
abbrev pub is_this_server : ℕ → Process → Bool
is_this_server s Master = false
is_this_server s (Server t) = t == s
is_this_server s (Client c) = false

-- the messages to a server, in order
abbrev pub messages_to : {T : Type 0} → ℕ → List (PostOf T) → List (Message T)
messages_to s [] = []
messages_to s (post ∷ posts) =
    if is_this_server s post.0 then post.1 ∷ messages_to s posts else messages_to s posts

-- the first of them
abbrev pub first_to : {T : Type 0} → ℕ → List (PostOf T) → Option (Message T)
first_to s [] = None
first_to s (post ∷ posts) = if is_this_server s post.0 then Some post.1 else first_to s posts

-- ---- replicas

-- A replica: the server of its node, if the node has one; how many entries were played; and what
-- they make.
pub record ReplicaView : Type 0 where
  pub own : Option ℕ
  pub played : ℕ
  pub state : State

-- the order for the server of the node: an entry has at most one (Laws.antt)
abbrev pub order_for : {T : Type 0} → Option ℕ → List (PostOf T) → Option (Message T)
order_for None posts = None
order_for (Some s) posts = first_to s posts

-- a replica after an entry
abbrev pub after_entry : ReplicaView → State → ReplicaView
after_entry v state = record v { played = v.played + 1; state = state }

-- the server is live, by what the entries make
abbrev pub has_live : State → ℕ → Bool
has_live None s = false
has_live (Some m) s = is_live m s

-- the number of the next server that joins; 0 before the opening
abbrev pub next_of : State → ℕ
next_of None = 0
next_of (Some m) = length m.nodes + 1

-- the node of a server
abbrev pub node_of : State → ℕ → Option (List ℕ)
node_of None s = None
node_of (Some m) s = slice_get m.nodes (s - 1)

-- how many reports of a server were played
abbrev pub reports_of : State → ℕ → ℕ
reports_of None s = 0
reports_of (Some m) s = count_of m s

-- why the master refuses an order; before the opening it has no chain
abbrev pub fault_of : State → Order → Option OrderFault
fault_of None o = Some NoChain
fault_of (Some m) o = order_fault m.master o

-- why an entry with this index isn't played
abbrev pub IsPlayFault : ReplicaView → ℕ → PlayFault → Type 0
IsPlayFault v index NotNext = index ≢ v.played
IsPlayFault v index Full = (index ≡ v.played) × (index ≡ MAX_ENTRIES)
IsPlayFault v index Memory = Unit {0}
