-- The server table: what a server does with each message, over any state machine. There is one row
-- for each message, in their order. The conditions of a row come before its effect.
use Rattle.std.specs.Prelude.{ℕ, ◌+◌, Bool, true, false, Option, None, Some, List, [], ◌∷◌, ◌++◌, if◌then◌else◌, is_none, nat_lt, ◌==◌, map, filter}
use Rattle.zcalls.specs.declared.call.Entry.{Entry}
use Rattle.zcalls.specs.declared.call.Update.{Update}
use Rattle.zcalls.specs.declared.call.Query.{Query}
use Rattle.zcalls.specs.declared.reply.Reply.{Reply}
use Rattle.zprotocol.specs.declared.limits.TheConstants.{MAX_LOG_NUMBER}
use Rattle.zprotocol.specs.declared.message.Message.TheVariants as message
use Rattle.zprotocol.specs.declared.process.Process.{Process}
use Rattle.zprotocol.specs.declared.process.Process.TheVariants.{Master, Server, Client}
use Rattle.zprotocol.specs.server.Machine.{Does}
use Rattle.zprotocol.specs.server.View.{ServerView, Neighbour, Transfer, MessageOf, Post}

-- the view after a message, and the messages sent
abbrev pub ServerResult : Type 0 → Type 0
ServerResult M = ServerView M × List (Post M)

-- nothing changes, and nothing is sent
abbrev pub no_effect : {M : Type 0} → ServerView M → ServerResult M
no_effect v = (v, [])

-- a row for initialised servers only
abbrev pub if_initialised : {M : Type 0} → ServerView M → (M → ServerResult M) → ServerResult M
if_initialised v row = elim v.machine [ None ↦ no_effect v | Some m ↦ row m ]

-- the neighbour is this server, and their pair has this epoch
abbrev pub is_neighbour : Option Neighbour → ℕ → ℕ → Bool
is_neighbour None s epoch = false
is_neighbour (Some neighbour) s epoch = if neighbour.0 == s then neighbour.1 == epoch else false

-- a log number is left for one more entry
abbrev pub has_room : {M : Type 0} → ServerView M → Bool
has_room v = nat_lt v.last MAX_LOG_NUMBER

-- an acknowledgement of the entries up to n, sent to the predecessor if there is one
abbrev pub ack_posts : {M : Type 0} → Option Neighbour → ℕ → List (Post M)
ack_posts None n = []
ack_posts (Some pred) n = (Server pred.0, message.Ack pred.1 n) ∷ []

-- the reply to an entry, if any, sent to its client
abbrev pub answer_posts : {M : Type 0} → Entry → Option Reply → List (Post M)
answer_posts entry None = []
answer_posts entry (Some reply) = (Client entry.client, message.Answer entry.number reply) ∷ []

-- an entry forwarded to the successor
abbrev pub forward_post : {M : Type 0} → Neighbour → ℕ × Entry → Post M
forward_post succ e = (Server succ.0, message.Update succ.1 e.0 e.1)

-- the entries with a number above n, in order
abbrev pub entries_above : ℕ → List (ℕ × Entry) → List (ℕ × Entry)
entries_above n sent = filter (λ e. nat_lt n e.0) sent

-- Accept: the machine applies the entry, and its number becomes the last one. With a successor, the
-- server adds the entry to Sent and forwards it. Without one, it sends the reply to the client, and
-- an acknowledgement to its predecessor.
unfoldable pub accept_result : {M : Type 0} → Does M → ServerView M → M → ℕ → Entry → ServerResult M
accept_result does v m n entry =
    let did = does.apply m entry in
    elim v.succ [
      | None ↦ (record v { machine = Some did.0; last = n }, answer_posts entry did.1 ++ ack_posts v.pred n)
      | Some succ ↦ (record v { machine = Some did.0; last = n; sent = v.sent ++ (n, entry) ∷ [] }, forward_post succ (n, entry) ∷ [])
    ]

-- Submit from a client, at a head with a log number left
unfoldable pub submit_row : {M : Type 0} → Does M → ServerView M → ℕ → ℕ → Update → ServerResult M
submit_row does v client number update =
    if_initialised v (λ m.
    if is_none v.pred then
    if has_room v then accept_result does v m (v.last + 1) (record { client = client; number = number; update = update })
    else no_effect v else no_effect v)

-- Query from a client, at a tail
unfoldable pub query_row : {M : Type 0} → Does M → ServerView M → ℕ → ℕ → Query → ServerResult M
query_row does v client number query =
    if_initialised v (λ m.
    if is_none v.succ then (v, (Client client, message.Answer number (does.ask m query)) ∷ [])
    else no_effect v)

-- Update from the predecessor in their epoch, at an initialised server, if it carries the next
-- number
unfoldable pub update_row : {M : Type 0} → Does M → ServerView M → ℕ → ℕ → ℕ → Entry → ServerResult M
update_row does v p epoch n entry =
    if_initialised v (λ m.
    if is_neighbour v.pred p epoch then
    if n == v.last + 1 then
    if has_room v then accept_result does v m n entry
    else no_effect v else no_effect v else no_effect v)

-- Ack from the successor in their epoch: the acknowledged entries leave Sent, and the predecessor,
-- if any, is sent an acknowledgement
unfoldable pub ack_row : {M : Type 0} → ServerView M → ℕ → ℕ → ℕ → ServerResult M
ack_row v t epoch n =
    if is_neighbour v.succ t epoch then (record v { sent = entries_above n v.sent }, ack_posts v.pred n)
    else no_effect v

-- Snapshot from the predecessor in their epoch, at a server without state
unfoldable pub snapshot_row : {M : Type 0} → ServerView M → ℕ → ℕ → Transfer M → ServerResult M
snapshot_row v p epoch transfer =
    elim v.machine [
      | Some m ↦ no_effect v
      | None ↦
          if is_neighbour v.pred p epoch then (
            record v { machine = Some transfer.machine; last = transfer.last; sent = [] },
            (Server p, message.Ack epoch transfer.last) ∷ (Master, message.Joined epoch) ∷ [],
          )
          else no_effect v
    ]

-- the last number of a server's log, or none if it has no state
abbrev pub last_number : {M : Type 0} → ServerView M → Option ℕ
last_number v = elim v.machine [ None ↦ None | Some m ↦ Some v.last ]

-- NewPred from the master, always: set the new predecessor, and report the last number to the
-- master
unfoldable pub new_pred_row : {M : Type 0} → ServerView M → ℕ → ℕ → ServerResult M
new_pred_row v epoch p = (record v { pred = Some (p, epoch) }, (Master, message.Have epoch (last_number v)) ∷ [])

-- what a new successor is missing: the entries of Sent above its last number, or the whole state if
-- it has none
abbrev pub missing_posts : {M : Type 0} → ServerView M → M → Neighbour → Option ℕ → List (Post M)
missing_posts v m succ (Some n) = map (forward_post succ) (entries_above n v.sent)
missing_posts v m succ None = (Server succ.0, message.Snapshot succ.1 (record { last = v.last; machine = m })) ∷ []

-- NewSucc from the master, at an initialised server: set the new successor, and send what it is
-- missing; Sent stays
unfoldable pub new_succ_row : {M : Type 0} → ServerView M → ℕ → ℕ → Option ℕ → ServerResult M
new_succ_row v epoch t last = if_initialised v (λ m. (record v { succ = Some (t, epoch) }, missing_posts v m (t, epoch) last))

-- BecomeHead from the master, always: there is no predecessor any more
unfoldable pub become_head_row : {M : Type 0} → ServerView M → ServerResult M
become_head_row v = (record v { pred = None }, [])

-- BecomeTail from the master, always: there is no successor any more, and all of Sent is processed
-- now. An initialised server acknowledges that.
unfoldable pub become_tail_row : {M : Type 0} → ServerView M → ServerResult M
become_tail_row v = (record v { sent = []; succ = None }, elim v.machine [ None ↦ [] | Some m ↦ ack_posts v.pred v.last ])

-- Retire from the master. The row changes nothing and sends nothing; the server that handles it
-- stops for good, as if it had failed.
abbrev pub is_retirement : {M : Type 0} → Process → MessageOf M → Bool
is_retirement Master message.Retire = true
is_retirement from other = false

-- the table; any other message is ignored, and so is one whose conditions don't hold
unfoldable pub server_step : {M : Type 0} → Does M → ServerView M → Process → MessageOf M → ServerResult M
server_step does v (Client c) (message.Submit number update) = submit_row does v c number update
server_step does v (Client c) (message.Query number query) = query_row does v c number query
server_step does v (Server p) (message.Update epoch n entry) = update_row does v p epoch n entry
server_step does v (Server t) (message.Ack epoch n) = ack_row v t epoch n
server_step does v (Server p) (message.Snapshot epoch transfer) = snapshot_row v p epoch transfer
server_step does v Master (message.NewPred epoch p) = new_pred_row v epoch p
server_step does v Master (message.NewSucc epoch t last) = new_succ_row v epoch t last
server_step does v Master (message.BecomeHead epoch) = become_head_row v
server_step does v Master (message.BecomeTail epoch) = become_tail_row v
server_step does v from other = no_effect v
