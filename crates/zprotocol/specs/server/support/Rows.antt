-- A machine that counts, entries and servers for the worked examples of the server table.
use Rattle.std.specs.Prelude.{ℕ, ◌+◌, ◌-◌, ◌≡◌, Bool, Option, None, Some, List, [], ◌∷◌, length, if◌then◌else◌, ◌==◌}
use Rattle.zcalls.specs.declared.call.Entry.{Entry}
use Rattle.zcalls.specs.declared.call.Expected.TheVariants.{Any}
use Rattle.zcalls.specs.declared.call.Update.{Update}
use Rattle.zcalls.specs.declared.call.Update.TheVariants.{Delete}
use Rattle.zcalls.specs.declared.call.Query.{Query}
use Rattle.zcalls.specs.declared.call.Query.TheVariants.{Exists}
use Rattle.zcalls.specs.declared.refusal.Refusal.TheVariants.{NoNode}
use Rattle.zcalls.specs.declared.reply.Reply.{Reply}
use Rattle.zcalls.specs.declared.reply.Reply.TheVariants.{MultiRefused}
use Rattle.zprotocol.specs.declared.limits.TheConstants.{MAX_LOG_NUMBER}
use Rattle.zprotocol.specs.server.Machine.{Does, log_of}
use Rattle.zprotocol.specs.server.Memory.{may_be_unheard, may_stop}
use Rattle.zprotocol.specs.declared.message.Message.TheVariants as message
use Rattle.zprotocol.specs.declared.process.Process.{Process}
use Rattle.zprotocol.specs.declared.process.Process.TheVariants.{Master, Server, Client}
use Rattle.zprotocol.specs.server.View.{ServerView, Transfer, Neighbour, MessageOf, Post, member, opening_server}
use Rattle.zprotocol.specs.server.Table.{ServerResult, server_step}

-- a reply that holds a number
abbrev pub number_reply : ℕ → Reply
number_reply n = MultiRefused n NoNode

-- a machine that counts entries. The reply to each is its position among them, but a call of number
-- 0 has no reply. The reply to a query is their number
abbrev pub counting_machine : Does ℕ
counting_machine =
    record {
      start = 0;
      apply = λ n entry. (n + 1, if entry.number == 0 then None else Some (number_reply (n + 1)));
      ask = λ n query. number_reply n;
    }

-- an update, and a query
abbrev pub update : Update
update = Delete (record { path = []; version = Any })

abbrev pub query : Query
query = Exists []

-- client 5's call of this number as an entry
abbrev pub call : ℕ → Entry
call number = record { client = 5; number = number; update = update }

-- its requests of number 18, and the answer to them that holds a number
abbrev pub submit : MessageOf ℕ
submit = message.Submit 18 update

abbrev pub ask : MessageOf ℕ
ask = message.Query 18 query

abbrev pub answer : ℕ → Post ℕ
answer n = (Client 5, message.Answer 18 (number_reply n))

-- the entry of this number in the log, which is its call of ten more: as Sent holds it, and on a
-- channel in an epoch
abbrev pub logged : ℕ → ℕ × Entry
logged n = (n, call (n + 10))

abbrev pub update_of : {M : Type 0} → ℕ → ℕ → MessageOf M
update_of epoch n = message.Update epoch n (call (n + 10))

-- its call of number 0, to which the machine has no reply: as a request, and on a channel as the
-- eighth entry
abbrev pub silent_submit : MessageOf ℕ
silent_submit = message.Submit 0 update

abbrev pub silent_update : MessageOf ℕ
silent_update = message.Update 4 8 (call 0)

-- what a server sends to another: an entry, an acknowledgement; and to the master, what it has
abbrev pub update_to : {M : Type 0} → ℕ → ℕ → ℕ → Post M
update_to s epoch n = (Server s, update_of epoch n)

abbrev pub ack_to : ℕ → ℕ → ℕ → Post ℕ
ack_to s epoch n = (Server s, message.Ack epoch n)

abbrev pub have : ℕ → Option ℕ → Post ℕ
have epoch last = (Master, message.Have epoch last)

-- a server with other neighbours
abbrev pub with_pred : Option Neighbour → ServerView ℕ → ServerView ℕ
with_pred pred v = record v { pred = pred }

abbrev pub with_succ : Option Neighbour → ServerView ℕ → ServerView ℕ
with_succ succ v = record v { succ = succ }

-- after server 2 and before server 4, in a pair of epoch 8; the entry of a number on its way to
-- that server 4; and a server without successor
abbrev pub behind_2 : ServerView ℕ → ServerView ℕ
behind_2 v = with_pred (Some (2, 8)) v

abbrev pub before_4 : ServerView ℕ → ServerView ℕ
before_4 v = with_succ (Some (4, 8)) v

abbrev pub to_4 : ℕ → Post ℕ
to_4 n = update_to 4 8 n

abbrev pub as_tail : ServerView ℕ → ServerView ℕ
as_tail v = record v { sent = []; succ = None }

-- a server with these entries left in Sent
abbrev pub with_sent : List (ℕ × Entry) → ServerView ℕ → ServerView ℕ
with_sent sent v = record v { sent = sent }

-- a server with the state after seven entries, of which the tail may not have processed the last
-- two
abbrev pub initialised_server : Option Neighbour → Option Neighbour → ServerView ℕ
initialised_server pred succ = record { machine = Some 7; last = 7; sent = logged 6 ∷ logged 7 ∷ []; pred = pred; succ = succ }

-- between server 1, as a pair of epoch 4, and server 3, as a pair of epoch 5
abbrev pub middle : ServerView ℕ
middle = initialised_server (Some (1, 4)) (Some (3, 5))

-- before server 3
abbrev pub head : ServerView ℕ
head = initialised_server None (Some (3, 5))

-- after server 1
abbrev pub tail : ServerView ℕ
tail = initialised_server (Some (1, 4)) None

-- head and tail in one
abbrev pub single : ServerView ℕ
single = initialised_server None None

-- the same, in the initial state; the initial server of this number in a chain of that many; and
-- one with such neighbours
abbrev pub at_start : ServerView ℕ
at_start = record { machine = Some 0; last = 0; sent = []; pred = None; succ = None }

abbrev pub opening : ℕ → ℕ → ServerView ℕ
opening servers s = opening_server counting_machine servers s

abbrev pub opening_member : Option Neighbour → Option Neighbour → ServerView ℕ
opening_member pred succ = member counting_machine pred succ

-- a single one whose log takes one more entry, and one whose log is full
abbrev pub nearly_full : ServerView ℕ
nearly_full = record single { last = MAX_LOG_NUMBER - 1 }

abbrev pub full : ServerView ℕ
full = record single { last = MAX_LOG_NUMBER }

-- a server after the entry of call 18, which is in its Sent
abbrev pub with_entry_kept : ServerView ℕ → ServerView ℕ
with_entry_kept v = record v { machine = Some 8; last = 8; sent = logged 6 ∷ logged 7 ∷ logged 8 ∷ [] }

-- a server after one more entry, which isn't in its Sent
abbrev pub with_entry : ServerView ℕ → ServerView ℕ
with_entry v = record v { machine = Some 8; last = 8 }

-- a server without state, after server 1 as a pair of epoch 4; and the same with an entry in Sent
abbrev pub joining : ServerView ℕ
joining = record { machine = None; last = 0; sent = []; pred = Some (1, 4); succ = None }

abbrev pub joining_with_sent : ServerView ℕ
joining_with_sent = with_sent (logged 6 ∷ []) joining

-- the state after nine entries, a server that took it over, and what it sends then
abbrev pub nine : Transfer ℕ
nine = record { last = 9; machine = 9 }

abbrev pub has_joined : ServerView ℕ
has_joined = record joining { machine = Some 9; last = 9 }

abbrev pub joined_posts : List (Post ℕ)
joined_posts = ack_to 1 4 9 ∷ (Master, message.Joined 4) ∷ []

-- a tail that handed its state to server 4, the next in a pair of epoch 8: as it is to be, and as
-- the table leaves it
abbrev pub old_tail : ServerView ℕ
old_tail = before_4 tail

abbrev pub handed_over : ServerView ℕ
handed_over = (server_step counting_machine tail Master (message.NewSucc 8 4 None)).0

abbrev pub snapshot_post : Post ℕ
snapshot_post = (Server 4, message.Snapshot 8 (record { last = 7; machine = 7 }))

-- what a server does with a message
abbrev pub after : ServerView ℕ → Process → MessageOf ℕ → ServerResult ℕ
after v from m = server_step counting_machine v from m

-- the message changes nothing, and sends nothing
abbrev pub Ignores : ServerView ℕ → Process → MessageOf ℕ → Type 0
Ignores v from m = after v from m ≡ (v, [])

-- the same, with the messages of most examples: client 5's two requests, the entry of a number from
-- server 1, and an acknowledgement from server 3. Then a state from server 1, and the master's
-- messages of epoch 8
abbrev pub after_submit : ServerView ℕ → ServerResult ℕ
after_submit v = after v (Client 5) submit

abbrev pub after_ask : ServerView ℕ → ServerResult ℕ
after_ask v = after v (Client 5) ask

abbrev pub after_update : ServerView ℕ → ℕ → ServerResult ℕ
after_update v n = after v (Server 1) (update_of 4 n)

abbrev pub after_silent_update : ServerView ℕ → ServerResult ℕ
after_silent_update v = after v (Server 1) silent_update

abbrev pub after_ack : ServerView ℕ → ℕ → ServerResult ℕ
after_ack v n = after v (Server 3) (message.Ack 5 n)

abbrev pub after_snapshot : ServerView ℕ → ServerResult ℕ
after_snapshot v = after v (Server 1) (message.Snapshot 4 nine)

abbrev pub after_pred : ServerView ℕ → ServerResult ℕ
after_pred v = after v Master (message.NewPred 8 2)

abbrev pub after_succ : ServerView ℕ → Option ℕ → ServerResult ℕ
after_succ v last = after v Master (message.NewSucc 8 4 last)

abbrev pub after_head : ServerView ℕ → ServerResult ℕ
after_head v = after v Master (message.BecomeHead 8)

abbrev pub after_tail : ServerView ℕ → ServerResult ℕ
after_tail v = after v Master (message.BecomeTail 8)

-- whether a server may stop at a message, and whether it may drop it
abbrev pub stops : ServerView ℕ → Process → MessageOf ℕ → Bool
stops v from m = may_stop counting_machine v from m

abbrev pub is_unheard : ServerView ℕ → Process → MessageOf ℕ → Bool
is_unheard v from m = may_be_unheard counting_machine v from m

-- logs of one entry and of two, and the machine that stores its log, over the one that counts
abbrev pub one : List Entry
one = call 11 ∷ []

abbrev pub two : List Entry
two = call 11 ∷ call 12 ∷ []

abbrev pub counted_log : Does (List Entry)
counted_log = log_of counting_machine

-- a head before server 3 that has this log, and these entries left in Sent. Then the log of one
-- entry, all of it processed, and that of two, the second of which it forwarded
abbrev pub on_log : List Entry → List (ℕ × Entry) → ServerView (List Entry)
on_log log sent = record { machine = Some log; last = length log; sent = sent; pred = None; succ = Some (3, 5) }

abbrev pub on_one : ServerView (List Entry)
on_one = on_log one []

abbrev pub on_two : ServerView (List Entry)
on_two = on_log two (logged 2 ∷ [])

-- what a server that stores its log does with client 5's call 12
abbrev pub after_call_12 : ServerView (List Entry) → ServerResult (List Entry)
after_call_12 v = server_step counted_log v (Client 5) (message.Submit 12 update)
