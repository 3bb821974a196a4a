-- What holds of every list of events besides the headline: of logs, of tails and of the replies
-- that clients received.
use Rattle.std.specs.Prelude.{◌≡◌, ℕ, true, false, List, ◌++◌, Some}
use Rattle.zcalls.specs.declared.call.Entry.{Entry}
use Rattle.zcalls.specs.declared.call.Call.TheVariants.{Query}
use Rattle.zcalls.specs.declared.call.Query.{Query as Question}
use Rattle.zcalls.specs.declared.reply.Reply.{Reply}
use Rattle.zcalls.specs.Lists.{Among, ComesBefore, NoTwo}
use Rattle.zcalls.specs.Operation.{Operation, IsSameCall}
use Rattle.zcalls.specs.PlainTree.{plain_tree}
use Rattle.zcalls.specs.Acts.{after_log, acts_of}
use Rattle.zprotocol.specs.server.Machine.{cached_tree}
use Rattle.zprotocol.specs.server.View.{is_tail}
use Rattle.zprotocol.specs.master.View.{members}
use Rattle.zprotocol.specs.declared.world.event.Event.{Event}
use Rattle.zprotocol.specs.declared.world.history.CallEvent.TheVariants.{Answer}
use Rattle.zprotocol.specs.world.History.{IsUpdate, HasBegun}
use Rattle.zprotocol.specs.world.World.{opening_world}
use Rattle.zprotocol.specs.world.Events.{run}
use Rattle.zlinearizability.specs.legal.Prefix.{IsPrefix}
use Rattle.zlinearizability.specs.chain.Flow.{log_at}
use Rattle.zlinearizability.specs.chain.Account.{Account, account_after, opening_account}
use Rattle.zlinearizability.specs.chain.Sound.{IsSound}

-- the log world after a list of events, with its committed log and its items; what failed servers
-- held is preserved
abbrev pub account_of : ℕ → ℕ → List Event → Account
account_of servers clients events = account_after plain_tree (opening_account plain_tree servers clients) events

-- every run of the log world is sound
abbrev pub EveryRunIsSound : Type 0
EveryRunIsSound = (servers clients : ℕ) (events : List Event) → IsSound plain_tree (account_of servers clients events)

-- at most one server is a tail that answers; a failed server never is
abbrev pub OneTailAnswers : Type 0
OneTailAnswers =
    (servers clients : ℕ) (events : List Event) (s t : ℕ) → let w = run cached_tree (opening_world cached_tree servers clients) events in
    is_tail (w.servers s) ≡ true → is_tail (w.servers t) ≡ true → s ≡ t

-- the log of each member is a prefix of that of each member before it
abbrev pub LogsBeginEachOther : Type 0
LogsBeginEachOther =
    (servers clients : ℕ) (events : List Event) (x y : ℕ) (log : List Entry) → let w = (account_of servers clients events).world in
    ComesBefore x y (members w.master) → log_at w y ≡ Some log → (own : List Entry) × (log_at w x ≡ Some own) × IsPrefix log own

-- an update that was answered is committed by then, and acted with that reply
abbrev pub AnsweredUpdatesAreCommitted : Type 0
AnsweredUpdatesAreCommitted =
    (servers clients : ℕ) (events : List Event) (o : Operation) (reply : Reply) → let t = account_of servers clients events in
    IsUpdate o.call → HasBegun t.world.history o → Among (Answer o.client o.number reply) t.world.history
    → Among (o, reply) (acts_of plain_tree t.committed)

-- a query that was answered got what the tree answers after a log that was committed by then
abbrev pub AnsweredQueriesSawCommitted : Type 0
AnsweredQueriesSawCommitted =
    (servers clients : ℕ) (events : List Event) (client number : ℕ) (query : Question) (reply : Reply) →
    let t = account_of servers clients events in
    HasBegun t.world.history (record { client = client; number = number; call = Query query })
    → Among (Answer client number reply) t.world.history
    → (log : List Entry) × IsPrefix log t.committed × (plain_tree.ask (after_log plain_tree log).plain query ≡ reply)

-- what is committed remains committed
abbrev pub CommittedStays : Type 0
CommittedStays =
    (servers clients : ℕ) (events more : List Event)
    → IsPrefix (account_of servers clients events).committed (account_of servers clients (events ++ more)).committed

-- a server that is a tail holds all that any earlier tail answered from
abbrev pub TailsHoldWhatTailsHeld : Type 0
TailsHoldWhatTailsHeld =
    (servers clients : ℕ) (events more : List Event) (s t : ℕ) (old log : List Entry) →
    let v = (account_of servers clients events).world in let w = (account_of servers clients (events ++ more)).world in
    v.failed s ≡ false → is_tail (v.servers s) ≡ true → log_at v s ≡ Some old
    → w.failed t ≡ false → is_tail (w.servers t) ≡ true → log_at w t ≡ Some log → IsPrefix old log

-- a call acts once in the committed log, however often it arrives
abbrev pub UpdatesActOnce : Type 0
UpdatesActOnce =
    (servers clients : ℕ) (events : List Event)
    → NoTwo (λ (a b : Operation × Reply). IsSameCall a.0 b.0) (acts_of plain_tree (account_of servers clients events).committed)
