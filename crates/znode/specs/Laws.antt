-- What a node has heard and sent, over any inputs: its server handles the messages that came whole
-- from others, and the orders that the log has for it, each once and in order; and what is sent to
-- each process is what the server puts for it, in order.
use Rattle.std.specs.Prelude.{◌≡◌, ◌≢◌, ◌⊎◌, ℕ, ◌==◌, Bool, true, false, ◌&&◌, if◌then◌else◌, List, [], ◌∷◌, ◌++◌, Option, None, Some, Result, Ok, Err, option_to_list}
use Rattle.std.specs.List.{flat_map, list_any, AllByRecursion}
use Rattle.std.specs.Str.{bytes_eq}
use Rattle.zcodec.specs.declared.fault.Fault.{Fault}
use Rattle.zcodec.specs.Readers.{whole}
use Rattle.zprotocol.specs.declared.process.Process.{Process}
use Rattle.zprotocol.specs.declared.process.Process.TheVariants.{Master, Server, Client}
use Rattle.zprotocol.specs.server.Machine.{cached_tree}
use Rattle.zprotocol.specs.server.View.{opening_server, spare}
use Rattle.zprotocol.specs.world.Does.{AtServer}
use Rattle.zserver.specs.Server.{TreeMessage}
use Rattle.zactor.specs.Acting.{TreeStanding, TreeEffect, TreePost}
use Rattle.zmaster_log.specs.declared.entry.LogEntry.{LogEntry}
use Rattle.zmaster_log.specs.declared.entry.LogEntry.TheVariants as log
use Rattle.zmaster_log.specs.declared.entry.News.{News}
use Rattle.zmaster_log.specs.declared.entry.News.TheVariants as news
use Rattle.zmaster_log.specs.Bytes.{entry}
use Rattle.zmaster_log.specs.Log.{State, entry_played, has_live, log_played, order_for, reports_of}
use Rattle.zpeers.specs.Records.{LinkRecord, TreeTransfer, records_of}
use Rattle.zpeers.specs.Incoming.{ArrivingView, arriving_from}
use Rattle.zpeers.specs.Outgoing.{records_for, waiting_for}
use Rattle.znode.specs.pipe.Inputs.{InputView, Entry, Link, Lost, Ended}
use Rattle.znode.specs.pipe.Outputs.{OutputView, Append}
use Rattle.znode.specs.pipe.Serving.{Serves}
use Rattle.znode.specs.Node.{NodeView, IsNew}
use Rattle.znode.specs.Server.{MayDo, news_of, puts_to}
use Rattle.znode.specs.Turns.{HasLink, sent_to}
use Rattle.znode.specs.Steps.{Comes, Takes, accuses}

-- ---- the server

-- a message, with its sender
abbrev pub Heard : Type 0
Heard = Process × TreeMessage

-- A server handles messages in order, and puts these: what its table says, as servers of the world
-- do; or, where memory runs out, it drops a query, or stops.
abbrev pub ServerRuns : ℕ → TreeStanding → List Heard → List TreePost → TreeStanding → Type 0
ServerRuns own old [] posts new = (new ≡ old) × (posts ≡ [])
ServerRuns own old (h ∷ heard) posts new =
    (effect : TreeEffect) × (more : List TreePost) × MayDo own h.0 h.1 old effect
    × ServerRuns own effect.left heard more new × (posts ≡ effect.posts ++ more)

abbrev pub is_same : Process → Process → Bool
is_same Master Master = true
is_same (Server s) (Server t) = s == t
is_same (Client c) (Client d) = c == d
is_same p q = false

abbrev pub said : Process → Heard → List TreeMessage
said p h = if is_same p h.0 then h.1 ∷ [] else []

-- the messages from a process among those that were handled, in order
abbrev pub said_by : Process → List Heard → List TreeMessage
said_by p heard = flat_map (said p) heard

-- ---- the log

-- these are the entries among the inputs, in order
abbrev pub LogOf : List InputView → List LogEntry → Type 0
LogOf [] entries = entries ≡ []
LogOf (Entry index bytes ∷ inputs) entries =
    (e : LogEntry) × (more : List LogEntry) × (whole entry bytes ≡ Ok e) × LogOf inputs more × (entries ≡ e ∷ more)
LogOf (other ∷ inputs) entries = LogOf inputs entries

-- what the entries of a log make
abbrev pub made_by : List LogEntry → State
made_by entries = (log_played {T = TreeTransfer} None entries).0

-- the orders that entries have for a server, in order, each once
abbrev pub orders_in : ℕ → State → List LogEntry → List TreeMessage
orders_in s state [] = []
orders_in s state (e ∷ entries) =
    let did = entry_played {T = TreeTransfer} state e in
    option_to_list (order_for (Some s) did.1) ++ orders_in s did.0 entries

-- ---- links

-- the message that is whole by a record of this link, if it is of this process
abbrev pub BringsOf : ℕ → Process → Bool → LinkRecord → Option ArrivingView → List TreeMessage → Option ArrivingView → Type 0
BringsOf own p true r old messages new =
    (came : Option TreeMessage) × Comes own p r old new came × (messages ≡ option_to_list came)
BringsOf own p false r old messages new = (new ≡ old) × (messages ≡ [])

-- what an input brings of a process, and what is being loaded of it before and after
abbrev pub Brings : ℕ → Process → InputView → Option ArrivingView → List TreeMessage → Option ArrivingView → Type 0
Brings own p (Link q r) old messages new = BringsOf own p (is_same p q) r old messages new
Brings own p (Ended q) old messages new = (new ≡ (if is_same p q then None else old)) × (messages ≡ [])
Brings own p other old messages new = (new ≡ old) × (messages ≡ [])

-- The messages of a process that come whole, in order, by the records of its link. What is being
-- loaded when its connection ends is dropped, and so is a record of a client that is refused.
abbrev pub Came : ℕ → Process → List InputView → Option ArrivingView → List TreeMessage → Option ArrivingView → Type 0
Came own p [] old messages new = (new ≡ old) × (messages ≡ [])
Came own p (it ∷ inputs) old messages new =
    (first : List TreeMessage) × (middle : Option ArrivingView) × (more : List TreeMessage)
    × Brings own p it old first middle × Came own p inputs middle more new × (messages ≡ first ++ more)

-- the link to or from a process is lost by an input, and by none of them
abbrev pub is_loss : Process → InputView → Bool
is_loss p (Lost s) = is_same p (Server s)
is_loss p other = false

abbrev pub NeverLost : Process → List InputView → Type 0
NeverLost p inputs = AllByRecursion (λ it. is_loss p it ≡ false) inputs

-- ---- reports

-- an output asks for these bytes to be the entry at this index
abbrev pub asks_for : ℕ → List ℕ → OutputView → Bool
asks_for index bytes (Append i asked) = i == index && bytes_eq asked bytes
asks_for index bytes other = false

-- what the entries make once this was read
abbrev pub after_read : State → Result LogEntry Fault → State
after_read state (Ok e) = (entry_played {T = TreeTransfer} state e).0
after_read state (Err fault) = state

abbrev pub after_input : State → InputView → State
after_input state (Entry index bytes) = after_read state (whole entry bytes)
after_input state other = state

-- the bytes of an entry, and what the entries before it make
abbrev pub OwnEntry : Type 0
OwnEntry = State × List ℕ

-- an input, if it is an entry that the node asked for
abbrev pub own_entry : List OutputView → State → InputView → List OwnEntry
own_entry outputs state (Entry index bytes) = if list_any (asks_for index bytes) outputs then (state, bytes) ∷ [] else []
own_entry outputs state other = []

-- the entries of the log that the node asked for, in order
abbrev pub own_entries : List OutputView → State → List InputView → List OwnEntry
own_entries outputs state [] = []
own_entries outputs state (it ∷ inputs) = own_entry outputs state it ++ own_entries outputs (after_input state it) inputs

-- a report by this server, under the number of those that are in the log
abbrev pub report_of : ℕ → State → News → LogEntry
report_of own state n = log.Reported (record { author = own; earlier = reports_of state own; news = n })

-- these entries are reports by this server, of these news
abbrev pub AreReports : ℕ → List OwnEntry → List News → Type 0
AreReports own [] reported = reported ≡ []
AreReports own (e ∷ entries) reported =
    (n : News) × (more : List News) × (e.1 ≡ entry.spell (report_of own e.0 n))
    × AreReports own entries more × (reported ≡ n ∷ more)

-- a report, but for those that a server is gone
abbrev pub lasting : News → List News
lasting (news.Have epoch last) = news.Have epoch last ∷ []
lasting (news.Joined epoch) = news.Joined epoch ∷ []
lasting (news.Gone s) = []

-- by the log, the server isn't live after one of these entries
abbrev pub WasOut : ℕ → State → List LogEntry → Type 0
WasOut s state [] = ⊥
WasOut s state (e ∷ entries) =
    let next = (entry_played {T = TreeTransfer} state e).0 in
    (has_live next s ≡ false) ⊎ WasOut s next entries

-- These entries are reports by a server. With those that wait, they are what it has put for the
-- master, in order and once, but for reports that a server is gone: its own is there, unless the
-- log said before that it isn't live; and one of another is there only if their link was lost.
pub record HasReported (own : ℕ) (mine : List OwnEntry) (inputs : List InputView) (posts : List TreePost)
    (state : State) (since : List LogEntry) (waiting : List News) : Type 0 where
  pub reported : List News
  pub are : AreReports own mine reported
  pub in_order : flat_map lasting (reported ++ waiting) ≡ flat_map lasting (news_of own posts)
  pub failed : accuses own (news_of own posts) ≡ true →
      (accuses own (reported ++ waiting) ≡ true) ⊎ WasOut own state since
  pub accused : (s : ℕ) → s ≢ own → NeverLost (Server s) inputs → accuses s (reported ++ waiting) ≡ false

-- ---- a node

-- A node without a number: its server has handled nothing and put nothing, nothing was sent, and no
-- entry that it asked for is in the log.
pub record HasNoServer (inputs : List InputView) (outputs : List OutputView) (v : NodeView) : Type 0 where
  pub none_mine : own_entries outputs None inputs ≡ []
  pub none_waits : v.seat.reports ≡ []
  pub standing : v.seat.standing ≡ AtServer spare
  pub waiting : (p : Process) → waiting_for v.seat.outgoing p ≡ []
  pub arriving : (p : Process) → arriving_from v.incoming p ≡ None
  pub came : (own : ℕ) (p : Process) → Came own p inputs None [] None
  pub sent : (p : Process) → sent_to p outputs ≡ []

-- the number of the server that begins by an entry, and the server: the only one of a chain, or one
-- without state
abbrev pub BeginsBy : LogEntry → ℕ → TreeStanding → Type 0
BeginsBy (log.Opening names) own first = (own ≡ 1) × (first ≡ AtServer (opening_server cached_tree 1 1))
BeginsBy (log.Join s name) own first = (own ≡ s) × (first ≡ AtServer spare)
BeginsBy other own first = ⊥

-- What a server has done since it began, after which the log has these entries. It has handled the
-- orders that they have for it, and the messages of the other processes that came whole. What was
-- sent to a process, and what waits for it, is what the server has put for it, unless their link
-- was lost. And these entries are what it has reported.
pub record HasHandled (own : ℕ) (first : TreeStanding) (state : State) (since : List LogEntry) (mine : List OwnEntry)
    (inputs : List InputView) (outputs : List OutputView) (v : NodeView) : Type 0 where
  pub heard : List Heard
  pub posts : List TreePost
  pub ran : ServerRuns own first heard posts v.seat.standing
  pub orders : said_by Master heard ≡ orders_in own state since
  pub came : (p : Process) → p ≢ Master → Came own p inputs None (said_by p heard) (arriving_from v.incoming p)
  pub sent : (p : Process) → HasLink p → NeverLost p inputs →
      sent_to p outputs ++ records_for v.seat.outgoing (Server own) p ≡ flat_map (records_of (Server own) p) (puts_to p posts)
  pub reports : HasReported own mine inputs posts state since v.seat.reports

-- A node whose server has this number. It began by the first entry that the node asked for; each
-- later one is a report.
pub record HasServed (own : ℕ) (inputs : List InputView) (outputs : List OutputView) (entries : List LogEntry) (v : NodeView) : Type 0 where
  pub bytes : List ℕ
  pub begins : LogEntry
  pub read : whole entry bytes ≡ Ok begins
  pub before : List LogEntry
  pub since : List LogEntry
  pub split : entries ≡ before ++ begins ∷ since
  pub mine : List OwnEntry
  pub asked : own_entries outputs None inputs ≡ (made_by before, bytes) ∷ mine
  pub first : TreeStanding
  pub began : BeginsBy begins own first
  pub handled : HasHandled own first (made_by before) (begins ∷ since) mine inputs outputs v

-- by whether it has a number
abbrev pub Served : Option ℕ → List InputView → List OutputView → List LogEntry → NodeView → Type 0
Served None inputs outputs entries v = HasNoServer inputs outputs v
Served (Some s) inputs outputs entries v = HasServed s inputs outputs entries v

-- the node after these inputs, with these outputs
pub record IsAccounted (inputs : List InputView) (outputs : List OutputView) (v : NodeView) : Type 0 where
  pub entries : List LogEntry
  pub log : LogOf inputs entries
  pub state : v.replica.state ≡ made_by entries
  pub served : Served v.replica.own inputs outputs entries v

-- it is so after any inputs that a new node takes
abbrev pub NodesAreAccounted : Type 0
NodesAreAccounted =
    (name : List ℕ) (opens : Bool) (inputs : List InputView) (outputs : List OutputView) (v w : NodeView) →
    IsNew name opens v → Serves Takes inputs outputs v w → IsAccounted inputs outputs w
