-- What an input adds to what a node has heard, sent and reported.
use Rattle.std.proofs.Common.{◌≡◌, ◌≢◌, ℕ, false, List, [], ◌∷◌, ◌++◌, Option, None, Some, refl, sym, ap, subst, ◌∙◌, append_assoc}
use Rattle.std.specs.List.{flat_map}
use Rattle.std.proofs.lemmas.List.{append-nil}
use Rattle.std.proofs.lemmas.List.Concat.{flat_map-append}
use Rattle.zprotocol.specs.declared.process.Process.{Process}
use Rattle.zprotocol.specs.declared.process.Process.TheVariants.{Master, Server}
use Rattle.zserver.specs.Server.{TreeMessage}
use Rattle.zactor.specs.Acting.{TreeStanding, TreePost}
use Rattle.zmaster_log.specs.declared.entry.LogEntry.{LogEntry}
use Rattle.zmaster_log.specs.Log.{State, log_played}
use Rattle.zpeers.specs.Records.{LinkRecord, TreeTransfer, records_of}
use Rattle.zpeers.specs.Incoming.{ArrivingView, arriving_from}
use Rattle.zpeers.specs.Outgoing.{records_for, waiting_for}
use Rattle.znode.specs.pipe.Inputs.{InputView, Entry, CaughtUp, Link, Lost, Turn, Ended}
use Rattle.znode.specs.pipe.Outputs.{OutputView}
use Rattle.znode.specs.Node.{NodeView}
use Rattle.znode.specs.Server.{puts_to}
use Rattle.znode.specs.Turns.{HasLink, sent_to, asking}
use Rattle.znode.specs.Laws.{Heard, ServerRuns, said_by, made_by, orders_in, Brings, Came, is_loss, HasHandled, HasNoServer, HasServed, Served, IsAccounted, OwnEntry, own_entries, own_entry}
use Rattle.znode.proofs.node_lemmas.Runs.{runs_both, said-both}
use Rattle.znode.proofs.node_lemmas.Logs.{EntryOf, log_more, played-both, orders-both}
use Rattle.znode.proofs.node_lemmas.OwnEntries.{AskNone, IsAsking, own_more}
use Rattle.znode.proofs.node_lemmas.ReportOrder.{AddsReports, reported_more}
use Rattle.znode.proofs.node_lemmas.Links.{came_more, lost_first, lost_last, sent-both}

-- What an input adds, at a node with a server.
pub record Adds (own : ℕ) (it : InputView) (first : List OutputView) (es : List LogEntry) (v w : NodeView) : Type 0 where
  pub heard : List Heard
  pub posts : List TreePost
  pub ran : ServerRuns own v.seat.standing heard posts w.seat.standing
  pub orders : said_by Master heard ≡ orders_in own v.replica.state es
  pub brings : (p : Process) → p ≢ Master → Brings own p it (arriving_from v.incoming p) (said_by p heard) (arriving_from w.incoming p)
  pub sent : (p : Process) → HasLink p → is_loss p it ≡ false →
      sent_to p first ++ records_for w.seat.outgoing (Server own) p
      ≡ records_for v.seat.outgoing (Server own) p ++ flat_map (records_of (Server own) p) (puts_to p posts)
  pub reports : AddsReports own it es posts v.replica.state v.seat.reports w.seat.reports

puts-both : (p : Process) (a b : List TreePost) → puts_to p (a ++ b) ≡ puts_to p a ++ puts_to p b
puts-both p a b = flat_map-append _ a b

pub handled_more : (own : ℕ) (first : TreeStanding) (state : State) (since es : List LogEntry) (mine : List OwnEntry) (inputs : List InputView)
    (outputs more : List OutputView) (it : InputView) (v w : NodeView)
    → HasHandled own first state since mine inputs outputs v → v.replica.state ≡ (log_played {T = TreeTransfer} state since).0
    → Adds own it more es v w → HasHandled own first state (since ++ es) mine (inputs ++ it ∷ []) (outputs ++ more) w
handled_more own first state since es mine inputs outputs more it v w handled now adds = record {
  heard = handled.heard ++ adds.heard;
  posts = handled.posts ++ adds.posts;
  ran = runs_both own first handled.heard adds.heard handled.posts adds.posts v.seat.standing w.seat.standing handled.ran adds.ran;
  orders =
      said-both Master handled.heard adds.heard
      ∙ ap (λ (l : List TreeMessage). l ++ said_by Master adds.heard) handled.orders
      ∙ ap (λ (l : List TreeMessage). orders_in own state since ++ l) (adds.orders ∙ ap (λ (s : State). orders_in own s es) now)
      ∙ sym (orders-both own state since es);
  came = λ p other.
      subst (λ (l : List TreeMessage). Came own p (inputs ++ it ∷ []) None l (arriving_from w.incoming p))
      (sym (said-both p handled.heard adds.heard))
      (came_more own p inputs it None (arriving_from v.incoming p) (arriving_from w.incoming p)
      (said_by p handled.heard) (said_by p adds.heard) (handled.came p other) (adds.brings p other));
  sent = λ p link never.
      let earlier = handled.sent p link (lost_first p inputs it never) in
      let later = adds.sent p link (lost_last p inputs it never) in
      ap (λ (l : List LinkRecord). l ++ records_for w.seat.outgoing (Server own) p) (sent-both p outputs more)
      ∙ append_assoc (sent_to p outputs) (sent_to p more) (records_for w.seat.outgoing (Server own) p)
      ∙ ap (λ (l : List LinkRecord). sent_to p outputs ++ l) later
      ∙ sym (append_assoc (sent_to p outputs) (records_for v.seat.outgoing (Server own) p)
      (flat_map (records_of (Server own) p) (puts_to p adds.posts)))
      ∙ ap (λ (l : List LinkRecord). l ++ flat_map (records_of (Server own) p) (puts_to p adds.posts)) earlier
      ∙ sym (flat_map-append (records_of (Server own) p) (puts_to p handled.posts) (puts_to p adds.posts))
      ∙ ap (flat_map (records_of (Server own) p)) (sym (puts-both p handled.posts adds.posts));
  reports = reported_more own mine inputs it handled.posts adds.posts state since es v.seat.reports w.seat.reports handled.reports
      (subst (λ (s : State). AddsReports own it es adds.posts s v.seat.reports w.seat.reports) now adds.reports);
}

-- what the entries make that a server has seen
pub made_since : (own : ℕ) (inputs : List InputView) (outputs : List OutputView) (entries : List LogEntry) (v : NodeView)
    (served : HasServed own inputs outputs entries v) → v.replica.state ≡ made_by entries
    → v.replica.state ≡ (log_played {T = TreeTransfer} (made_by served.before) (served.begins ∷ served.since)).0
made_since own inputs outputs entries v served state =
    state ∙ ap made_by served.split ∙ played-both None served.before (served.begins ∷ served.since)

-- a server that goes on
pub served_on : (own : ℕ) (inputs : List InputView) (outputs first : List OutputView) (entries es : List LogEntry) (it : InputView) (v w : NodeView)
    (more : List OwnEntry) (served : HasServed own inputs outputs entries v)
    → own_entries (outputs ++ first) None (inputs ++ it ∷ []) ≡ own_entries outputs None inputs ++ more
    → HasHandled own served.first (made_by served.before) ((served.begins ∷ served.since) ++ es) (served.mine ++ more)
    (inputs ++ it ∷ []) (outputs ++ first) w
    → HasServed own (inputs ++ it ∷ []) (outputs ++ first) (entries ++ es) w
served_on own inputs outputs first entries es it v w more served all handled = record {
  bytes = served.bytes;
  begins = served.begins;
  read = served.read;
  before = served.before;
  since = served.since ++ es;
  split = ap (λ (l : List LogEntry). l ++ es) served.split ∙ append_assoc served.before (served.begins ∷ served.since) es;
  mine = served.mine ++ more;
  asked = all ∙ ap (λ (l : List OwnEntry). l ++ more) served.asked;
  first = served.first;
  began = served.began;
  handled = handled;
}

-- what an input adds, at a node without a server, which gets none by it
pub record AddsNothing (it : InputView) (first : List OutputView) (v w : NodeView) : Type 0 where
  pub standing : w.seat.standing ≡ v.seat.standing
  pub waiting : (p : Process) → waiting_for v.seat.outgoing p ≡ [] → waiting_for w.seat.outgoing p ≡ []
  pub arriving : (p : Process) → arriving_from v.incoming p ≡ None → arriving_from w.incoming p ≡ None
  pub brings : (own : ℕ) (p : Process) → Brings own p it None [] None
  pub sent : (p : Process) → sent_to p first ≡ []
  pub reports : v.seat.reports ≡ [] → w.seat.reports ≡ []

pub none_more : (inputs : List InputView) (outputs first : List OutputView) (it : InputView) (v w : NodeView)
    → HasNoServer inputs outputs v → own_entries (outputs ++ first) None (inputs ++ it ∷ []) ≡ own_entries outputs None inputs
    → AddsNothing it first v w → HasNoServer (inputs ++ it ∷ []) (outputs ++ first) w
none_more inputs outputs first it v w none same adds = record {
  none_mine = same ∙ none.none_mine;
  none_waits = adds.reports none.none_waits;
  standing = adds.standing ∙ none.standing;
  waiting = λ p. adds.waiting p (none.waiting p);
  arriving = λ p. adds.arriving p (none.arriving p);
  came = λ own p. came_more own p inputs it None None None [] [] (none.came own p) (adds.brings own p);
  sent = λ p. sent-both p outputs first ∙ ap (λ (l : List LinkRecord). l ++ sent_to p first) (none.sent p) ∙ adds.sent p;
}

-- ---- inputs by which a node gets no number

-- the input is no entry
abbrev IsNoEntry : InputView → Type 0
IsNoEntry it = EntryOf it []

-- the same by whether it has a server
abbrev pub Increment : Option ℕ → InputView → List OutputView → NodeView → NodeView → Type 0
Increment None it first v w = AddsNothing it first v w
Increment (Some own) it first v w = Adds own it first [] v w

still : (own : Option ℕ) (inputs : List InputView) (outputs first : List OutputView) (entries : List LogEntry) (it : InputView) (v w : NodeView)
    → Served own inputs outputs entries v → v.replica.state ≡ made_by entries
    → own_entries (outputs ++ first) None (inputs ++ it ∷ []) ≡ own_entries outputs None inputs → Increment own it first v w
    → Served own (inputs ++ it ∷ []) (outputs ++ first) (entries ++ []) w
still None inputs outputs first entries it v w none state same adds = none_more inputs outputs first it v w none same adds
still (Some own) inputs outputs first entries it v w served state same adds =
    served_on own inputs outputs first entries [] it v w [] served (same ∙ sym (append-nil (own_entries outputs None inputs)))
    (subst (λ (l : List OwnEntry). HasHandled own served.first (made_by served.before) ((served.begins ∷ served.since) ++ []) l
    (inputs ++ it ∷ []) (outputs ++ first) w) (sym (append-nil served.mine))
    (handled_more own served.first (made_by served.before) (served.begins ∷ served.since) [] served.mine inputs outputs first it v w
    served.handled (made_since own inputs outputs entries v served state) adds))

-- entries that a node asked for are the same after an input that is none
own_still : (inputs : List InputView) (outputs first : List OutputView) (it : InputView) (v : NodeView) → IsAsking inputs outputs v
    → IsNoEntry it → AskNone v.replica.played first → own_entries (outputs ++ first) None (inputs ++ it ∷ []) ≡ own_entries outputs None inputs
own_still inputs outputs first it v asking other none =
    own_more inputs outputs first it v asking none
    ∙ ap (λ (l : List OwnEntry). own_entries outputs None inputs ++ l) (no_own it other)
    ∙ append-nil (own_entries outputs None inputs)
  where
    no_own : (it : InputView) → IsNoEntry it → own_entry (outputs ++ first) v.replica.state it ≡ []
    no_own (Entry index bytes) other = absurd (let no_way = other.2 in cc)
    no_own CaughtUp other = refl
    no_own (Link from r) other = refl
    no_own (Lost s) other = refl
    no_own Turn other = refl
    no_own (Ended from) other = refl

pub account_still : (inputs : List InputView) (outputs first : List OutputView) (it : InputView) (v w : NodeView)
    → IsAccounted inputs outputs v → IsAsking inputs outputs v → IsNoEntry it → AskNone v.replica.played first → w.replica ≡ v.replica
    → Increment v.replica.own it first v w → IsAccounted (inputs ++ it ∷ []) (outputs ++ first) w
account_still inputs outputs first it v w is asking other none same adds = record {
  entries = is.entries ++ [];
  log = log_more inputs is.entries it [] is.log other;
  state = ap (λ r. r.state) same ∙ is.state ∙ ap made_by (sym (append-nil is.entries));
  served = subst (λ (own : Option ℕ). Served own (inputs ++ it ∷ []) (outputs ++ first) (is.entries ++ []) w)
      (ap (λ r. r.own) (sym same))
      (still v.replica.own inputs outputs first is.entries it v w is.served is.state
      (own_still inputs outputs first it v asking other none) adds);
}

-- nothing came and nothing was sent
pub quiet : (own : Option ℕ) (it : InputView) (first : List OutputView) (v w : NodeView)
    → w.seat.standing ≡ v.seat.standing → w.incoming ≡ v.incoming
    → ((n : ℕ) (p : Process) (a : Option ArrivingView) → Brings n p it a [] a)
    → ((p : Process) → waiting_for v.seat.outgoing p ≡ [] → waiting_for w.seat.outgoing p ≡ [])
    → (own ≡ None → v.seat.reports ≡ [] → w.seat.reports ≡ [])
    → ((n : ℕ) → own ≡ Some n → AddsReports n it [] [] v.replica.state v.seat.reports w.seat.reports)
    → ((p : Process) → own ≡ None → sent_to p first ≡ [])
    → ((n : ℕ) (p : Process) → own ≡ Some n → HasLink p → is_loss p it ≡ false
    → sent_to p first ++ records_for w.seat.outgoing (Server n) p ≡ records_for v.seat.outgoing (Server n) p)
    → Increment own it first v w
quiet None it first v w standing incoming brings waiting unreported reports sent records = record {
  standing = standing;
  waiting = waiting;
  arriving = λ p e. ap (λ i. arriving_from i p) incoming ∙ e;
  brings = λ own p. brings own p None;
  sent = λ p. sent p refl;
  reports = unreported refl;
}
quiet (Some own) it first v w standing incoming brings waiting unreported reports sent records = record {
  heard = [];
  posts = [];
  ran = (standing, refl);
  orders = refl;
  brings = λ p other.
      subst (λ i. Brings own p it (arriving_from v.incoming p) [] (arriving_from i p)) (sym incoming)
      (brings own p (arriving_from v.incoming p));
  sent = λ p link not_lost. records own p refl link not_lost ∙ sym (append-nil (records_for v.seat.outgoing (Server own) p));
  reports = reports own refl;
}

-- nothing is asked for by an input that isn't a turn
pub asks_none : (played : ℕ) → AskNone played []
asks_none played index bytes small = refl
