-- A node is accounted for after each input.
use Rattle.std.proofs.Common.{◌≡◌, ◌≢◌, inl, inr, ℕ, Bool, true, false, not, ◌&&◌, cond, is_some, List, [], ◌∷◌, ◌++◌, drop, Option, None, Some, Ok, refl, sym, ap, subst, ◌∙◌, append_assoc}
use Rattle.std.specs.Prelude.{option_to_list}
use Rattle.std.specs.List.{flat_map}
use Rattle.std.proofs.lemmas.List.{append-nil}
use Rattle.zcalls.proofs.Among.{test}
use Rattle.zcodec.specs.Readers.{whole}
use Rattle.zprotocol.specs.declared.process.Process.{Process}
use Rattle.zprotocol.specs.declared.process.Process.TheVariants.{Master, Server, Client}
use Rattle.zprotocol.specs.server.View.{spare}
use Rattle.zprotocol.specs.world.Does.{AtServer}
use Rattle.zserver.specs.Server.{TreeMessage}
use Rattle.zactor.specs.Acting.{TreeStanding}
use Rattle.zmaster_log.specs.declared.entry.LogEntry.{LogEntry}
use Rattle.zmaster_log.specs.declared.entry.LogEntry.TheVariants as log
use Rattle.zmaster_log.specs.declared.entry.News.{News}
use Rattle.zmaster_log.specs.declared.entry.News.TheVariants as news
use Rattle.zmaster_log.specs.Bytes.{entry}
use Rattle.zmaster_log.specs.Log.{State, entry_played, has_live, order_for}
use Rattle.zpeers.specs.Records.{LinkRecord, TreeTransfer}
use Rattle.zpeers.specs.Incoming.{ArrivingView, arriving_from}
use Rattle.zpeers.specs.Outgoing.{records_for, waiting_for, left_of}
use Rattle.znode.specs.declared.status.NodeStatus.{NodeStatus}
use Rattle.znode.specs.pipe.Inputs.{InputView, Entry, CaughtUp, Link, Lost, Turn, Ended}
use Rattle.znode.specs.pipe.Outputs.{OutputView, End}
use Rattle.znode.specs.pipe.Serving.{Serves}
use Rattle.znode.specs.Node.{NodeView, SeatView, IsNew, has_ended, status_of}
use Rattle.znode.specs.Server.{news_of}
use Rattle.znode.specs.Entries.{Plays, own_by, seat_by, own_at, seat_at, has_asked, without_idle, HearsOrder}
use Rattle.znode.specs.Turns.{Answers, Sends, sent_to, known_output, status_output, is_known, asked_output, asking}
use Rattle.znode.specs.Steps.{Takes, Receives, Forgets, Loses, accuses, accusing, may_accuse}
use Rattle.znode.specs.Laws.{ServerRuns, is_same, said_by, made_by, Brings, Came, AreReports, BeginsBy, HasHandled, HasNoServer, HasServed, Served, IsAccounted, NodesAreAccounted, OwnEntry, own_entries}
use Rattle.znode.proofs.node_lemmas.Runs.{said-all, all_from, HasHeard, hears_any}
use Rattle.znode.proofs.node_lemmas.Logs.{log_more, played-both}
use Rattle.znode.proofs.node_lemmas.FirstEntries.{IsFirst, first_stays}
use Rattle.znode.proofs.node_lemmas.OwnEntries.{IsAsking, IsWish, answer_asks_none, asked_is, asking_entry, asking_new, asking_same, asking_turn, own_next}
use Rattle.znode.proofs.node_lemmas.ReportOrder.{AddsReports, lost_reports, put_reports, reported_entered, reported_first, same_reports, tidied_reports}
use Rattle.znode.proofs.node_lemmas.Links.{same_is, other_is, sent-both, records-put}
use Rattle.znode.proofs.node_lemmas.Adding.{Adds, handled_more, made_since, served_on, none_more, Increment, account_still, quiet, asks_none}

-- ---- each input

step_caught_up : (inputs : List InputView) (outputs : List OutputView) (v : NodeView)
    → IsAccounted inputs outputs v → IsAsking inputs outputs v
    → IsAccounted (inputs ++ CaughtUp ∷ []) (outputs ++ []) (record v { is_at_end = true })
step_caught_up inputs outputs v is asking =
    let w : NodeView = record v { is_at_end = true } in
    account_still inputs outputs [] CaughtUp v w is asking refl (asks_none v.replica.played) refl
    (quiet v.replica.own CaughtUp [] v w refl refl (λ n p a. (refl, refl)) (λ p e. e) (λ none e. e)
    (λ n e. same_reports n CaughtUp [] v.replica.state v.seat.reports v.seat.reports refl) (λ p e. refl) (λ n p e link kept. refl))

-- what waits for a process that isn't that one
others_wait : (p : Process) (s : ℕ) → is_same p (Server s) ≡ false → p ≢ Server s
others_wait p s e = other_is p (Server s) e

step_lost : (inputs : List InputView) (outputs : List OutputView) (v w : NodeView) (s : ℕ)
    → IsAccounted inputs outputs v → IsAsking inputs outputs v → Loses v s w → IsAccounted (inputs ++ Lost s ∷ []) (outputs ++ []) w
step_lost inputs outputs v w s is asking loses =
    account_still inputs outputs [] (Lost s) v w is asking refl (asks_none v.replica.played) (ap (λ x. x.replica) loses.rest)
    (quiet v.replica.own (Lost s) [] v w (ap (λ x. x.seat.standing) loses.rest) (ap (λ x. x.incoming) loses.rest)
    (λ n p a. (refl, refl))
    (λ p e. elim (test (is_same p (Server s))) [
      | inl same ↦ ap (waiting_for w.seat.outgoing) (same_is p (Server s) same) ∙ loses.none
      | inr other ↦ loses.others p (others_wait p s other) ∙ e
    ])
    (λ none e. ap (λ x. x.seat.reports) loses.rest ∙ accuses_nothing none ∙ e)
    (λ n e. subst (λ (l : List News). AddsReports n (Lost s) [] [] v.replica.state v.seat.reports l)
    (sym (ap (λ x. x.seat.reports) loses.rest)) (lost_reports n s v.replica.state v))
    (λ p e. refl)
    (λ n p e link kept. ap (flat_map (left_of (Server n) p)) (loses.others p (others_wait p s kept))))
  where
    accuses_nothing : v.replica.own ≡ None → accusing v s ≡ v.seat.reports
    accuses_nothing none =
        ap (λ (own : Option ℕ). cond (is_some own && not (has_ended v) && v.seat.has_state && has_live v.replica.state s
        && not (accuses s v.seat.reports)) (v.seat.reports ++ news.Gone s ∷ []) v.seat.reports) none

step_ended : (inputs : List InputView) (outputs : List OutputView) (v w : NodeView) (from : Process)
    → IsAccounted inputs outputs v → IsAsking inputs outputs v → Forgets v from w → IsAccounted (inputs ++ Ended from ∷ []) (outputs ++ []) w
step_ended inputs outputs v w from is asking forgets =
    account_still inputs outputs [] (Ended from) v w is asking refl (asks_none v.replica.played) (ap (λ x. x.replica) forgets.rest)
    (forgotten v.replica.own)
  where
    arrives : (p : Process) → arriving_from w.incoming p ≡ cond (is_same p from) None (arriving_from v.incoming p)
    arrives p = elim (test (is_same p from)) [
      | inl same ↦ ap (arriving_from w.incoming) (same_is p from same) ∙ forgets.none
          ∙ ap (λ (b : Bool). cond b None (arriving_from v.incoming p)) (sym same)
      | inr other ↦ forgets.others p (other_is p from other)
          ∙ ap (λ (b : Bool). cond b None (arriving_from v.incoming p)) (sym other)
    ]

    none_is : (b : Bool) (a : Option ArrivingView) → a ≡ None → cond b None a ≡ None
    none_is true a e = refl
    none_is false a e = e

    forgotten : (own : Option ℕ) → Increment own (Ended from) [] v w
    forgotten None = record {
      standing = ap (λ x. x.seat.standing) forgets.rest;
      waiting = λ p e. ap (λ x. waiting_for x.seat.outgoing p) forgets.rest ∙ e;
      arriving = λ p e. arrives p ∙ none_is (is_same p from) (arriving_from v.incoming p) e;
      brings = λ own p. (sym (none_is (is_same p from) None refl), refl);
      sent = λ p. refl;
      reports = λ e. ap (λ x. x.seat.reports) forgets.rest ∙ e;
    }
    forgotten (Some own) = record {
      heard = [];
      posts = [];
      ran = (ap (λ x. x.seat.standing) forgets.rest, refl);
      orders = refl;
      brings = λ p other. (arrives p, refl);
      sent = λ p link kept. ap (λ x. records_for x.seat.outgoing (Server own) p) forgets.rest
          ∙ sym (append-nil (records_for v.seat.outgoing (Server own) p));
      reports = same_reports own (Ended from) [] v.replica.state v.seat.reports w.seat.reports (ap (λ x. x.seat.reports) forgets.rest);
    }

-- ---- a turn

none_of_either : (p : Process) (known : Bool) (s : NodeStatus) → sent_to p (cond known [] (status_output s ∷ [])) ≡ []
none_of_either p true s = refl
none_of_either p false s = refl

known_none : (p : Process) (v : NodeView) → sent_to p (known_output v.known (status_of v)) ≡ []
known_none p v = none_of_either p (is_known v.known (status_of v)) (status_of v)

asked_none : (p : Process) (played : ℕ) (o : Option LogEntry) → sent_to p (asked_output played o) ≡ []
asked_none p played None = refl
asked_none p played (Some e) = refl

-- among the outputs of an answer only the records are sent
answer_sent : (p : Process) (v w : NodeView) (outputs : List OutputView) (answers : Answers v outputs w)
    → sent_to p outputs ≡ sent_to p answers.records
answer_sent p v w outputs answers =
    let a = known_output v.known (status_of v) in
    let b = asked_output v.replica.played (asking v) in
    let c = answers.records in
    let d : List OutputView = End answers.more ∷ [] in
    let none : sent_to p (a ++ b) ≡ [] = sent-both p a b
    ∙ ap (λ (l : List LinkRecord). l ++ sent_to p b) (known_none p v) ∙ asked_none p v.replica.played (asking v) in
    ap (sent_to p) answers.all
    ∙ sent-both p (a ++ b ++ c) d
    ∙ append-nil (sent_to p (a ++ b ++ c))
    ∙ sent-both p (a ++ b) c
    ∙ ap (λ (l : List LinkRecord). l ++ sent_to p c) none

step_turn : (inputs : List InputView) (outputs first : List OutputView) (v w : NodeView)
    → IsAccounted inputs outputs v → IsAsking inputs outputs v → Answers v first w → IsAccounted (inputs ++ Turn ∷ []) (outputs ++ first) w
step_turn inputs outputs first v w is asking answers =
    account_still inputs outputs first Turn v w is asking refl (answer_asks_none v w first answers) (ap (λ x. x.replica) answers.rest)
    (turned v.replica.own answers.sends)
  where
    turned : (own : Option ℕ) → Sends own answers.records v.seat.outgoing w.seat.outgoing → Increment own Turn first v w
    turned None sends = record {
      standing = ap (λ x. x.seat.standing) answers.rest;
      waiting = λ p e. ap (λ o. waiting_for o p) sends.1 ∙ e;
      arriving = λ p e. ap (λ x. arriving_from x.incoming p) answers.rest ∙ e;
      brings = λ own p. (refl, refl);
      sent = λ p. answer_sent p v w first answers ∙ ap (sent_to p) sends.0;
      reports = λ e. ap (λ x. x.seat.reports) answers.rest ∙ e;
    }
    turned (Some own) sends = record {
      heard = [];
      posts = [];
      ran = (ap (λ x. x.seat.standing) answers.rest, refl);
      orders = refl;
      brings = λ p other. (ap (λ x. arriving_from x.incoming p) answers.rest, refl);
      sent = λ p link kept.
          ap (λ (l : List LinkRecord). l ++ records_for w.seat.outgoing (Server own) p) (answer_sent p v w first answers)
          ∙ sym (sends.1 p link).first
          ∙ sym (append-nil (records_for v.seat.outgoing (Server own) p));
      reports = same_reports own Turn [] v.replica.state v.seat.reports w.seat.reports (ap (λ x. x.seat.reports) answers.rest);
    }

-- ---- a record of a link

-- nothing is said by another
said_other : (p from : Process) (o : Option TreeMessage) → is_same p from ≡ false → said_by p (all_from from (option_to_list o)) ≡ []
said_other p from o other = said-all p from o ∙ ap (λ (b : Bool). cond b (option_to_list o) []) other

said_same : (p from : Process) (o : Option TreeMessage) → is_same p from ≡ true → said_by p (all_from from (option_to_list o)) ≡ option_to_list o
said_same p from o same = said-all p from o ∙ ap (λ (b : Bool). cond b (option_to_list o) []) same

step_link : (inputs : List InputView) (outputs : List OutputView) (v w : NodeView) (from : Process) (r : LinkRecord)
    → IsAccounted inputs outputs v → IsAsking inputs outputs v → Receives v from r w
    → IsAccounted (inputs ++ Link from r ∷ []) (outputs ++ []) w
step_link inputs outputs v w from r is asking receives =
    account_still inputs outputs [] (Link from r) v w is asking refl (asks_none v.replica.played) (ap (λ x. x.replica) receives.rest)
    (subst (λ (own : Option ℕ). Increment own (Link from r) [] v w) (sym receives.is_own) received)
  where
    has : HasHeard receives.own (all_from from (option_to_list receives.came)) v.seat w.seat
    has = hears_any receives.own from receives.came v.seat w.seat receives.heard

    master_said : is_same Master from ≡ true → from ≡ Master
    master_said e = sym (same_is Master from e)

    brought : (p : Process) → (b : Bool) → is_same p from ≡ b
        → Brings receives.own p (Link from r) (arriving_from v.incoming p) (said_by p (all_from from (option_to_list receives.came))) (arriving_from w.incoming p)
    brought p true same =
        let is_it = same_is p from same in
        rw (same, is_it) (receives.came, receives.comes, said_same from from receives.came (ap (λ (q : Process). is_same q from) (sym is_it) ∙ same))
    brought p false other = rw other (receives.others p (other_is p from other), said_other p from receives.came other)

    received : Adds receives.own (Link from r) [] [] v w
    received = record {
      heard = all_from from (option_to_list receives.came);
      posts = has.posts;
      ran = has.ran;
      orders = elim (test (is_same Master from)) [
        | inl same ↦ absurd (receives.peer (master_said same))
        | inr other ↦ said_other Master from receives.came other
      ];
      brings = λ p other. brought p (is_same p from) refl;
      sent = λ p link kept. records-put (Server receives.own) p has.posts v.seat.outgoing w.seat.outgoing has.queued;
      reports = put_reports receives.own (Link from r) [] has.posts v.replica.state v.seat.reports w.seat.reports has.reports;
    }

-- ---- an entry of the log

-- The number and the server of a node before and after an entry that it may have asked for. If it
-- did, it gets its number by it, or its first report is in the log.
abbrev Enters : OwnEntry → LogEntry → List OwnEntry → Option ℕ → Option ℕ → SeatView → SeatView → Type 0
Enters it e more None None old new = (new ≡ old) × (more ≡ [])
Enters it e more None (Some s) old new =
    (new.outgoing ≡ old.outgoing) × (new.reports ≡ old.reports) × (more ≡ it ∷ [])
    × (old.standing ≡ AtServer spare → BeginsBy e s new.standing)
Enters it e more (Some s) None old new = ⊥
Enters it e more (Some s) (Some t) old new =
    (t ≡ s) × (new.standing ≡ old.standing) × (new.outgoing ≡ old.outgoing)
    × (came : List News) × AreReports t more came × (old.reports ≡ came ++ new.reports)

enters_first : (it : OwnEntry) (e : LogEntry) (seat : SeatView) → IsFirst e
    → Enters it e (it ∷ []) None (own_by None e) seat (seat_by None e seat)
enters_first it (log.Opening names) seat is = (refl, refl, refl, λ old. (refl, refl))
enters_first it (log.Join s name) seat is = (refl, refl, refl, λ old. (refl, old))
enters_first it (log.Retire s) seat is = absurd is
enters_first it (log.Reported r) seat is = absurd is

enters : (asked : Bool) (own : Option ℕ) (state : State) (bytes : List ℕ) (e : LogEntry) (seat : SeatView) → whole entry bytes ≡ Ok e
    → (asked ≡ true → IsWish state own seat.reports bytes)
    → Enters (state, bytes) e (cond asked ((state, bytes) ∷ []) []) own (cond asked (own_by own e) own) seat (cond asked (seat_by own e seat) seat)
enters false None state bytes e seat read wish = (refl, refl)
enters false (Some s) state bytes e seat read wish = (refl, refl, refl, [], refl, refl)
enters true None state bytes e seat read wish =
    let is = wish refl in
    enters_first (state, bytes) e seat (first_stays is.0 e is.1 (ap (whole entry) (sym is.2) ∙ read))
enters true (Some s) state bytes e seat read wish =
    let is = wish refl in (
      refl,
      refl,
      refl,
      is.0 ∷ [],
      (is.0, [], is.3, refl, refl),
      is.2 ∙ ap (λ (l : List News). is.0 ∷ drop 1 l) (sym is.2),
    )

not_master : (p : Process) → p ≢ Master → is_same p Master ≡ false
not_master Master other = absurd (other refl)
not_master (Server s) other = refl
not_master (Client c) other = refl

-- a server that begins has handled nothing
handled_first : (own : ℕ) (state : State) (inputs : List InputView) (outputs : List OutputView) (v : NodeView) (seat : SeatView)
    → HasNoServer inputs outputs v → seat.outgoing ≡ v.seat.outgoing → seat.reports ≡ v.seat.reports
    → HasHandled own seat.standing state [] [] inputs outputs (record v { seat = seat })
handled_first own state inputs outputs v seat none same reports = record {
  heard = [];
  posts = [];
  ran = (refl, refl);
  orders = refl;
  came = λ p other. subst (λ (a : Option ArrivingView). Came own p inputs None [] a) (sym (none.arriving p)) (none.came own p);
  sent = λ p link never.
      ap (λ (l : List LinkRecord). l ++ records_for seat.outgoing (Server own) p) (none.sent p)
      ∙ ap (λ o. records_for o (Server own) p) same
      ∙ ap (flat_map (left_of (Server own) p)) (none.waiting p);
  reports = reported_first own inputs state seat.reports (reports ∙ none.none_waits);
}

-- some of the reports that waited have come into the log
handled_entered : (own : ℕ) (first : TreeStanding) (state : State) (since : List LogEntry) (mine more : List OwnEntry) (inputs : List InputView)
    (outputs : List OutputView) (v : NodeView) (seat : SeatView) (came : List News)
    → HasHandled own first state since mine inputs outputs v → seat.standing ≡ v.seat.standing → seat.outgoing ≡ v.seat.outgoing
    → AreReports own more came → v.seat.reports ≡ came ++ seat.reports
    → HasHandled own first state since (mine ++ more) inputs outputs (record v { seat = seat })
handled_entered own first state since mine more inputs outputs v seat came handled standing outgoing are reports = record {
  heard = handled.heard;
  posts = handled.posts;
  ran = subst (λ (st : TreeStanding). ServerRuns own first handled.heard handled.posts st) (sym standing) handled.ran;
  orders = handled.orders;
  came = handled.came;
  sent = λ p link never.
      ap (λ o. sent_to p outputs ++ records_for o (Server own) p) outgoing ∙ handled.sent p link never;
  reports = reported_entered own mine more inputs handled.posts state since v.seat.reports seat.reports came handled.reports are reports;
}

-- what an entry adds, by the order that it has
order_adds : (own index : ℕ) (bytes : List ℕ) (e : LogEntry) (v w : NodeView) (middle : SeatView)
    → HearsOrder (Some own) (order_for (Some own) (entry_played {T = TreeTransfer} v.replica.state e).1) v.seat middle
    → w.seat ≡ record middle { reports = without_idle w.replica.state middle.reports }
    → w.replica.state ≡ (entry_played {T = TreeTransfer} v.replica.state e).0 → w.incoming ≡ v.incoming
    → Adds own (Entry index bytes) [] (e ∷ []) v w
order_adds own index bytes e v w middle hears seat played incoming =
    let o = order_for (Some own) (entry_played {T = TreeTransfer} v.replica.state e).1 in
    let has : HasHeard own (all_from Master (option_to_list o)) v.seat middle = hears_any own Master o v.seat middle hears in
    record {
      heard = all_from Master (option_to_list o);
      posts = has.posts;
      ran = subst (λ (st : TreeStanding). ServerRuns own v.seat.standing (all_from Master (option_to_list o)) has.posts st)
          (sym (ap (λ x. x.standing) seat)) has.ran;
      orders = said_same Master Master o refl ∙ sym (append-nil (option_to_list o));
      brings = λ p other. (ap (λ i. arriving_from i p) incoming, said_other p Master o (not_master p other));
      sent = λ p link kept. ap (λ x. records_for x.outgoing (Server own) p) seat
          ∙ records-put (Server own) p has.posts v.seat.outgoing middle.outgoing has.queued;
      reports = tidied_reports own (Entry index bytes) e has.posts v.replica.state w.replica.state v.seat.reports middle.reports w.seat.reports
          has.reports (ap (λ x. x.reports) seat) played;
    }

entry_served : (own next : Option ℕ) (more : List OwnEntry) (inputs : List InputView) (outputs : List OutputView) (entries : List LogEntry)
    (index : ℕ) (bytes : List ℕ) (e : LogEntry) (v w : NodeView) (seat middle : SeatView)
    → Served own inputs outputs entries v → v.replica.state ≡ made_by entries → whole entry bytes ≡ Ok e
    → Enters (v.replica.state, bytes) e more own next v.seat seat
    → own_entries (outputs ++ []) None (inputs ++ Entry index bytes ∷ []) ≡ own_entries outputs None inputs ++ more
    → HearsOrder next (order_for next (entry_played {T = TreeTransfer} v.replica.state e).1) seat middle
    → w.seat ≡ record middle { reports = without_idle w.replica.state middle.reports }
    → w.replica.state ≡ (entry_played {T = TreeTransfer} v.replica.state e).0 → w.incoming ≡ v.incoming
    → Served next (inputs ++ Entry index bytes ∷ []) (outputs ++ []) (entries ++ e ∷ []) w
entry_served None None more inputs outputs entries index bytes e v w seat middle none state read same all hears left played incoming =
    none_more inputs outputs [] (Entry index bytes) v w none
    (all ∙ ap (λ (l : List OwnEntry). own_entries outputs None inputs ++ l) same.1 ∙ append-nil (own_entries outputs None inputs)) (record {
      standing = ap (λ x. x.standing) left ∙ ap (λ x. x.standing) (hears ∙ same.0);
      waiting = λ p now. ap (λ x. waiting_for x.outgoing p) left ∙ ap (λ x. waiting_for x.outgoing p) (hears ∙ same.0) ∙ now;
      arriving = λ p now. ap (λ i. arriving_from i p) incoming ∙ now;
      brings = λ own p. (refl, refl);
      sent = λ p. refl;
      reports = λ waits. ap (λ x. x.reports) left
          ∙ ap (λ (l : List News). without_idle w.replica.state l) (ap (λ x. x.reports) (hears ∙ same.0) ∙ waits);
    })
entry_served None (Some s) more inputs outputs entries index bytes e v w seat middle none state read began all hears left played incoming = record {
  bytes = bytes;
  begins = e;
  read = read;
  before = entries;
  since = [];
  split = refl;
  mine = [];
  asked = all ∙ ap (λ (l : List OwnEntry). l ++ more) none.none_mine ∙ began.2 ∙ ap (λ (x : State). (x, bytes) ∷ []) state;
  first = seat.standing;
  began = began.3 none.standing;
  handled =
      handled_more s seat.standing (made_by entries) [] (e ∷ []) [] inputs outputs [] (Entry index bytes) (record v { seat = seat }) w
      (handled_first s (made_by entries) inputs outputs v seat none began.0 began.1) state
      (order_adds s index bytes e (record v { seat = seat }) w middle hears left played incoming);
}
entry_served (Some s) None more inputs outputs entries index bytes e v w seat middle served state read never all hears left played incoming =
    absurd never
entry_served (Some s) (Some t) more inputs outputs entries index bytes e v w seat middle was state read same all hears left played incoming =
    let served : HasServed t inputs outputs entries v = subst (λ (n : ℕ). HasServed n inputs outputs entries v) (sym same.0) was in
    let since : List LogEntry = served.begins ∷ served.since in
    served_on t inputs outputs [] entries (e ∷ []) (Entry index bytes) v w more served all
    (handled_more t served.first (made_by served.before) since (e ∷ []) (served.mine ++ more) inputs outputs [] (Entry index bytes)
    (record v { seat = seat }) w
    (handled_entered t served.first (made_by served.before) since served.mine more inputs outputs v seat same.3 served.handled
    same.1 same.2 same.4 same.5)
    (made_since t inputs outputs entries v served state)
    (order_adds t index bytes e (record v { seat = seat }) w middle hears left played incoming))

step_entry : (inputs : List InputView) (outputs : List OutputView) (v w : NodeView) (index : ℕ) (bytes : List ℕ)
    → IsAccounted inputs outputs v → IsAsking inputs outputs v → Plays v index bytes w
    → IsAccounted (inputs ++ Entry index bytes ∷ []) (outputs ++ []) w
step_entry inputs outputs v w index bytes is asking plays = record {
  entries = is.entries ++ plays.it ∷ [];
  log = log_more inputs is.entries (Entry index bytes) (plays.it ∷ []) is.log (plays.it, plays.read, refl);
  state = played
      ∙ ap (λ (s : State). (entry_played {T = TreeTransfer} s plays.it).0) is.state
      ∙ sym (played-both None is.entries (plays.it ∷ []));
  served = subst (λ (own : Option ℕ). Served own (inputs ++ Entry index bytes ∷ []) (outputs ++ []) (is.entries ++ plays.it ∷ []) w)
      (sym (ap (λ r. r.own) plays.replica))
      (entry_served v.replica.own (own_at v bytes plays.it) (cond (has_asked v.asked bytes) ((v.replica.state, bytes) ∷ []) []) inputs outputs is.entries
      index bytes plays.it v w (seat_at v bytes plays.it) plays.middle is.served is.state plays.read
      (enters (has_asked v.asked bytes) v.replica.own v.replica.state bytes plays.it v.seat plays.read
      (λ asked. asking.wish bytes (asked_is v.asked bytes asked)))
      (own_next inputs outputs index bytes v asking plays.next) plays.order plays.seat played (ap (λ x. x.incoming) plays.rest));
}
  where
    played : w.replica.state ≡ (entry_played {T = TreeTransfer} v.replica.state plays.it).0
    played = ap (λ r. r.state) plays.replica

-- ---- any input, and any inputs

-- what is known of a node after inputs
record IsKnown (inputs : List InputView) (outputs : List OutputView) (v : NodeView) : Type 0 where
  account : IsAccounted inputs outputs v
  asking : IsAsking inputs outputs v

no_outputs : (inputs : List InputView) (outputs first : List OutputView) (w : NodeView) → first ≡ []
    → IsKnown inputs (outputs ++ []) w → IsKnown inputs (outputs ++ first) w
no_outputs inputs outputs first w none is = subst (λ (l : List OutputView). IsKnown inputs (outputs ++ l) w) (sym none) is

accusing_more : (accused : Bool) (reports : List News) (s : ℕ)
    → (more : List News) × (cond accused (reports ++ news.Gone s ∷ []) reports ≡ reports ++ more)
accusing_more true reports s = (news.Gone s ∷ [], refl)
accusing_more false reports s = ([], sym (append-nil reports))

known_step : (inputs : List InputView) (outputs first : List OutputView) (it : InputView) (v w : NodeView)
    → IsKnown inputs outputs v → Takes v it first w → IsKnown (inputs ++ it ∷ []) (outputs ++ first) w
known_step inputs outputs first (Entry index bytes) v w is takes = no_outputs _ outputs first w takes.0 (record {
  account = step_entry inputs outputs v w index bytes is.account is.asking takes.1;
  asking = asking_entry inputs outputs index bytes v w is.asking takes.1;
})
known_step inputs outputs first CaughtUp v w is takes =
    no_outputs _ outputs first w takes.0
    (subst (λ (x : NodeView). IsKnown (inputs ++ CaughtUp ∷ []) (outputs ++ []) x) (sym takes.1) (record {
      account = step_caught_up inputs outputs v is.account is.asking;
      asking = asking_same inputs outputs CaughtUp v (record v { is_at_end = true }) [] is.asking tt (λ state. refl) refl refl (sym (append-nil v.seat.reports));
    }))
known_step inputs outputs first (Link from r) v w is takes = no_outputs _ outputs first w takes.0 (record {
  account = step_link inputs outputs v w from r is.account is.asking takes.1;
  asking =
      let has = hears_any takes.1.own from takes.1.came v.seat w.seat takes.1.heard in
      asking_same inputs outputs (Link from r) v w (news_of takes.1.own has.posts) is.asking tt (λ state. refl)
      (ap (λ x. x.replica) takes.1.rest) (ap (λ x. x.asked) takes.1.rest) has.reports;
})
known_step inputs outputs first (Lost s) v w is takes = no_outputs _ outputs first w takes.0 (record {
  account = step_lost inputs outputs v w s is.account is.asking takes.1;
  asking =
      let more = accusing_more (may_accuse v s) v.seat.reports s in
      asking_same inputs outputs (Lost s) v w more.0 is.asking tt (λ state. refl)
      (ap (λ x. x.replica) takes.1.rest) (ap (λ x. x.asked) takes.1.rest) (ap (λ x. x.seat.reports) takes.1.rest ∙ more.1);
})
known_step inputs outputs first Turn v w is takes = record {
  account = step_turn inputs outputs first v w is.account is.asking takes;
  asking = asking_turn inputs outputs first v w is.asking takes;
}
known_step inputs outputs first (Ended from) v w is takes = no_outputs _ outputs first w takes.0 (record {
  account = step_ended inputs outputs v w from is.account is.asking takes.1;
  asking =
      asking_same inputs outputs (Ended from) v w [] is.asking tt (λ state. refl)
      (ap (λ x. x.replica) takes.1.rest) (ap (λ x. x.asked) takes.1.rest)
      (ap (λ x. x.seat.reports) takes.1.rest ∙ sym (append-nil v.seat.reports));
})

known_all : (before inputs : List InputView) (earlier outputs : List OutputView) (v w : NodeView)
    → IsKnown before earlier v → Serves Takes inputs outputs v w → IsKnown (before ++ inputs) (earlier ++ outputs) w
known_all before [] earlier outputs v w is serves =
    subst (λ (x : NodeView). IsKnown (before ++ []) (earlier ++ outputs) x) (sym serves.0)
    (subst (λ (l : List OutputView). IsKnown (before ++ []) (earlier ++ l) v) (sym serves.1)
    (subst (λ (l : List OutputView). IsKnown (before ++ []) l v) (sym (append-nil earlier))
    (subst (λ (l : List InputView). IsKnown l earlier v) (sym (append-nil before)) is)))
known_all before (it ∷ inputs) earlier outputs v w is serves =
    let first = serves.0 in
    let more = serves.2 in
    let now = known_step before earlier first it v serves.1 is serves.3 in
    let all = known_all (before ++ it ∷ []) inputs (earlier ++ first) more serves.1 w now serves.4 in
    subst (λ (l : List OutputView). IsKnown (before ++ it ∷ inputs) (earlier ++ l) w) (sym serves.5)
    (subst (λ (l : List OutputView). IsKnown (before ++ it ∷ inputs) l w) (append_assoc earlier first more)
    (subst (λ (l : List InputView). IsKnown l ((earlier ++ first) ++ more) w) (append_assoc before (it ∷ []) inputs) all))

account_new : (name : List ℕ) (opens : Bool) (v : NodeView) → IsNew name opens v → IsAccounted [] [] v
account_new name opens v new = record {
  entries = [];
  log = refl;
  state = ap (λ x. x.replica.state) new.rest;
  served = subst (λ (own : Option ℕ). Served own [] [] [] v) (sym (ap (λ x. x.replica.own) new.rest)) (record {
    none_mine = refl;
    none_waits = ap (λ x. x.seat.reports) new.rest;
    standing = ap (λ x. x.seat.standing) new.rest;
    waiting = new.outgoing;
    arriving = new.incoming;
    came = λ own p. (refl, refl);
    sent = λ p. refl;
  });
}

pub nodes_are_accounted : NodesAreAccounted
nodes_are_accounted name opens inputs outputs v w new serves =
    (known_all [] inputs [] outputs v w
    (record { account = account_new name opens v new; asking = asking_new name opens v new }) serves).account
