-- Entries that a node has asked for.
use Rattle.std.proofs.Common.{◌≡◌, ◌≢◌, ◌⊎◌, inl, inr, ℕ, ◌+◌, ◌<◌, ◌==◌, Bool, true, false, ◌&&◌, ◌||◌, cond, List, [], ◌∷◌, ◌++◌, Option, None, Some, refl, sym, ap, subst, ◌∙◌, append_assoc, bytes_eq, is_none, nat_le, arith}
use Rattle.std.specs.List.{list_any, AllByRecursion}
use Rattle.std.proofs.lemmas.Bool.Decides.{nat_tests}
use Rattle.std.proofs.lemmas.Slice.Eq.{bytes_eq-Decides}
use Rattle.std.proofs.lemmas.List.{append-nil}
use Rattle.std.proofs.lemmas.List.Folds.{list_any-append}
use Rattle.zprotocol.specs.declared.master.order.Order.TheVariants as order
use Rattle.zprotocol.specs.Places.{is_server}
use Rattle.zmaster_log.specs.declared.entry.LogEntry.{LogEntry}
use Rattle.zmaster_log.specs.declared.entry.LogEntry.TheVariants as log
use Rattle.zmaster_log.specs.declared.entry.News.{News}
use Rattle.zmaster_log.specs.declared.limits.TheConstants.{MAX_ENTRIES}
use Rattle.zmaster_log.specs.Bytes.{entry}
use Rattle.zmaster_log.specs.Log.{State, entry_played, fault_of, next_of, reports_of}
use Rattle.zpeers.specs.Records.{TreeTransfer}
use Rattle.zpeers.specs.Outgoing.{OutgoingView}
use Rattle.znode.specs.declared.status.NodeStatus.{NodeStatus}
use Rattle.znode.specs.pipe.Inputs.{InputView, Entry, CaughtUp, Link, Lost, Turn, Ended}
use Rattle.znode.specs.pipe.Outputs.{OutputView, Send, Append, Status, End}
use Rattle.znode.specs.Node.{NodeView, IsNew, status_of}
use Rattle.znode.specs.Entries.{Plays, first_of, has_asked, wanted, wanted_by, wanted_join, wanted_opening, wanted_report}
use Rattle.znode.specs.Turns.{Answers, IsSend, Sends, asked_after, asked_output, asking, is_known, status_output, known_output}
use Rattle.znode.specs.Laws.{OwnEntry, after_input, after_read, asks_for, own_entries, own_entry, report_of}
use Rattle.znode.proofs.node_lemmas.FirstEntries.{IsFirst}
use Rattle.znode.proofs.node_lemmas.Putting.{or-none}

-- ---- what is asked for

abbrev pub was_asked : List OutputView → ℕ → List ℕ → Bool
was_asked outputs index bytes = list_any (asks_for index bytes) outputs

-- an entry among the inputs is before this index
abbrev pub IsBefore : ℕ → InputView → Type 0
IsBefore played (Entry index bytes) = index < played
IsBefore played other = Unit {0}

-- these bytes give the node its number, or they are its first report
abbrev pub IsWish : State → Option ℕ → List News → List ℕ → Type 0
IsWish state None reports bytes = (e : LogEntry) × IsFirst e × (bytes ≡ entry.spell e)
IsWish state (Some s) reports bytes =
    (n : News) × (rest : List News) × (reports ≡ n ∷ rest) × (bytes ≡ entry.spell (report_of s state n))

-- what the entries among inputs make
abbrev made_from : State → List InputView → State
made_from state [] = state
made_from state (it ∷ inputs) = made_from (after_input state it) inputs

made-last : (state : State) (inputs : List InputView) (it : InputView) → made_from state (inputs ++ it ∷ []) ≡ after_input (made_from state inputs) it
made-last state [] it = refl
made-last state (x ∷ inputs) it = made-last (after_input state x) inputs it

-- The node has asked for nothing behind the entries that it has played, and for the next one as it
-- knows.
pub record IsAsking (inputs : List InputView) (outputs : List OutputView) (v : NodeView) : Type 0 where
  pub later : (index : ℕ) (bytes : List ℕ) → v.replica.played < index → was_asked outputs index bytes ≡ false
  pub next : (bytes : List ℕ) → was_asked outputs v.replica.played bytes ≡ has_asked v.asked bytes
  pub entries : AllByRecursion (IsBefore v.replica.played) inputs
  pub state : made_from None inputs ≡ v.replica.state
  pub wish : (bytes : List ℕ) → v.asked ≡ Some bytes → IsWish v.replica.state v.replica.own v.seat.reports bytes

all_before : (P : InputView → Type 0) (inputs : List InputView) (it : InputView) → AllByRecursion P inputs → P it
    → AllByRecursion P (inputs ++ it ∷ [])
all_before P [] it all is = (is, tt)
all_before P (x ∷ inputs) it all is = (all.0, all_before P inputs it all.1 is)

before_more : (played more : ℕ) (inputs : List InputView) → played < more → AllByRecursion (IsBefore played) inputs
    → AllByRecursion (IsBefore more) inputs
before_more played more [] small all = tt
before_more played more (Entry index bytes ∷ inputs) small all =
    (let here : index < played = all.0 in omega arith, before_more played more inputs small all.1)
before_more played more (CaughtUp ∷ inputs) small all = (tt, before_more played more inputs small all.1)
before_more played more (Link from r ∷ inputs) small all = (tt, before_more played more inputs small all.1)
before_more played more (Lost s ∷ inputs) small all = (tt, before_more played more inputs small all.1)
before_more played more (Turn ∷ inputs) small all = (tt, before_more played more inputs small all.1)
before_more played more (Ended from ∷ inputs) small all = (tt, before_more played more inputs small all.1)

-- ---- the entries that it asked for

asked-both : (a b : List OutputView) (index : ℕ) (bytes : List ℕ) → was_asked b index bytes ≡ false
    → was_asked (a ++ b) index bytes ≡ was_asked a index bytes
asked-both a b index bytes none =
    list_any-append (asks_for index bytes) a b ∙ ap (λ (t : Bool). was_asked a index bytes || t) none ∙ or-none (was_asked a index bytes)

-- outputs that ask for no earlier entry
abbrev pub AskNone : ℕ → List OutputView → Type 0
AskNone played outputs = (index : ℕ) (bytes : List ℕ) → index < played → was_asked outputs index bytes ≡ false

own_same : (played : ℕ) (outputs more : List OutputView) (state : State) (inputs : List InputView) → AskNone played more
    → AllByRecursion (IsBefore played) inputs → own_entries (outputs ++ more) state inputs ≡ own_entries outputs state inputs
own_same played outputs more state [] none all = refl
own_same played outputs more state (Entry index bytes ∷ inputs) none all =
    let next = after_input state (Entry index bytes) in
    ap (λ (t : Bool). cond t ((state, bytes) ∷ []) [] ++ own_entries (outputs ++ more) next inputs)
    (asked-both outputs more index bytes (none index bytes all.0))
    ∙ ap (λ (l : List OwnEntry). cond (was_asked outputs index bytes) ((state, bytes) ∷ []) [] ++ l)
    (own_same played outputs more next inputs none all.1)
own_same played outputs more state (CaughtUp ∷ inputs) none all = own_same played outputs more state inputs none all.1
own_same played outputs more state (Link from r ∷ inputs) none all = own_same played outputs more state inputs none all.1
own_same played outputs more state (Lost s ∷ inputs) none all = own_same played outputs more state inputs none all.1
own_same played outputs more state (Turn ∷ inputs) none all = own_same played outputs more state inputs none all.1
own_same played outputs more state (Ended from ∷ inputs) none all = own_same played outputs more state inputs none all.1

own-last : (outputs : List OutputView) (state : State) (inputs : List InputView) (it : InputView)
    → own_entries outputs state (inputs ++ it ∷ []) ≡ own_entries outputs state inputs ++ own_entry outputs (made_from state inputs) it
own-last outputs state [] it = append-nil (own_entry outputs state it)
own-last outputs state (x ∷ inputs) it =
    let next = after_input state x in
    ap (λ (l : List OwnEntry). own_entry outputs state x ++ l) (own-last outputs next inputs it)
    ∙ sym (append_assoc (own_entry outputs state x) (own_entries outputs next inputs) (own_entry outputs (made_from next inputs) it))

pub own_more : (inputs : List InputView) (outputs more : List OutputView) (it : InputView) (v : NodeView) → IsAsking inputs outputs v
    → AskNone v.replica.played more
    → own_entries (outputs ++ more) None (inputs ++ it ∷ []) ≡ own_entries outputs None inputs ++ own_entry (outputs ++ more) v.replica.state it
own_more inputs outputs more it v is none =
    own-last (outputs ++ more) None inputs it
    ∙ ap (λ (l : List OwnEntry). l ++ own_entry (outputs ++ more) (made_from None inputs) it)
    (own_same v.replica.played outputs more None inputs none is.entries)
    ∙ ap (λ (state : State). own_entries outputs None inputs ++ own_entry (outputs ++ more) state it) is.state

-- the next entry is its own if it is what it has asked for
pub own_next : (inputs : List InputView) (outputs : List OutputView) (index : ℕ) (bytes : List ℕ) (v : NodeView) → IsAsking inputs outputs v
    → index ≡ v.replica.played
    → own_entries (outputs ++ []) None (inputs ++ Entry index bytes ∷ [])
    ≡ own_entries outputs None inputs ++ cond (has_asked v.asked bytes) ((v.replica.state, bytes) ∷ []) []
own_next inputs outputs index bytes v is at =
    own_more inputs outputs [] (Entry index bytes) v is (λ i b small. refl)
    ∙ ap (λ (t : Bool). own_entries outputs None inputs ++ cond t ((v.replica.state, bytes) ∷ []) [])
    (asked-both outputs [] index bytes refl ∙ ap (λ (i : ℕ). was_asked outputs i bytes) at ∙ is.next bytes)

pub asked_is : (asked : Option (List ℕ)) (bytes : List ℕ) → has_asked asked bytes ≡ true → asked ≡ Some bytes
asked_is None bytes e = absurd (let no_way : false ≡ true = e in cc)
asked_is (Some b) bytes e = ap (λ (l : List ℕ). Some l) ((bytes_eq-Decides b bytes).0 e)

-- ---- inputs by which nothing is asked for

pub asking_same : (inputs : List InputView) (outputs : List OutputView) (it : InputView) (v w : NodeView) (more : List News)
    → IsAsking inputs outputs v → IsBefore v.replica.played it → ((state : State) → after_input state it ≡ state)
    → w.replica ≡ v.replica → w.asked ≡ v.asked → w.seat.reports ≡ v.seat.reports ++ more
    → IsAsking (inputs ++ it ∷ []) (outputs ++ []) w
asking_same inputs outputs it v w more is before unplayed same asked reports = record {
  later = λ index bytes small.
      asked-both outputs [] index bytes refl ∙ is.later index bytes (subst (λ r. r.played < index) same small);
  next = λ bytes.
      asked-both outputs [] w.replica.played bytes refl ∙ ap (λ r. was_asked outputs r.played bytes) same
      ∙ is.next bytes ∙ ap (λ a. has_asked a bytes) (sym asked);
  entries = subst (λ r. AllByRecursion (IsBefore r.played) (inputs ++ it ∷ [])) (sym same)
      (all_before (IsBefore v.replica.played) inputs it is.entries before);
  state = made-last None inputs it ∙ unplayed (made_from None inputs) ∙ is.state ∙ ap (λ r. r.state) (sym same);
  wish = λ bytes e.
      subst (λ r. IsWish r.state r.own w.seat.reports bytes) (sym same)
      (subst (λ (l : List News). IsWish v.replica.state v.replica.own l bytes) (sym reports)
      (wish_more v.replica.own bytes (is.wish bytes (sym asked ∙ e))));
}
  where
    wish_more : (own : Option ℕ) (bytes : List ℕ) → IsWish v.replica.state own v.seat.reports bytes
        → IsWish v.replica.state own (v.seat.reports ++ more) bytes
    wish_more None bytes wish = wish
    wish_more (Some s) bytes wish = (wish.0, wish.1 ++ more, ap (λ (l : List News). l ++ more) wish.2, wish.3)

-- ---- an entry

pub asking_entry : (inputs : List InputView) (outputs : List OutputView) (index : ℕ) (bytes : List ℕ) (v w : NodeView)
    → IsAsking inputs outputs v → Plays v index bytes w → IsAsking (inputs ++ Entry index bytes ∷ []) (outputs ++ []) w
asking_entry inputs outputs index bytes v w is plays = record {
  later = λ i b small. none_later i b (let p = played in omega arith);
  next = λ b. none_later w.replica.played b (let p = played in omega arith) ∙ ap (λ a. has_asked a b) (sym asked);
  entries = all_before (IsBefore w.replica.played) inputs (Entry index bytes)
      (before_more v.replica.played w.replica.played inputs (let p = played in omega arith) is.entries)
      (let p = played in let at = plays.next in omega arith);
  state =
      made-last None inputs (Entry index bytes) ∙ ap (after_read (made_from None inputs)) plays.read
      ∙ ap (λ (state : State). (entry_played {T = TreeTransfer} state plays.it).0) is.state
      ∙ sym (ap (λ r. r.state) plays.replica);
  wish = λ b e. absurd (let both : None ≡ Some b = sym asked ∙ e in cc);
}
  where
    played : w.replica.played ≡ v.replica.played + 1
    played = ap (λ r. r.played) plays.replica

    asked : w.asked ≡ None
    asked = ap (λ x. x.asked) plays.rest

    none_later : (i : ℕ) (b : List ℕ) → v.replica.played < i → was_asked (outputs ++ []) i b ≡ false
    none_later i b small = asked-both outputs [] i b refl ∙ is.later i b small

-- ---- a turn

none_of_status : (known : Bool) (s : NodeStatus) (index : ℕ) (bytes : List ℕ) → was_asked (cond known [] (status_output s ∷ [])) index bytes ≡ false
none_of_status true s index bytes = refl
none_of_status false s index bytes = refl

none_of_sends : (outputs : List OutputView) (index : ℕ) (bytes : List ℕ) → AllByRecursion IsSend outputs → was_asked outputs index bytes ≡ false
none_of_sends [] index bytes all = refl
none_of_sends (Send to r ∷ outputs) index bytes all = none_of_sends outputs index bytes all.1
none_of_sends (Append i b ∷ outputs) index bytes all = absurd all.0
none_of_sends (Status own flags ∷ outputs) index bytes all = absurd all.0
none_of_sends (End more ∷ outputs) index bytes all = absurd all.0

none_of_records : (own : Option ℕ) (outputs : List OutputView) (old new : OutgoingView) (index : ℕ) (bytes : List ℕ)
    → Sends own outputs old new → was_asked outputs index bytes ≡ false
none_of_records None outputs old new index bytes sends = ap (λ (l : List OutputView). was_asked l index bytes) sends.0
none_of_records (Some s) outputs old new index bytes sends = none_of_sends outputs index bytes sends.0

-- an answer asks for the entry that the node wants
answer_asks : (v w : NodeView) (outputs : List OutputView) (answers : Answers v outputs w) (index : ℕ) (bytes : List ℕ)
    → was_asked outputs index bytes ≡ was_asked (asked_output v.replica.played (asking v)) index bytes
answer_asks v w outputs answers index bytes =
    let a = known_output v.known (status_of v) in
    let b = asked_output v.replica.played (asking v) in
    let c = answers.records in
    let d : List OutputView = End answers.more ∷ [] in
    ap (λ (l : List OutputView). was_asked l index bytes) answers.all
    ∙ asked-both (a ++ b ++ c) d index bytes refl
    ∙ asked-both (a ++ b) c index bytes
    (none_of_records v.replica.own c v.seat.outgoing w.seat.outgoing index bytes answers.sends)
    ∙ list_any-append (asks_for index bytes) a b
    ∙ ap (λ (t : Bool). t || was_asked b index bytes) (none_of_status (is_known v.known (status_of v)) (status_of v) index bytes)

-- of another index it asks for none
asks_one : (played : ℕ) (o : Option LogEntry) (index : ℕ) (bytes : List ℕ) → played ≢ index
    → was_asked (asked_output played o) index bytes ≡ false
asks_one played None index bytes other = refl
asks_one played (Some e) index bytes other =
    ap (λ (t : Bool). t && bytes_eq (entry.spell e) bytes || false) (let no_way : (played == index) ≡ false = grind (arith, nat_tests, other) in no_way)

pub answer_other : (v w : NodeView) (outputs : List OutputView) (answers : Answers v outputs w) (index : ℕ) (bytes : List ℕ)
    → v.replica.played ≢ index → was_asked outputs index bytes ≡ false
answer_other v w outputs answers index bytes other =
    answer_asks v w outputs answers index bytes ∙ asks_one v.replica.played (asking v) index bytes other

pub answer_asks_none : (v w : NodeView) (outputs : List OutputView) → Answers v outputs w → AskNone v.replica.played outputs
answer_asks_none v w outputs answers index bytes small =
    answer_other v w outputs answers index bytes (λ e. omega (arith, small, e))

-- whether it asks
asking_either : (at_end : Bool) (asked : Option (List ℕ)) (want : Option LogEntry)
    → (cond (at_end && is_none asked) want None ≡ None)
    ⊎ ((asked ≡ None) × (e : LogEntry) × (want ≡ Some e) × (cond (at_end && is_none asked) want None ≡ Some e))
asking_either false asked want = inl refl
asking_either true (Some b) want = inl refl
asking_either true None None = inl refl
asking_either true None (Some e) = inr (refl, e, refl, refl)

wish_report : (state : State) (s : ℕ) (reports : List News) (e : LogEntry) → wanted_report state s (first_of reports) ≡ Some e
    → IsWish state (Some s) reports (entry.spell e)
wish_report state s [] e is = absurd (let no_way : None ≡ Some e = is in cc)
wish_report state s (n ∷ rest) e is = few (nat_le (reports_of state s) MAX_ENTRIES) is
  where
    few : (b : Bool) → cond b (Some (report_of s state n)) None ≡ Some e → IsWish state (Some s) (n ∷ rest) (entry.spell e)
    few false is = absurd (let no_way : None ≡ Some e = is in cc)
    few true is = (n, rest, refl, let same : report_of s state n ≡ e = cc in ap entry.spell (sym same))

wish_if : (state : State) (b : Bool) (it e : LogEntry) (reports : List News) → IsFirst it → cond b (Some it) None ≡ Some e → IsWish state None reports (entry.spell e)
wish_if state false it e reports is wants = absurd (let no_way : None ≡ Some e = wants in cc)
wish_if state true it e reports is wants = (it, is, let same : it ≡ e = cc in ap entry.spell (sym same))

wish_number : (v : NodeView) (e : LogEntry) (b : Bool) → cond b (wanted_join v (next_of v.replica.state)) (wanted_opening v) ≡ Some e
    → IsWish v.replica.state None v.seat.reports (entry.spell e)
wish_number v e true wants =
    wish_if v.replica.state (is_none (fault_of v.replica.state (order.Join (next_of v.replica.state)))) (log.Join (next_of v.replica.state) v.name) e
    v.seat.reports tt wants
wish_number v e false wants =
    wish_if v.replica.state (v.opens && v.replica.played == 0) (log.Opening (v.name ∷ [])) e v.seat.reports tt wants

wish_of : (own : Option ℕ) (v : NodeView) (e : LogEntry) → wanted_by own v ≡ Some e → IsWish v.replica.state own v.seat.reports (entry.spell e)
wish_of None v e wants = wish_number v e (is_server (next_of v.replica.state)) wants
wish_of (Some s) v e wants = wish_report v.replica.state s v.seat.reports e wants

asked_now : (played : ℕ) (e : LogEntry) (bytes : List ℕ)
    → was_asked (asked_output played (Some e)) played bytes ≡ has_asked (Some (entry.spell e)) bytes
asked_now played e bytes =
    ap (λ (t : Bool). t && bytes_eq (entry.spell e) bytes || false) (let same : (played == played) ≡ true = grind (arith, nat_tests) in same)
    ∙ or-none (bytes_eq (entry.spell e) bytes)

some_is : (a b : List ℕ) → Some a ≡ Some b → a ≡ b
some_is a b e = cc

pub asking_turn : (inputs : List InputView) (outputs first : List OutputView) (v w : NodeView)
    → IsAsking inputs outputs v → Answers v first w → IsAsking (inputs ++ Turn ∷ []) (outputs ++ first) w
asking_turn inputs outputs first v w is answers = record {
  later = λ index bytes small. behind index bytes (let p = played in omega arith);
  next = λ bytes. ap (λ (i : ℕ). was_asked (outputs ++ first) i bytes) played ∙ asks_next bytes ∙ ap (λ a. has_asked a bytes) (sym asked);
  entries = subst (λ (n : ℕ). AllByRecursion (IsBefore n) (inputs ++ Turn ∷ [])) (sym played)
      (all_before (IsBefore v.replica.played) inputs Turn is.entries tt);
  state = made-last None inputs Turn ∙ is.state ∙ ap (λ x. x.replica.state) (sym answers.rest);
  wish = λ bytes e.
      subst (λ x. IsWish x.replica.state x.replica.own x.seat.reports bytes) (sym answers.rest) (wishes bytes (sym asked ∙ e));
}
  where
    played : w.replica.played ≡ v.replica.played
    played = ap (λ x. x.replica.played) answers.rest

    asked : w.asked ≡ asked_after v.asked (asking v)
    asked = ap (λ x. x.asked) answers.rest

    behind : (index : ℕ) (bytes : List ℕ) → v.replica.played < index → was_asked (outputs ++ first) index bytes ≡ false
    behind index bytes small =
        asked-both outputs first index bytes (answer_other v w first answers index bytes (λ e. omega (arith, small, e)))
        ∙ is.later index bytes small

    either : (asking v ≡ None) ⊎ ((v.asked ≡ None) × (e : LogEntry) × (wanted v ≡ Some e) × (asking v ≡ Some e))
    either = asking_either v.is_at_end v.asked (wanted v)

    asks : (bytes : List ℕ) (o : Option LogEntry) → asking v ≡ o
        → was_asked (outputs ++ first) v.replica.played bytes ≡ has_asked v.asked bytes || was_asked (asked_output v.replica.played o) v.replica.played bytes
    asks bytes o want =
        list_any-append (asks_for v.replica.played bytes) outputs first
        ∙ ap (λ (t : Bool). t || was_asked first v.replica.played bytes) (is.next bytes)
        ∙ ap (λ (t : Bool). has_asked v.asked bytes || t) (answer_asks v w first answers v.replica.played bytes
        ∙ ap (λ (x : Option LogEntry). was_asked (asked_output v.replica.played x) v.replica.played bytes) want)

    asks_next : (bytes : List ℕ) → was_asked (outputs ++ first) v.replica.played bytes ≡ has_asked (asked_after v.asked (asking v)) bytes
    asks_next bytes = elim either [
      | inl none ↦ asks bytes None none ∙ or-none (has_asked v.asked bytes)
          ∙ ap (λ (o : Option LogEntry). has_asked (asked_after v.asked o) bytes) (sym none)
      | inr some ↦ asks bytes (Some some.1) some.3
          ∙ ap (λ a. has_asked a bytes || was_asked (asked_output v.replica.played (Some some.1)) v.replica.played bytes) some.0
          ∙ asked_now v.replica.played some.1 bytes
          ∙ ap (λ (o : Option LogEntry). has_asked (asked_after v.asked o) bytes) (sym some.3)
    ]

    wishes : (bytes : List ℕ) → asked_after v.asked (asking v) ≡ Some bytes → IsWish v.replica.state v.replica.own v.seat.reports bytes
    wishes bytes e = elim either [
      | inl none ↦ is.wish bytes (sym (ap (asked_after v.asked) none) ∙ e)
      | inr some ↦
          let same : entry.spell some.1 ≡ bytes = some_is (entry.spell some.1) bytes (sym (ap (asked_after v.asked) some.3) ∙ e) in
          subst (λ (l : List ℕ). IsWish v.replica.state v.replica.own v.seat.reports l) same (wish_of v.replica.own v some.1 some.2)
    ]

-- ---- any input

pub asking_new : (name : List ℕ) (opens : Bool) (v : NodeView) → IsNew name opens v → IsAsking [] [] v
asking_new name opens v new = record {
  later = λ index bytes small. refl;
  next = λ bytes. ap (λ x. has_asked x.asked bytes) (sym new.rest);
  entries = tt;
  state = ap (λ x. x.replica.state) (sym new.rest);
  wish = λ bytes e. absurd (let both : None ≡ Some bytes = sym (ap (λ x. x.asked) new.rest) ∙ e in cc);
}
