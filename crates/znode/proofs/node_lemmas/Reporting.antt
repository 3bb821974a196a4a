-- What becomes of one message that a server puts.
use Rattle.std.proofs.Common.{◌≡◌, ◌≢◌, ◌⊎◌, inl, inr, ℕ, Bool, true, false, ◌||◌, cond, List, [], ◌∷◌, ◌++◌, map, Option, Result, Ok, Err, refl, sym, ap, subst, ◌∙◌, arith}
use Rattle.std.specs.Prelude.{OnOk}
use Rattle.std.proofs.lemmas.Bool.{eqb-true}
use Rattle.std.proofs.lemmas.List.{append-nil}
use Rattle.zcalls.proofs.Among.{test}
use Rattle.zprotocol.specs.declared.message.Message.TheVariants as message
use Rattle.zprotocol.specs.declared.process.Process.{Process}
use Rattle.zprotocol.specs.declared.process.Process.TheVariants.{Master, Server, Client}
use Rattle.zserver.specs.Server.{TreeMessage}
use Rattle.zmaster_log.specs.declared.entry.News.{News}
use Rattle.zpeers.specs.Outgoing.{OutgoingView, OthersWait, waiting_for}
use Rattle.znode.specs.Node.{SeatView}
use Rattle.znode.specs.Server.{ArePut, fresh, is_joined, is_link, news_in}
use Rattle.znode.proofs.node_lemmas.Putting.{or-none}

-- the master has no link
no_link : (p : Process) → is_link p Master ≡ false
no_link Master = refl
no_link (Server s) = refl
no_link (Client c) = refl

-- a message to the master is reported
pub reported : (own : ℕ) (m : TreeMessage) (old : SeatView) (reports : List News) (state : Bool)
    → reports ≡ old.reports ++ news_in own m → state ≡ old.has_state || is_joined Master m
    → ArePut own ((Master, m) ∷ []) old (record old { has_state = state; reports = reports })
reported own m old reports state re st = record {
  standing = refl;
  state = st ∙ ap (λ (b : Bool). old.has_state || b) (sym (or-none (is_joined Master m)));
  reports = re ∙ ap (λ (l : List News). old.reports ++ l) (sym (append-nil (news_in own m)));
  queued = λ p. rw (no_link p) (sym (append-nil (waiting_for old.outgoing p)));
}

-- once it was appended, if memory didn't run out
pub report_put : {E : Type 0} (result : Result (Unit {0}) E) (own : ℕ) (m it : TreeMessage) (seat now : SeatView) (reports : List News) (state : Bool)
    → m ≡ it → seat ≡ now → state ≡ seat.has_state || is_joined Master it → OnOk result (reports ≡ seat.reports ++ news_in own it)
    → OnOk result (ArePut own ((Master, m) ∷ []) now (record seat { has_state = state; reports = reports }))
report_put (Ok done) own m it seat now reports state is view st re =
    subst (λ (s : SeatView). ArePut own ((Master, m) ∷ []) s (record seat { has_state = state; reports = reports })) view
    (subst (λ (x : TreeMessage). ArePut own ((Master, x) ∷ []) seat (record seat { has_state = state; reports = reports })) (sym is)
    (reported own it seat reports state re st))
report_put (Err error) own m it seat now reports state is view st re = tt

pub or-all : (a : Bool) → true ≡ a || true
or-all true = refl
or-all false = refl

-- a message that a server doesn't put to the master
pub unreported : (own : ℕ) (m : TreeMessage) (seat : SeatView) → ((epoch : ℕ) (last : Option ℕ) → m ≡ message.Have epoch last → ⊥)
    → ((epoch : ℕ) → m ≡ message.Joined epoch → ⊥) → (m ≡ message.Gone → ⊥) → ArePut own ((Master, m) ∷ []) seat seat
unreported own (message.Have epoch last) seat have joined gone = absurd (have epoch last refl)
unreported own (message.Joined epoch) seat have joined gone = absurd (joined epoch refl)
unreported own message.Gone seat have joined gone = absurd (gone refl)
unreported own m seat have joined gone =
    reported own m seat seat.reports seat.has_state (sym (append-nil seat.reports)) (sym (or-none seat.has_state))

linked : (p q : Process) → is_link p q ≡ true → p ≡ q
linked Master q e = absurd cc
linked (Server s) Master e = absurd cc
linked (Server s) (Server t) e = ap Server (eqb-true s t e)
linked (Server s) (Client d) e = absurd cc
linked (Client c) Master e = absurd cc
linked (Client c) (Server t) e = absurd cc
linked (Client c) (Client d) e = ap Client (eqb-true c d e)

apart : (p q : Process) → is_link q q ≡ true → is_link p q ≡ false → p ≢ q
apart p q self other same = absurd (let both : true ≡ false = sym self ∙ ap (λ (r : Process). is_link r q) (sym same) ∙ other in cc)

queued_for : (to : Process) (m : TreeMessage) (old new : OutgoingView) → is_link to to ≡ true
    → waiting_for new to ≡ waiting_for old to ++ fresh m ∷ [] → OthersWait old new to
    → (p : Process) → waiting_for new p ≡ waiting_for old p ++ map fresh (cond (is_link p to) (m ∷ []) [] ++ [])
queued_for to m old new self waits others p = elim (test (is_link p to)) [
  | inl same ↦ rw same (rw (linked p to same) waits)
  | inr other ↦ rw other (others p (apart p to self other) ∙ sym (append-nil (waiting_for old p)))
]

-- a message to another process waits
put_link : (own : ℕ) (to : Process) (m : TreeMessage) (old : SeatView) (new : OutgoingView) → is_link to to ≡ true
    → waiting_for new to ≡ waiting_for old.outgoing to ++ fresh m ∷ [] → OthersWait old.outgoing new to
    → ArePut own ((to, m) ∷ []) old (record old { outgoing = new })
put_link own Master m old new self waits others = absurd cc
put_link own (Server s) m old new self waits others = record {
  standing = refl;
  state = sym (or-none old.has_state);
  reports = sym (append-nil old.reports);
  queued = queued_for (Server s) m old.outgoing new self waits others;
}
put_link own (Client c) m old new self waits others = record {
  standing = refl;
  state = sym (or-none old.has_state);
  reports = sym (append-nil old.reports);
  queued = queued_for (Client c) m old.outgoing new self waits others;
}

linked_self : (to : Process) → ((s : ℕ) × (to ≡ Server s)) ⊎ ((c : ℕ) × (to ≡ Client c)) → is_link to to ≡ true
linked_self Master why = absurd (elim why [ inl s ↦ (let e = s.1 in cc) | inr c ↦ (let e = c.1 in cc) ])
linked_self (Server s) why = grind arith
linked_self (Client c) why = grind arith

-- if memory didn't run out
pub link_put : {E : Type 0} (result : Result (Unit {0}) E) (own : ℕ) (to : Process) (m : TreeMessage) (seat now : SeatView) (new : OutgoingView)
    → ((s : ℕ) × (to ≡ Server s)) ⊎ ((c : ℕ) × (to ≡ Client c)) → seat ≡ now
    → OnOk result (waiting_for new to ≡ waiting_for seat.outgoing to ++ fresh m ∷ []) → OthersWait seat.outgoing new to
    → OnOk result (ArePut own ((to, m) ∷ []) now (record seat { outgoing = new }))
link_put (Ok done) own to m seat now new why view waits others =
    subst (λ (s : SeatView). ArePut own ((to, m) ∷ []) s (record seat { outgoing = new })) view
    (put_link own to m seat new (linked_self to why) waits others)
link_put (Err error) own to m seat now new why view waits others = tt
