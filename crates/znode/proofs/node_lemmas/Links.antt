-- What comes by links, and what is sent by them.
use Rattle.std.proofs.Common.{◌≡◌, ◌≢◌, ℕ, ◌==◌, true, false, List, [], ◌∷◌, ◌++◌, map, Option, refl, sym, ap, subst, ◌∙◌, append_assoc, arith}
use Rattle.std.specs.List.{flat_map}
use Rattle.std.proofs.lemmas.Bool.{eqb-true}
use Rattle.std.proofs.lemmas.List.{append-nil}
use Rattle.std.proofs.lemmas.List.Concat.{flat_map-append}
use Rattle.zprotocol.specs.declared.process.Process.{Process}
use Rattle.zprotocol.specs.declared.process.Process.TheVariants.{Master, Server, Client}
use Rattle.zserver.specs.Server.{TreeMessage}
use Rattle.zactor.specs.Acting.{TreePost}
use Rattle.zpeers.specs.Records.{LinkRecord, records_of}
use Rattle.zpeers.specs.Incoming.{ArrivingView}
use Rattle.zpeers.specs.Outgoing.{OutgoingView, left_of, records_for, waiting_for}
use Rattle.znode.specs.pipe.Inputs.{InputView}
use Rattle.znode.specs.pipe.Outputs.{OutputView, Send, Append, Status, End}
use Rattle.znode.specs.Server.{AreQueued, fresh, puts_to}
use Rattle.znode.specs.Turns.{sent_for, sent_to}
use Rattle.znode.specs.Laws.{is_same, is_loss, Brings, Came, NeverLost}

-- ---- processes

pub same_is : (p q : Process) → is_same p q ≡ true → p ≡ q
same_is Master Master e = refl
same_is (Server s) (Server t) e = ap Server (eqb-true s t e)
same_is (Client c) (Client d) e = ap Client (eqb-true c d e)
same_is Master (Server t) e = absurd cc
same_is Master (Client d) e = absurd cc
same_is (Server s) Master e = absurd cc
same_is (Server s) (Client d) e = absurd cc
same_is (Client c) Master e = absurd cc
same_is (Client c) (Server t) e = absurd cc

eqb-self : (n : ℕ) → (n == n) ≡ true
eqb-self n = grind arith

pub same-self : (p : Process) → is_same p p ≡ true
same-self Master = refl
same-self (Server s) = eqb-self s
same-self (Client c) = eqb-self c

pub other_is : (p q : Process) → is_same p q ≡ false → p ≢ q
other_is p q e same = absurd (let both : true ≡ false = sym (same-self p) ∙ ap (is_same p) same ∙ e in cc)

-- ---- what comes

pub came_more : (own : ℕ) (p : Process) (inputs : List InputView) (it : InputView) (old middle new : Option ArrivingView) (a b : List TreeMessage)
    → Came own p inputs old a middle → Brings own p it middle b new → Came own p (inputs ++ it ∷ []) old (a ++ b) new
came_more own p [] it old middle new a b came brings =
    let now : Brings own p it old b new = subst (λ (x : Option ArrivingView). Brings own p it x b new) came.0 brings in
    subst (λ (l : List TreeMessage). Came own p (it ∷ []) old (l ++ b) new) (sym came.1)
    (b, new, [], now, (refl, refl), sym (append-nil b))
came_more own p (x ∷ inputs) it old middle new a b came brings = (
  came.0,
  came.1,
  came.2 ++ b,
  came.3,
  came_more own p inputs it came.1 middle new came.2 b came.4 brings,
  ap (λ (l : List TreeMessage). l ++ b) came.5 ∙ append_assoc came.0 came.2 b,
)

pub lost_first : (p : Process) (inputs : List InputView) (it : InputView) → NeverLost p (inputs ++ it ∷ []) → NeverLost p inputs
lost_first p [] it never = tt
lost_first p (x ∷ inputs) it never = (never.0, lost_first p inputs it never.1)

pub lost_last : (p : Process) (inputs : List InputView) (it : InputView) → NeverLost p (inputs ++ it ∷ []) → is_loss p it ≡ false
lost_last p [] it never = never.0
lost_last p (x ∷ inputs) it never = lost_last p inputs it never.1

-- ---- what is sent

pub sent-both : (p : Process) (a b : List OutputView) → sent_to p (a ++ b) ≡ sent_to p a ++ sent_to p b
sent-both p [] b = refl
sent-both p (Send to r ∷ a) b =
    ap (λ (l : List LinkRecord). sent_for p to r ++ l) (sent-both p a b)
    ∙ sym (append_assoc (sent_for p to r) (sent_to p a) (sent_to p b))
sent-both p (Append index bytes ∷ a) b = sent-both p a b
sent-both p (Status own flags ∷ a) b = sent-both p a b
sent-both p (End more ∷ a) b = sent-both p a b

-- nothing of a fresh message was written
left-fresh : (own p : Process) (messages : List TreeMessage)
    → flat_map (left_of own p) (map fresh messages) ≡ flat_map (records_of own p) messages
left-fresh own p [] = refl
left-fresh own p (m ∷ messages) = ap (λ (l : List LinkRecord). records_of own p m ++ l) (left-fresh own p messages)

-- the records of what is put come after all that wait
pub records-put : (own p : Process) (posts : List TreePost) (old new : OutgoingView) → AreQueued posts old new
    → records_for new own p ≡ records_for old own p ++ flat_map (records_of own p) (puts_to p posts)
records-put own p posts old new queued =
    ap (flat_map (left_of own p)) (queued p)
    ∙ flat_map-append (left_of own p) (waiting_for old p) (map fresh (puts_to p posts))
    ∙ ap (λ (l : List LinkRecord). records_for old own p ++ l) (left-fresh own p (puts_to p posts))
