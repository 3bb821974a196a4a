-- The queue of one receiver is changed.
use Rattle.std.proofs.Common.{◌≡◌, ℕ, ◌<◌, List, [], ◌∷◌, ◌++◌, length, get_or, set, Result, Ok, Err, sym, ap, ◌∙◌, append-nil}
use Rattle.std.specs.Prelude.{IfOk, IfErr, OnOk, OnErr}
use Rattle.std.specs.List.{flat_map}
use Rattle.std.proofs.lemmas.Grind.{flat_map-append}
use Rattle.zprotocol.specs.declared.limits.TheConstants.{PROCESSES}
use Rattle.zprotocol.specs.declared.process.Process.{Process}
use Rattle.zprotocol.specs.Places.{place_of}
use Rattle.zserver.specs.Server.{TreeMessage}
use Rattle.zpeers.specs.Records.{LinkRecord, records_of}
use Rattle.zpeers.specs.Outgoing.{OutgoingView, WaitingView, waiting_for, left_of, records_for, OthersWait, IsWritten}
use Rattle.zpeers.specs.support.Waiting.{IsQueueWritten}
use Rattle.zpeers.proofs.Receivers.{read_is, new_is, others_are}

pub on_ok : {A E : Type 0} (r : Result A E) (P Q : Type 0) → OnOk r P → (P → Q) → OnOk r Q
on_ok (Ok x) P Q p so = so p
on_ok (Err e) P Q p so = tt

pub on_err : {A E : Type 0} (r : Result A E) (P Q : Type 0) → OnErr r P → (P → Q) → OnErr r Q
on_err (Ok x) P Q p so = tt
on_err (Err e) P Q p so = so p

pub if_ok : {A E : Type 0} (r : Result A E) (P Q : A → Type 0) → IfOk r P → ((x : A) → P x → Q x) → IfOk r Q
if_ok (Ok x) P Q p so = so x p
if_ok (Err e) P Q p so = tt

pub if_err : {A E : Type 0} (r : Result A E) (P Q : E → Type 0) → IfErr r P → ((e : E) → P e → Q e) → IfErr r Q
if_err (Ok x) P Q p so = tt
if_err (Err e) P Q p so = so e p

abbrev pub view_of : List (List WaitingView) → OutgoingView
view_of queues = record { queues = queues }

-- the records of a message come after those that wait
pub records_after : (old new : OutgoingView) (own to : Process) (m : TreeMessage)
    → waiting_for new to ≡ waiting_for old to ++ record { message = m; written = 0 } ∷ []
    → records_for new own to ≡ records_for old own to ++ records_of own to m
records_after old new own to m waits =
    ap (flat_map (left_of own to)) waits
    ∙ flat_map-append (left_of own to) (waiting_for old to) (record { message = m; written = 0 } ∷ [])
    ∙ ap (λ (l : List LinkRecord). records_for old own to ++ l) (append-nil (records_of own to m))

module _ (o : OutgoingView) (xs : List (List WaitingView)) (view : view_of xs ≡ o) (i : ℕ) (to : Process) (here : i ≡ place_of to)
    (inside : i < PROCESSES) (all : length xs ≡ PROCESSES) (q : List WaitingView) (read : q ≡ get_or xs i q) where
  pub waits : q ≡ waiting_for o to
  waits = read_is [] xs i to here inside all q read ∙ ap (λ (v : OutgoingView). waiting_for v to) view

  pub others_wait : (r : List WaitingView) → OthersWait o (view_of (set xs i r)) to
  others_wait r p other = others_are [] xs i to here inside all r p other ∙ ap (λ (v : OutgoingView). waiting_for v p) view

  pub put_last : (r : List WaitingView) (m : TreeMessage) → r ≡ q ++ record { message = m; written = 0 } ∷ []
      → waiting_for (view_of (set xs i r)) to ≡ waiting_for o to ++ record { message = m; written = 0 } ∷ []
  put_last r m put =
      new_is [] xs i to here inside all r ∙ put
      ∙ ap (λ (l : List WaitingView). l ++ record { message = m; written = 0 } ∷ []) waits

  pub is_written : (own : Process) (r : List WaitingView) (before after : List ℕ) → IsQueueWritten own to q r before after
      → IsWritten own to o (view_of (set xs i r)) before after
  is_written own r before after w = record {
    it = w.it;
    next = ap (flat_map (left_of own to)) (sym waits) ∙ w.next
        ∙ ap (λ (l : List LinkRecord). w.it ∷ l) (ap (flat_map (left_of own to)) (sym (new_is [] xs i to here inside all r)));
    bytes = w.bytes;
    fits = w.fits;
    others = others_wait r;
  }
