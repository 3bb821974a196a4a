-- What is in flight to a server: more of it, what of it doesn't count, and that logs only grow by
-- it.
use Rattle.std.proofs.Common.{◌≡◌, ℕ, ◌+◌, nat_lt, ◌==◌, List, [], ◌∷◌, ◌++◌, length, Some, None, refl, sym, ap, ◌∙◌}
use Rattle.std.proofs.Common.{subst, inl, inr, append_assoc, arith, eqb-true}
use Rattle.zcalls.specs.declared.call.Entry.{Entry}
use Rattle.zcalls.proofs.Among.{test}
use Rattle.zprotocol.specs.declared.limits.TheConstants.{MAX_LOG_NUMBER}
use Rattle.zprotocol.specs.declared.message.Message.TheVariants as message
use Rattle.zlinearizability.specs.legal.Prefix.{IsPrefix, IsEntry}
use Rattle.zlinearizability.proofs.legal_lemmas.lists.Prefixes.{prefix_same, prefix_of, prefix_append, same_fronts}
use Rattle.zlinearizability.specs.chain.Flow.{Log, LogMessage, with_entry, log_with_message, flow, snapshot_of, or_else, first_snapshot}

-- more messages
pub flow_more : (k : ℕ) (log : Log) (ms more : List LogMessage) → flow k log (ms ++ more) ≡ flow k (flow k log ms) more
flow_more k log [] more = refl
flow_more k log (m ∷ ms) more = flow_more k (log_with_message k log m) ms more

first_more_of : (now later more : Log) → or_else (or_else now later) more ≡ or_else now (or_else later more)
first_more_of None later more = refl
first_more_of (Some log) later more = refl

-- the first log of more messages
pub first_more : (k : ℕ) (ms more : List LogMessage) → first_snapshot k (ms ++ more) ≡ or_else (first_snapshot k ms) (first_snapshot k more)
first_more k [] more = refl
first_more k (m ∷ ms) more = ap (or_else (snapshot_of k m)) (first_more k ms more)
    ∙ sym (first_more_of (snapshot_of k m) (first_snapshot k ms) (first_snapshot k more))

-- a message that doesn't count in an epoch
abbrev pub IsForeign : ℕ → LogMessage → Type 0
IsForeign k m = ((log : Log) → log_with_message k log m ≡ log) × (snapshot_of k m ≡ None)

abbrev pub AreForeign : ℕ → List LogMessage → Type 0
AreForeign k [] = Unit {0}
AreForeign k (m ∷ ms) = IsForeign k m × AreForeign k ms

-- messages that don't count leave the log
pub flow_foreign : (k : ℕ) (log : Log) (ms : List LogMessage) → AreForeign k ms → flow k log ms ≡ log
flow_foreign k log [] h = refl
flow_foreign k log (m ∷ ms) h = ap (λ l. flow k l ms) (h.0.0 log) ∙ flow_foreign k log ms h.1

-- and show none
pub first_foreign : (k : ℕ) (ms : List LogMessage) → AreForeign k ms → first_snapshot k ms ≡ None
first_foreign k [] h = refl
first_foreign k (m ∷ ms) h = ap (λ l. or_else l (first_snapshot k ms)) h.0.1 ∙ first_foreign k ms h.1

-- the one begins the other, or neither is there
abbrev pub IsBelow : Log → Log → Type 0
IsBelow None None = Unit {0}
IsBelow (Some old) (Some new) = IsPrefix old new
IsBelow old new = ⊥

-- an entry makes a log longer, if anything
pub grown_begins : (log : List Entry) (n : ℕ) (e : Entry) → IsPrefix log (with_entry log n e)
grown_begins log n e = elim (test (n == length log + 1)) [
  | inl t ↦ rw t (elim (test (nat_lt (length log) MAX_LOG_NUMBER)) [ inl r ↦ rw r (prefix_append log (e ∷ [])) | inr f ↦ rw f (prefix_same log) ])
  | inr f ↦ rw f (prefix_same log)
]

-- what is there stays, and grows
abbrev pub Grows : List Entry → Log → Type 0
Grows log new = (more : List Entry) × (new ≡ Some more) × IsPrefix log more

-- a message makes a log longer, if anything
pub flowed_grows : (k : ℕ) (log : List Entry) (m : LogMessage) → Grows log (log_with_message k (Some log) m)
flowed_grows k log (message.Update epoch n e) = elim (test (k == epoch)) [
  | inl t ↦ rw t (with_entry log n e, refl, grown_begins log n e)
  | inr f ↦ rw f (log, refl, prefix_same log)
]
flowed_grows k log (message.Snapshot epoch transfer) = elim (test (k == epoch)) [
  | inl t ↦ rw t (log, refl, prefix_same log)
  | inr f ↦ rw f (log, refl, prefix_same log)
]
flowed_grows k log m = (log, refl, prefix_same log)

-- where there is no log, a whole one is the first
pub flowed_first : (k : ℕ) (m : LogMessage) → log_with_message k None m ≡ snapshot_of k m
flowed_first k (message.Update epoch n e) = elim (test (k == epoch)) [ inl t ↦ rw t refl | inr f ↦ rw f refl ]
flowed_first k (message.Snapshot epoch transfer) = refl
flowed_first k m = refl

below_of : (log more : List Entry) (new : Log) → IsPrefix log more → IsBelow (Some more) new → IsBelow (Some log) new
below_of log more None p h = h
below_of log more (Some new) p h = prefix_of log more new p h

-- the first log that is shown begins the one that flows
pub flow_below : (k : ℕ) (log : Log) (ms : List LogMessage) → IsBelow (or_else log (first_snapshot k ms)) (flow k log ms)
flow_below k None [] = tt
flow_below k (Some log) [] = prefix_same log
flow_below k None (m ∷ ms) =
    subst (λ l. IsBelow (or_else l (first_snapshot k ms)) (flow k (log_with_message k None m) ms)) (flowed_first k m)
    (flow_below k (log_with_message k None m) ms)
flow_below k (Some log) (m ∷ ms) =
    let grows = flowed_grows k log m in
    below_of log grows.0 (flow k (log_with_message k (Some log) m) ms) grows.2
    (subst (λ l. IsBelow (or_else l (first_snapshot k ms)) (flow k (log_with_message k (Some log) m) ms)) grows.1
    (flow_below k (log_with_message k (Some log) m) ms))

-- the next entry of a longer log continues in it
pub entry_goes_on : (log more : List Entry) (n : ℕ) (e : Entry) → IsPrefix log more → IsEntry more n e → n ≡ length log + 1
    → IsPrefix (log ++ e ∷ []) more
entry_goes_on log more n e p entry is =
    let same = same_fronts log entry.0 p.0 (e ∷ entry.1) (sym p.1 ∙ entry.2) (let l : n ≡ length entry.0 + 1 = entry.3 in omega arith) in
    (entry.1, entry.2 ∙ ap (λ l. l ++ e ∷ entry.1) (sym same.0) ∙ sym (append_assoc log (e ∷ []) entry.1))

-- an update that names an entry of a longer log keeps what flows below that log
pub good_update : (k epoch : ℕ) (log more : List Entry) (n : ℕ) (e : Entry) → IsPrefix log more → IsEntry more n e
    → (new : List Entry) × (log_with_message k (Some log) (message.Update epoch n e) ≡ Some new) × IsPrefix new more
good_update k epoch log more n e p entry = elim (test (k == epoch)) [
  | inl t ↦ rw t (elim (test (n == length log + 1)) [
    | inl s ↦ rw s (elim (test (nat_lt (length log) MAX_LOG_NUMBER)) [
      | inl r ↦ rw r (log ++ e ∷ [], refl, entry_goes_on log more n e p entry (eqb-true _ _ s))
      | inr f ↦ rw f (log, refl, p)
    ])
    | inr f ↦ rw f (log, refl, p)
  ])
  | inr f ↦ rw f (log, refl, p)
]
