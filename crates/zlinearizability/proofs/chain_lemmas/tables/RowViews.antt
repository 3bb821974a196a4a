-- What a row preserves of a view alone: Sent is of the log, logs are of calls that began, and who
-- is spare stays so.
use Rattle.std.proofs.Common.{◌≡◌, ℕ, ◌+◌, false, nat_lt, List, [], ◌∷◌, ◌++◌, length, Option, Some, None, refl, sym}
use Rattle.std.proofs.Common.{ap, ◌∙◌, subst, inl, inr, append_assoc}
use Rattle.zcalls.specs.declared.call.Entry.{Entry}
use Rattle.zcalls.specs.Lists.{Among}
use Rattle.zcalls.specs.Cached.{Plain}
use Rattle.zcalls.specs.Operation.{operation_of}
use Rattle.zcalls.proofs.Among.{test}
use Rattle.zprotocol.specs.declared.process.Process.{Process}
use Rattle.zprotocol.specs.declared.process.Process.TheVariants.{Master, Server}
use Rattle.zprotocol.specs.server.View.{ServerView, Neighbour, spare}
use Rattle.zprotocol.specs.server.Table.{ServerResult, entries_above}
use Rattle.zprotocol.specs.server.support.Cases.{IsAccepted, IsRow, Processes, Forwards, Ignores, Submits, Updates}
use Rattle.zprotocol.specs.server.support.Cases.{Asks, Acknowledges, Shows, Turns, Follows, Leads, Ends}
use Rattle.zprotocol.specs.world.History.{HasBegun}
use Rattle.zprotocol.specs.world.Links.{is_same}
use Rattle.zlinearizability.specs.legal.Prefix.{IsEntry}
use Rattle.zlinearizability.specs.legal.Items.{Item, AllBegun}
use Rattle.zlinearizability.proofs.legal_lemmas.lists.Members.{among_last}
use Rattle.zlinearizability.specs.chain.Flow.{log_machine, LogWorld, LogMessage, Log, length_of}
use Rattle.zlinearizability.specs.chain.Last.{HasExactLast}
use Rattle.zlinearizability.specs.chain.Messages.{IsJustified}

-- Sent is of the log
abbrev pub IsLogged : ServerView (List Entry) → Type 0
IsLogged v = (log : List Entry) (n : ℕ) (e : Entry) → v.machine ≡ Some log → Among (n, e) v.sent → IsEntry log n e

-- the log is of calls that began
abbrev pub HasBegunLog : LogWorld → ServerView (List Entry) → Type 0
HasBegunLog w v = (log : List Entry) → v.machine ≡ Some log → AllBegun w.history log

-- an entry of a log is one of a longer log
entry_stays : (log : List Entry) (n : ℕ) (e last : Entry) → IsEntry log n e → IsEntry (log ++ last ∷ []) n e
entry_stays log n e last h = (h.0, h.1 ++ last ∷ [], ap (λ l. l ++ last ∷ []) h.2 ∙ append_assoc h.0 (e ∷ h.1) (last ∷ []), h.3)

-- what is above a number was there
pub above_among : (n : ℕ) (sent : List (ℕ × Entry)) (x : ℕ × Entry) → Among x (entries_above n sent) → Among x sent
above_among n [] x a = absurd a
above_among n (s ∷ sent) x a = elim (test (nat_lt n s.0)) [
  | inl t ↦ first (above_among n sent x) (rw t at a)
  | inr f ↦ inr (above_among n sent x (rw f at a))
]
  where
    first : (Among x (entries_above n sent) → Among x sent) → Among x (s ∷ entries_above n sent) → Among x (s ∷ sent)
    first more (inl e) = inl e
    first more (inr b) = inr (more b)

module _ {P : Type 0} (plain : Plain P) where
  accepted_sent : (v : ServerView (List Entry)) (mine : List Entry) (n : ℕ) (e : Entry) (r : ServerResult (List Entry))
      → IsAccepted (log_machine plain) v mine n e r
      → v.machine ≡ Some mine → n ≡ length mine + 1 → IsLogged v → IsLogged r.0
  accepted_sent v mine n e r (Processes ends) has next h log k d is a =
      subst (λ l. IsEntry l k d) (cc is) (entry_stays mine k d e (h mine k d has a))
  accepted_sent v mine n e r (Forwards succ has_succ) has next h log k d is a =
      subst (λ l. IsEntry l k d) (cc is) (elim (among_last (k, d) v.sent (n, e) a) [
        | inl old ↦ entry_stays mine k d e (h mine k d has old)
        | inr same ↦ let number : n ≡ k = ap (λ (x : ℕ × Entry). x.0) same in
            subst (λ (x : ℕ × Entry). IsEntry (mine ++ e ∷ []) x.0 x.1) same (mine, [], refl, next)
      ])

  next_of : (v : ServerView (List Entry)) (mine : List Entry) → v.machine ≡ Some mine → HasExactLast v → v.last + 1 ≡ length mine + 1
  next_of v mine has exact = ap (λ l. l + 1) (exact ∙ ap length_of has)

  -- each row preserves that Sent is of the log
  pub row_sent : (v : ServerView (List Entry)) (from : Process) (m : LogMessage) (r : ServerResult (List Entry))
      → IsRow (log_machine plain) v from m r
      → HasExactLast v → IsLogged v → IsLogged r.0
  row_sent v from m r (Ignores from' m') exact h = h
  row_sent v from m r (Submits c number update mine r' has head room did) exact h =
      accepted_sent v mine (v.last + 1) (record { client = c; number = number; update = update }) r did has (next_of v mine has exact) h
  row_sent v from m r (Updates p epoch n e mine r' has pred next room did) exact h = accepted_sent v mine n e r did has
      (next ∙ next_of v mine has exact) h
  row_sent v from m r (Asks c number query mine has tail) exact h = h
  row_sent v from m r (Acknowledges t epoch n succ) exact h = λ log k d is a. h log k d is (above_among n v.sent (k, d) a)
  row_sent v from m r (Shows p epoch transfer none pred) exact h = λ log k d is a. absurd a
  row_sent v from m r (Turns epoch p) exact h = h
  row_sent v from m r (Follows epoch t last mine has) exact h = h
  row_sent v from m r (Leads epoch) exact h = h
  row_sent v from m r (Ends epoch) exact h = λ log k d is a. absurd a

  longer_begun : (w : LogWorld) (mine : List Entry) (e : Entry) → HasBegun w.history (operation_of e) → AllBegun w.history mine
      → AllBegun w.history (mine ++ e ∷ [])
  longer_begun w mine e begun h d a = elim (among_last d mine e a)
      [ inl old ↦ h d old | inr same ↦ subst (λ x. HasBegun w.history (operation_of x)) same begun ]

  accepted_begun : (w : LogWorld) (v : ServerView (List Entry)) (mine : List Entry) (n : ℕ) (e : Entry) (r : ServerResult (List Entry))
      → IsAccepted (log_machine plain) v mine n e r
      → v.machine ≡ Some mine → HasBegun w.history (operation_of e) → HasBegunLog w v → HasBegunLog w r.0
  accepted_begun w v mine n e r (Processes ends) has begun h log is = subst (AllBegun w.history) (cc is) (longer_begun w mine e begun (h mine has))
  accepted_begun w v mine n e r (Forwards succ has_succ) has begun h log is = subst (AllBegun w.history) (cc is)
      (longer_begun w mine e begun (h mine has))

  -- each row preserves that logs are of calls that began
  pub row_begun : (w : LogWorld) (items : List Item) (y : ℕ) (v : ServerView (List Entry)) (from : Process) (m : LogMessage)
      (r : ServerResult (List Entry))
      → IsRow (log_machine plain) v from m r → IsJustified w items from (Server y) m → HasBegunLog w v → HasBegunLog w r.0
  row_begun w items y v from m r (Ignores from' m') justified h = h
  row_begun w items y v from m r (Submits c number update mine r' has head room did) justified h =
      accepted_begun w v mine (v.last + 1) (record { client = c; number = number; update = update }) r did has justified h
  row_begun w items y v from m r (Updates p epoch n e mine r' has pred next room did) justified h = accepted_begun w v
      mine n e r did has justified.1 h
  row_begun w items y v from m r (Asks c number query mine has tail) justified h = h
  row_begun w items y v from m r (Acknowledges t epoch n succ) justified h = h
  row_begun w items y v from m r (Shows p epoch transfer none pred) justified h = λ log is. subst (AllBegun w.history) (cc is) justified.1
  row_begun w items y v from m r (Turns epoch p) justified h = h
  row_begun w items y v from m r (Follows epoch t last mine has) justified h = h
  row_begun w items y v from m r (Leads epoch) justified h = h
  row_begun w items y v from m r (Ends epoch) justified h = h

  no_log : (v : ServerView (List Entry)) → v ≡ spare → (log : List Entry) → v.machine ≡ Some log → ⊥
  no_log v blank log has = let is : ◌≡◌ {A = Log} None (Some log) = sym (ap (λ (u : ServerView (List Entry)). u.machine) blank) ∙ has in cc

  -- each row leaves a spare server as it is, but the master's
  pub row_blank : (v : ServerView (List Entry)) (from : Process) (m : LogMessage) (r : ServerResult (List Entry))
      → IsRow (log_machine plain) v from m r
      → is_same Master from ≡ false → v ≡ spare → r.0 ≡ spare
  row_blank v from m r (Ignores from' m') f blank = blank
  row_blank v from m r (Submits c number update mine r' has head room did) f blank = absurd (no_log v blank mine has)
  row_blank v from m r (Updates p epoch n e mine r' has pred next room did) f blank = absurd (no_log v blank mine has)
  row_blank v from m r (Asks c number query mine has tail) f blank = blank
  row_blank v from m r (Acknowledges t epoch n succ) f blank =
      let is : ◌≡◌ {A = Option Neighbour} None (Some (t, epoch)) = sym (ap (λ (u : ServerView (List Entry)). u.succ) blank) ∙ succ in absurd (cc is)
  row_blank v from m r (Shows p epoch transfer none pred) f blank =
      let is : ◌≡◌ {A = Option Neighbour} None (Some (p, epoch)) = sym (ap (λ (u : ServerView (List Entry)). u.pred) blank) ∙ pred in absurd (cc is)
  row_blank v from m r (Turns epoch p) f blank = cc
  row_blank v from m r (Follows epoch t last mine has) f blank = cc
  row_blank v from m r (Leads epoch) f blank = cc
  row_blank v from m r (Ends epoch) f blank = cc
