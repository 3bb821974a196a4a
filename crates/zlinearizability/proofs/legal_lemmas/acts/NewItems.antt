-- The committed log grows, and the items by what acts of it: they stay in order.
use Rattle.std.proofs.Common.{◌≡◌, ℕ, ◌≤◌, List, [], ◌∷◌, ◌++◌, length, take, drop, Option, refl, sym, ap, ◌∙◌, subst, inl, inr, arith}
use Rattle.zcalls.specs.declared.call.Entry.{Entry}
use Rattle.zcalls.specs.declared.reply.Reply.{Reply}
use Rattle.zcalls.specs.Cached.{CachedState, nothing_cached, entry_step, Plain}
use Rattle.zcalls.specs.Lists.{Among}
use Rattle.zcalls.specs.Operation.{Operation, operation_of}
use Rattle.zcalls.specs.Acts.{after_log, acts_from}
use Rattle.zcalls.proofs.Among.{test, among_cases}
use Rattle.zcalls.proofs.Acting.{Outcome, outcome, acted_entry}
use Rattle.zcalls.proofs.Acting.Outcome.{Acts, Stays}
use Rattle.zprotocol.specs.world.History.{History, HasBegun}
use Rattle.zprotocol.specs.world.PlainTree.{service_of}
use Rattle.zlinearizability.specs.legal.Prefix.{IsPrefix}
use Rattle.zlinearizability.specs.legal.Items.{Item, at_time, all_at_time, is_update, updates_of, Replays, AreCommitted}
use Rattle.zlinearizability.specs.legal.Items.{TimesRise, AreBegunInTime, AreAnsweredInTime, AllBegun, new_items}
use Rattle.zlinearizability.proofs.legal_lemmas.lists.Members.{among_left, among_drop, among_whole}
use Rattle.zlinearizability.proofs.legal_lemmas.lists.Distinct.{pairwise_append}
use Rattle.zlinearizability.proofs.legal_lemmas.order.LegalOrders.{in_time_more}
use Rattle.zlinearizability.proofs.legal_lemmas.acts.ActedLogs.{after_items, after_calls, acted_begins, acted_replays, acted_leads, items_lead, replays_more}

-- the updates of a list that continues
pub updates_more : (xs ys : List Item) → updates_of (xs ++ ys) ≡ updates_of xs ++ updates_of ys
updates_more [] ys = refl
updates_more (i ∷ xs) ys = elim (test (is_update i.operation.call)) [
  | inl t ↦ rw t (ap (λ l. (i.operation, i.reply) ∷ l) (updates_more xs ys))
  | inr f ↦ rw f (updates_more xs ys)
]

-- an update of the list is that of an item
pub update_among : (is : List Item) (x : Operation × Reply) → Among x (updates_of is) → (i : Item) × Among i is × ((i.operation, i.reply) ≡ x)
update_among [] x a = absurd a
update_among (i ∷ is) x a = elim (test (is_update i.operation.call)) [
  | inl t ↦ first (update_among is x) (rw t at a)
  | inr f ↦ let m = update_among is x (rw f at a) in (m.0, inr m.1, m.2)
]
  where
    first : (Among x (updates_of is) → (j : Item) × Among j is × ((j.operation, j.reply) ≡ x)) → Among x ((i.operation, i.reply) ∷ updates_of is)
        → (j : Item) × Among j (i ∷ is) × ((j.operation, j.reply) ≡ x)
    first more (inl e) = (i, inl refl, e)
    first more (inr b) = let m = more b in (m.0, inr m.1, m.2)

-- what takes effect at one time
timed : (time : ℕ) (xs : List (Operation × Reply)) (i : Item) → Among i (all_at_time time xs)
    → (x : Operation × Reply) × Among x xs × (at_time time x ≡ i)
timed time [] i a = absurd a
timed time (x ∷ xs) i (inl e) = (x, inl refl, e)
timed time (x ∷ xs) i (inr a) = let m = timed time xs i a in (m.0, inr m.1, m.2)

timed_rises : (time : ℕ) (xs : List (Operation × Reply)) → TimesRise (all_at_time time xs)
timed_rises time [] = tt
timed_rises time (x ∷ xs) =
    (λ j a. let m = timed time xs j a in let is : time ≡ j.time = ap (λ k. k.time) m.2 in omega arith, timed_rises time xs)

module _ {P : Type 0} (plain : Plain P) where
  -- what acts is an update
  now_updates : (s : CachedState P) (e : Entry) (now : List (Operation × Reply)) (r : CachedState P × Option Reply) → Outcome plain.update s e now r
      → (time : ℕ) (more : List (Operation × Reply)) → updates_of (all_at_time time more) ≡ more
      → updates_of (all_at_time time (now ++ more)) ≡ now ++ more
  now_updates s e now r (Acts low) time more is = ap (λ l. (operation_of e, (plain.update s.plain e.client e.update).1) ∷ l) is
  now_updates s e now r (Stays high) time more is = is

  updates_acted : (time : ℕ) (s : CachedState P) (es : List Entry) → updates_of (all_at_time time (acts_from plain.update s es))
      ≡ acts_from plain.update s es
  updates_acted time s [] = refl
  updates_acted time s (e ∷ es) =
      let s' = (entry_step plain.update s e).0 in
      now_updates s e _ _ (outcome plain.update s e) time (acts_from plain.update s' es) (updates_acted time s' es)

  module _ (history : History) (old new : List Entry) (items : List Item) (longer : IsPrefix old new) (begun : AllBegun history new) where
    abbrev acts : List (Operation × Reply)
    acts = acts_from plain.update (after_log plain old) (drop (length old) new)

    abbrev more : List Item
    more = new_items plain (length history) old new

    -- the updates among the items are what acts of the longer log
    pub grown_committed : AreCommitted plain old items → AreCommitted plain new (items ++ more)
    grown_committed acted =
        updates_more items more ∙ (λ i. acted i ++ updates_acted (length history) (after_log plain old) (drop (length old) new) i)
        ∙ sym (acted_begins plain old new longer)

    leads : AreCommitted plain old items → after_items plain plain.opening items ≡ (after_log plain old).plain
    leads acted = items_lead plain plain.opening items ∙ ap (after_calls plain plain.opening) acted
        ∙ acted_leads plain (nothing_cached plain.opening) old

    -- the items replay
    pub grown_replays : AreCommitted plain old items → Replays (service_of plain) plain.opening items
        → Replays (service_of plain) plain.opening (items ++ more)
    grown_replays acted replays =
        replays_more plain plain.opening items more replays
        (subst (λ p. Replays (service_of plain) p more) (sym (leads acted))
        (acted_replays plain (length history) (after_log plain old) (drop (length old) new)))

    -- their times don't fall
    pub grown_rises : AreBegunInTime history items → TimesRise items → TimesRise (items ++ more)
    grown_rises in_time rising =
        pairwise_append (λ i j. i.time ≤ j.time) items more rising (timed_rises (length history) acts)
        (λ i j a b. let m = timed (length history) acts j b in let is : length history ≡ j.time = ap (λ k. k.time) m.2 in
        let low : i.time ≤ length history = (in_time i a).0 in omega arith)

    begun_now : (i : Item) → Among i more → (i.time ≤ length history) × HasBegun (take i.time history) i.operation
    begun_now i a =
        let m = timed (length history) acts i a in
        let e = acted_entry plain.update (after_log plain old) (drop (length old) new) m.0 m.1 in
        let now : HasBegun history (operation_of e.0) = begun e.0 (among_drop (length old) new e.0 e.1) in
        let whole : HasBegun (take (length history) history) m.0.0 = among_whole history _ (subst (HasBegun history) e.2 now) in
        subst (λ j. (j.time ≤ length history) × HasBegun (take j.time history) j.operation) m.2 (omega arith, whole)

    -- each is later than the beginning of its call
    pub grown_in_time : AreBegunInTime history items → AreBegunInTime history (items ++ more)
    grown_in_time in_time i a = elim (among_cases i items more a) [ inl b ↦ in_time i b | inr c ↦ begun_now i c ]

    -- and what was answered in time is so still
    pub grown_answered : AreAnsweredInTime items 0 history → AreAnsweredInTime (items ++ more) 0 history
    grown_answered answered = in_time_more items (items ++ more) (λ i a. among_left i items more a) 0 history answered
