-- The items make a legal order of their history: all updates, and of the queries those that were answered.
use Rattle.std.proofs.Common.{◌≡◌, ◌⊎◌, ℕ, zero, suc, ◌+◌, ◌<◌, ◌≤◌, List, [], ◌∷◌, ◌++◌, refl, sym, ap, ◌∙◌, subst, inl, inr, true, map, take, arith}
use Rattle.zcalls.specs.declared.call.Call.{Call}
use Rattle.zcalls.specs.declared.call.Call.TheVariants.{Update, Query}
use Rattle.zcalls.specs.declared.reply.Reply.{Reply}
use Rattle.zcalls.specs.Lists.{Among, ComesBefore, NoTwo}
use Rattle.zcalls.specs.Operation.{AreOneUpdate, Operation, IsSameCall}
use Rattle.zcalls.specs.Cached.{Plain}
use Rattle.zprotocol.specs.declared.world.history.CallEvent.{CallEvent}
use Rattle.zprotocol.specs.declared.world.history.CallEvent.TheVariants.{Begin, Answer}
use Rattle.zprotocol.specs.world.History.{History, IsUpdate, HasBegun, IsAnswered, EndsBefore}
use Rattle.zprotocol.specs.world.LegalOrder.{operation_step, IsReplayed, IsLegalOrder, replies_from}
use Rattle.zprotocol.specs.world.PlainTree.{service_of}
use Rattle.zlinearizability.specs.legal.Items.{Item, is_update, updates_of, Replays, IsItemOf, IsGiven, IsGivenBy, IsAnsweredBy}
use Rattle.zlinearizability.specs.legal.Items.{AreAnsweredInTime, IsSameEvent, TimesRise, AreBegunInTime, EventsDiffer}
use Rattle.zlinearizability.proofs.legal_lemmas.lists.Members.{among_mid, among_insert, among_inserted, among_take}
use Rattle.zlinearizability.proofs.legal_lemmas.lists.Places.{before_second}
use Rattle.zlinearizability.proofs.legal_lemmas.lists.Distinct.{no_two_insert, only_one, no_two_map, no_two_of_map}
use Rattle.zlinearizability.proofs.legal_lemmas.order.KeptItems.{Keeps, keep_one, keep_updates, kept_among, kept_replays}
use Rattle.zlinearizability.proofs.legal_lemmas.order.KeptItems.{kept_rises, earlier_is_first, replayed, states_lawful}
use Rattle.zlinearizability.proofs.legal_lemmas.order.KeptItems.{operation_among, operations_before}
use Rattle.zlinearizability.proofs.legal_lemmas.order.KeptItems.KeepsOne.{Already, Put}

-- two items are of one call
abbrev pub AreOneCall : Item → Item → Type 0
AreOneCall i j = IsSameCall i.operation j.operation

-- the call of a number that began is one call
pub one_call : (h : History) → EventsDiffer h → (a b : Operation) → HasBegun h a → HasBegun h b → IsSameCall a b → a.call ≡ b.call
one_call h once a b x y same =
    let is = only_one IsSameEvent h once (Begin a.client a.number a.call) (Begin b.client b.number b.call) x y same (sym same.0, sym same.1) in cc

-- more items answer no less
answered_by_more : (is js : List Item) → ((i : Item) → Among i is → Among i js) → (k : ℕ) (e : CallEvent) → IsAnsweredBy is k e → IsAnsweredBy js k e
answered_by_more is js more k (Begin c n call) h = tt
answered_by_more is js more k (Answer c n r) h = (h.0, more h.0 h.1, h.2, h.3)

-- answers that were in time are so with more items
pub in_time_more : (is js : List Item) → ((i : Item) → Among i is → Among i js) → (k : ℕ) (h : History) → AreAnsweredInTime is k h
    → AreAnsweredInTime js k h
in_time_more is js more k [] t = tt
in_time_more is js more k (e ∷ h) t = (answered_by_more is js more k e t.0, in_time_more is js more (k + 1) h t.1)

-- the item of an answer
pub given : (is : List Item) (k : ℕ) (h : History) → AreAnsweredInTime is k h → (c n : ℕ) (r : Reply) → Among (Answer c n r) h → IsGiven is c n r
given is k [] t c n r a = absurd a
given is k (e ∷ h) t c n r (inl f) = let m : IsAnsweredBy is k (Answer c n r) = subst (IsAnsweredBy is k) f t.0 in (m.0, m.1, m.2)
given is k (e ∷ h) t c n r (inr a) = given is (k + 1) h t.1 c n r a

-- the item of an answer is earlier than that of a call that begins after it
earlier : (is : List Item) (k : ℕ) (h : History) → AreAnsweredInTime is k h → EventsDiffer h → (c n : ℕ) (r : Reply) (o : Operation) (t : ℕ)
    → ComesBefore (Answer c n r) (Begin o.client o.number o.call) h → HasBegun (take t h) o
    → (i : Item) × Among i is × IsItemOf c n r i × (i.time < k + t)
earlier is k [] in_time once c n r o t before begun = absurd before
earlier is k (e ∷ h) in_time once c n r o zero before begun = absurd begun
earlier is k (e ∷ h) in_time once c n r o (suc t) (inl p) begun =
    let m : IsAnsweredBy is k (Answer c n r) = subst (IsAnsweredBy is k) p.0 in_time.0 in
    let le : m.0.time ≤ k = m.3 in
    (m.0, m.1, m.2, omega arith)
earlier is k (e ∷ h) in_time once c n r o (suc t) (inr p) (inl f) =
    absurd (once.0 (Begin o.client o.number o.call) (before_second _ _ h p)
    (subst (λ x. IsSameEvent x (Begin o.client o.number o.call)) (sym f) (refl, refl)))
earlier is k (e ∷ h) in_time once c n r o (suc t) (inr p) (inr b) =
    let m = earlier is (k + 1) h in_time.1 once.1 c n r o t p b in
    let lt : m.0.time < (k + 1) + t = m.3 in
    (m.0, m.1, m.2, omega arith)

-- What is retained for some of the answers.
record Chosen (items : List Item) (k : ℕ) (answers : History) : Type 0 where
  pub kept : List Item
  pub keeps : Keeps items kept
  pub once : NoTwo AreOneCall kept
  pub in_time : AreAnsweredInTime kept k answers
  pub either : (i : Item) → Among i kept → (is_update i.operation.call ≡ true)
      ⊎ ((r : Reply) × Among (Answer i.operation.client i.operation.number r) answers)

module _ (items : List Item) (one : (i j : Item) → Among i items → Among j items → AreOneCall i j → i.operation.call ≡ j.operation.call) where
  choose_one : (k : ℕ) (c n : ℕ) (r : Reply) (h : History) → ((e : CallEvent) → Among e h → IsSameEvent (Answer c n r) e → ⊥)
      → IsGivenBy items k c n r → Chosen items (k + 1) h → Chosen items k (Answer c n r ∷ h)
  choose_one k c n r h fresh (i, among, is, le) chosen = elim (keep_one items chosen.kept chosen.keeps i among) [
    | Already a ↦ record {
      kept = chosen.kept;
      keeps = chosen.keeps;
      once = chosen.once;
      in_time = ((i, a, is, le), chosen.in_time);
      either = λ j b. elim (chosen.either j b) [ inl u ↦ inl u | inr s ↦ inr (s.0, inr s.1) ];
    }
    | Put before after e query keeps ↦
        let not_there : (j : Item) → Among j (before ++ after) → AreOneCall j i → ⊥ = λ j b same.
        let there : Among j chosen.kept = subst (Among j) (sym e) b in
        elim (chosen.either j there) [
          | inl u ↦ let call : j.operation.call ≡ i.operation.call = one j i (kept_among items chosen.kept chosen.keeps j there) among same in
              let u' : is_update i.operation.call ≡ true = subst (λ w. is_update w ≡ true) call u in cc
          | inr s ↦ fresh (Answer j.operation.client j.operation.number s.0) s.1 (sym is.0 ∙ sym same.0, sym is.1 ∙ sym same.1)
        ] in
        record {
          kept = before ++ i ∷ after;
          keeps = keeps;
          once = no_two_insert AreOneCall i before after not_there (λ j b same. not_there j b (sym same.0, sym same.1))
              (subst (NoTwo AreOneCall) e chosen.once);
          in_time = (
            (i, among_mid i before after, is, le),
            in_time_more chosen.kept (before ++ i ∷ after) (λ j b. among_insert j i before after (subst (Among j) e b)) (k + 1) h chosen.in_time,
          );
          either = λ j b. opened j before after e b;
        }
  ]
    where
      opened : (j : Item) (before after : List Item) → chosen.kept ≡ before ++ after → Among j (before ++ i ∷ after)
          → (is_update j.operation.call ≡ true) ⊎ ((s : Reply) × Among (Answer j.operation.client j.operation.number s) (Answer c n r ∷ h))
      opened j before after e b = elim (among_inserted j i before after b) [
        | inl f ↦ inr (r, inl (λ t. Answer ((sym is.0 ∙ ap (λ m. m.operation.client) f) t) ((sym is.1 ∙ ap (λ m. m.operation.number) f) t) r))
        | inr old ↦ elim (chosen.either j (subst (Among j) (sym e) old)) [ inl u ↦ inl u | inr s ↦ inr (s.0, inr s.1) ]
      ]

  choose : (k : ℕ) (h : History) → AreAnsweredInTime items k h → EventsDiffer h → NoTwo AreOneCall (keep_updates items).kept → Chosen items k h
  choose k [] in_time once updates = let all = keep_updates items in
      record { kept = all.kept; keeps = all.keeps; once = updates; in_time = tt; either = λ i a. inl (all.only i a) }
  choose k (Begin c n call ∷ h) in_time once updates = let chosen = choose (k + 1) h in_time.1 once.1 updates in
      record {
        kept = chosen.kept;
        keeps = chosen.keeps;
        once = chosen.once;
        in_time = (tt, chosen.in_time);
        either = λ i a.
            elim (chosen.either i a) [ inl u ↦ inl u | inr s ↦ inr (s.0, inr s.1) ];
      }
  choose k (Answer c n r ∷ h) in_time once updates = choose_one k c n r h once.0 in_time.0 (choose (k + 1) h in_time.1 once.1 updates)

update_of : (call : Call) → is_update call ≡ true → IsUpdate call
update_of (Update u) e = tt
update_of (Query q) e = cc

-- The calls that are retained, in order.
abbrev order_of : List Item → List Operation
order_of kept = map (λ i. i.operation) kept

module _ {P : Type 0} (Lawful : P → Type 0) (plain : Plain P) (history : History) (kept : List Item)
    (begun : AreBegunInTime history kept) (rise : TimesRise kept) (in_time : AreAnsweredInTime kept 0 history) (once : EventsDiffer history)
    (apart : NoTwo AreOneCall kept) (replays : Replays (service_of plain) plain.opening kept) where
  has_begun : (o : Operation) → Among o (order_of kept) → HasBegun history o
  has_begun o a = let m = operation_among kept o a in subst (HasBegun history) m.2 (among_take m.0.time history _ (begun m.0 m.1).1)

  is_replayed : (c n : ℕ) (r : Reply) → Among (Answer c n r) history → IsReplayed (service_of plain) (order_of kept) c n r
  is_replayed c n r a =
      let m = given kept 0 history in_time c n r a in (
        m.0.operation,
        m.2.0,
        m.2.1,
        subst (λ s. Among (m.0.operation, s) (replies_from (service_of plain) plain.opening (order_of kept))) m.2.2
            (replayed (service_of plain) plain.opening kept replays m.0 m.1),
      )

  -- an item of a call that ended before another began is first
  stands_first : (i j : Item) → Among i kept → Among j kept → EndsBefore history i.operation j.operation → ComesBefore i j kept
  stands_first i j a b ends =
      let o = i.operation in
      let m = earlier kept 0 history in_time once o.client o.number ends.0 j.operation j.time ends.1 (begun j b).1 in
      let same : m.0 ≡ i = only_one AreOneCall kept apart m.0 i m.1 a (m.2.0, m.2.1) (sym m.2.0, sym m.2.1) in
      let is : m.0.time < 0 + j.time = m.3 in
      earlier_is_first kept rise i j a b (subst (λ k. k.time < j.time) same (omega arith))

  comes_first : (a b : Operation) → EndsBefore history a b → Among a (order_of kept) → Among b (order_of kept) → ComesBefore a b (order_of kept)
  comes_first a b ends x y =
      let i = operation_among kept a x in
      let j = operation_among kept b y in
      let ends' : EndsBefore history i.0.operation j.0.operation =
      subst (λ p. EndsBefore history p j.0.operation) (sym i.2) (subst (λ p. EndsBefore history a p) (sym j.2) ends) in
      let first = operations_before kept i.0 j.0 (stands_first i.0 j.0 i.1 j.1 ends') in
      subst (λ p. ComesBefore p b (order_of kept)) i.2 (subst (λ p. ComesBefore i.0.operation p (order_of kept)) j.2 first)

  orders : ((i : Item) → Among i kept → (is_update i.operation.call ≡ true) ⊎ IsAnswered history i.operation)
      → Lawful plain.opening → ((p : P) (o : Operation) → Lawful p → Lawful (operation_step (service_of plain) p o).0)
      → IsLegalOrder Lawful (service_of plain) history (order_of kept)
  orders either opened keeps = record {
    begun = has_begun;
    once = no_two_map (λ (i : Item). i.operation) IsSameCall kept apart;
    answered = is_replayed;
    unanswered = λ o a. let m = operation_among kept o a in
        subst (λ p. IsUpdate p.call ⊎ IsAnswered history p) m.2
        (elim (either m.0 m.1) [ inl u ↦ inl (update_of m.0.operation.call u) | inr s ↦ inr s ]);
    in_time = comes_first;
    lawful = states_lawful Lawful (service_of plain) keeps plain.opening (order_of kept) opened;
  }

-- The items make a legal order.
module _ {P : Type 0} (Lawful : P → Type 0) (plain : Plain P) where
  of_chosen : (history : History) (items : List Item)
      → Lawful plain.opening → ((p : P) (o : Operation) → Lawful p → Lawful (operation_step (service_of plain) p o).0)
      → Replays (service_of plain) plain.opening items → TimesRise items → AreBegunInTime history items → EventsDiffer history
      → Chosen items 0 history → (order : List Operation) × IsLegalOrder Lawful (service_of plain) history order
  of_chosen history items opened keeps replays rise begun once chosen =
      let kept = chosen.kept in (
        order_of kept,
        orders Lawful plain history kept
            (λ i a. begun i (kept_among items kept chosen.keeps i a)) (kept_rises items kept chosen.keeps rise) chosen.in_time once chosen.once
            (kept_replays plain items kept chosen.keeps plain.opening replays) chosen.either opened keeps,
      )

  -- the calls of what is retained are a legal order
  pub legal_order : (history : History) (items : List Item)
      → Lawful plain.opening → ((p : P) (o : Operation) → Lawful p → Lawful (operation_step (service_of plain) p o).0)
      → NoTwo AreOneUpdate (updates_of items)
      → Replays (service_of plain) plain.opening items → TimesRise items → AreBegunInTime history items
      → AreAnsweredInTime items 0 history → EventsDiffer history
      → (order : List Operation) × IsLegalOrder Lawful (service_of plain) history order
  legal_order history items opened keeps updates replays rise begun in_time once =
      let has_begun : (i : Item) → Among i items → HasBegun history i.operation = λ i a. among_take i.time history _ (begun i a).1 in
      let all = keep_updates items in
      of_chosen history items opened keeps replays rise begun once
      (choose items (λ i j a b same. one_call history once i.operation j.operation (has_begun i a) (has_begun j b) same) 0 history in_time once
      (no_two_of_map (λ (i : Item). (i.operation, i.reply)) AreOneUpdate all.kept (subst (NoTwo AreOneUpdate) all.updates updates)))
