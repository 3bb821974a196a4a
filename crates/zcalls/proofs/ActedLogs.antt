-- What acted of a log has every reply that its entries are given.
use Rattle.std.proofs.Common.{◌≡◌, ◌⊎◌, ℕ, ◌≤◌, ◌==◌, List, [], ◌∷◌, ◌++◌, Option, Some, None, refl, sym, ap, ◌∙◌, inl, inr, append_assoc, eqb-true, arith}
use Rattle.std.specs.FinMap.{get, get-empty}
use Rattle.std.specs.Ordering.{nat_cmp}
use Rattle.zcalls.specs.declared.call.Entry.{Entry}
use Rattle.zcalls.specs.declared.reply.Reply.{Reply}
use Rattle.zcalls.specs.Cached.{Plain, PlainStep, Cached, CachedState, nothing_cached, last_of, act_result, entry_step, after_entries}
use Rattle.zcalls.specs.Lists.{Among, NoTwo}
use Rattle.zcalls.specs.Operation.{Operation, operation_of, AreOneUpdate}
use Rattle.zcalls.specs.Acts.{act_of, acts_from, acts_of, after_log}
use Rattle.zcalls.specs.CachedLaws.{last_number, KeptNumbersRise, RepliesAreOfActs, RepliesStayUntilTheNext, after_acts, OnlyActsCount, SameReplyEachTime}
use Rattle.zcalls.proofs.Among.{test}
use Rattle.zcalls.proofs.Acting.{kept_of, Outcome, outcome, kept_own, kept_other, rises, replied, acted_once, still_replied}
use Rattle.zcalls.proofs.Acting.Outcome.{Acts, Stays}

module _ {P : Type 0} (step : PlainStep P) where
  -- the state after more entries
  abbrev pub after : CachedState P → List Entry → CachedState P
  after s es = after_entries (entry_step step) s es

  -- more entries
  pub after_more : (s : CachedState P) (xs ys : List Entry) → after s (xs ++ ys) ≡ after (after s xs) ys
  after_more s [] ys = refl
  after_more s (e ∷ xs) ys = after_more (entry_step step s e).0 xs ys

  pub acted_more : (s : CachedState P) (xs ys : List Entry) → acts_from step s (xs ++ ys) ≡ acts_from step s xs ++ acts_from step (after s xs) ys
  acted_more s [] ys = refl
  acted_more s (e ∷ xs) ys =
      let s' = (entry_step step s e).0 in
      ap (λ l. act_of step s e ++ l) (acted_more s' xs ys) ∙ sym (append_assoc (act_of step s e) (acts_from step s' xs) (acts_from step (after s' xs) ys))

  -- a client's cached number never falls
  pub numbers_rise : KeptNumbersRise step
  numbers_rise s [] client = omega arith
  numbers_rise s (e ∷ es) client =
      let first = rises step s e _ _ (outcome step s e) client in
      let rest = numbers_rise (entry_step step s e).0 es client in
      omega (arith, first, rest)

  -- the cached reply of a client is that of a call that acted, or was there before
  abbrev pub IsKeptOf : CachedState P → List (Operation × Reply) → ℕ → Cached → Type 0
  IsKeptOf s acts c k = (get s.kept c ≡ Some k) ⊎ ((o : Operation) × (o.client ≡ c) × (o.number ≡ k.number) × Among (o, k.reply) acts)

  now_kept : (s : CachedState P) (e : Entry) (now : List (Operation × Reply)) (r : CachedState P × Option Reply) → Outcome step s e now r
      → (more : List (Operation × Reply)) (c : ℕ) (k : Cached) → IsKeptOf r.0 more c k → IsKeptOf s (now ++ more) c k
  now_kept s e now r (Acts low) more c k (inl has) = elim (test (c == e.client)) [
    | inl t ↦
        let same : c ≡ e.client = eqb-true _ _ t in
        let is : Some (kept_of step s e) ≡ Some k = sym (kept_own step s e) ∙ ap (get (act_result step s e).0.kept) (sym same) ∙ has in
        let own : kept_of step s e ≡ k = cc is in
        inr (operation_of e, sym same, ap (λ w. w.number) own, inl (λ i. (operation_of e, (own i).reply)))
    | inr f ↦ inl (sym (kept_other step s e c f) ∙ has)
  ]
  now_kept s e now r (Acts low) more c k (inr m) = inr (m.0, m.1, m.2, inr m.3)
  now_kept s e now r (Stays high) more c k h = h

  pub kept_is_acted : (s : CachedState P) (es : List Entry) (c : ℕ) (k : Cached) → get (after s es).kept c ≡ Some k → IsKeptOf s (acts_from step s es) c k
  kept_is_acted s [] c k has = inl has
  kept_is_acted s (e ∷ es) c k has =
      let s' = (entry_step step s e).0 in
      now_kept s e _ _ (outcome step s e) (acts_from step s' es) c k (kept_is_acted s' es c k has)

  -- what is cached of a client stays while nothing above it acts
  now_stays : (s : CachedState P) (e : Entry) (now : List (Operation × Reply)) (r : CachedState P × Option Reply) → Outcome step s e now r
      → (client : ℕ) (k : Cached) → get s.kept client ≡ Some k → last_number r.0 client ≤ k.number → get r.0.kept client ≡ Some k
  now_stays s e now r (Acts low) client k has few = elim (test (client == e.client)) [
    | inl t ↦
        let same : client ≡ e.client = eqb-true _ _ t in
        let own : last_number (act_result step s e).0 client ≡ e.number = ap (last_number (act_result step s e).0) same ∙ ap last_of (kept_own step s e) in
        let was : last_number s e.client ≡ k.number = ap (last_number s) (sym same) ∙ ap last_of has in
        absurd (omega (arith, own, was, low, few))
    | inr f ↦ kept_other step s e client f ∙ has
  ]
  now_stays s e now r (Stays high) client k has few = has

  pub kept_stays : (s : CachedState P) (es : List Entry) (client : ℕ) (k : Cached) → get s.kept client ≡ Some k → last_number (after s es) client ≤ k.number → get (after s es).kept client ≡ Some k
  kept_stays s [] client k has few = has
  kept_stays s (e ∷ es) client k has few =
      let s' = (entry_step step s e).0 in
      let rest = numbers_rise s' es client in
      kept_stays s' es client k (now_stays s e _ _ (outcome step s e) client k has (omega (arith, rest, few))) few

  -- a reply is given again until a number above it acts
  pub replies_stay : RepliesStayUntilTheNext step
  replies_stay s e entries reply is few =
      let kept : Cached = record { number = e.number; reply = reply } in
      let here = replied step s e _ _ (outcome step s e) reply is in
      let there : get (after (entry_step step s e).0 entries).kept e.client ≡ Some kept = kept_stays (entry_step step s e).0 entries e.client kept here few in
      still_replied step (after (entry_step step s e).0 entries) e reply there

  -- what acts leads to the plain state
  now_counts : (s : CachedState P) (e : Entry) (now : List (Operation × Reply)) (r : CachedState P × Option Reply) → Outcome step s e now r
      → (more : List (Operation × Reply)) → after_acts step r.0.plain more ≡ after_acts step s.plain (now ++ more)
  now_counts s e now r (Acts low) more = refl
  now_counts s e now r (Stays high) more = refl

  pub only_acts_count : OnlyActsCount step
  only_acts_count s [] = refl
  only_acts_count s (e ∷ es) =
      let s' = (entry_step step s e).0 in
      only_acts_count s' es ∙ now_counts s e _ _ (outcome step s e) (acts_from step s' es)

  -- a call has the same reply each time
  pub same_reply_each_time : SameReplyEachTime step
  same_reply_each_time s e f entries reply other same is there =
      let mine : Cached = record { number = e.number; reply = reply } in
      let now : Cached = record { number = f.number; reply = other } in
      let s' = (entry_step step s e).0 in
      let s'' = after s' entries in
      let all : after s' (entries ++ f ∷ []) ≡ (entry_step step s'' f).0 = after_more s' entries (f ∷ []) in
      let has : get (after s' (entries ++ f ∷ [])).kept e.client ≡ Some now =
      ap (λ (t : CachedState P). get t.kept e.client) all ∙ ap (get (entry_step step s'' f).0.kept) same.0 ∙ replied step s'' f _ _ (outcome step s'' f) other there in
      let last : last_number (after s' (entries ++ f ∷ [])) e.client ≡ f.number = ap last_of has in
      let number : e.number ≡ f.number = same.1 in
      let stays = kept_stays s' (entries ++ f ∷ []) e.client mine (replied step s e _ _ (outcome step s e) reply is) (omega (arith, last, number)) in
      let both : Some now ≡ Some mine = sym has ∙ stays in
      let kept : now ≡ mine = cc both in
      ap (λ (k : Cached). k.reply) kept

-- a reply that an entry has is that of a call that acted, up to the entry itself
pub reply_is_acted : {P : Type 0} (plain : Plain P) → RepliesAreOfActs plain
reply_is_acted plain log e reply is =
    let kept : Cached = record { number = e.number; reply = reply } in
    let has : get (after plain.update (nothing_cached plain.opening) (log ++ e ∷ [])).kept e.client ≡ Some kept =
    ap (λ s. get s.kept e.client) (after_more plain.update (nothing_cached plain.opening) log (e ∷ []))
    ∙ replied plain.update (after_log plain log) e _ _ (outcome plain.update (after_log plain log) e) reply is in
    elim (kept_is_acted plain.update (nothing_cached plain.opening) (log ++ e ∷ []) e.client kept has) [
      | inl before ↦ absurd (never before)
      | inr m ↦ m
    ]
  where
    never : {k : Cached} → get (nothing_cached plain.opening).kept e.client ≡ Some k → ⊥
    never {k} h = let h' : ◌≡◌ {A = Option Cached} None (Some k) = sym (get-empty nat_cmp e.client) ∙ h in cc

-- no call of a log acts twice
pub acted_entries_once : {P : Type 0} (plain : Plain P) (log : List Entry) → NoTwo AreOneUpdate (acts_of plain log)
acted_entries_once plain log = acted_once plain.update (nothing_cached plain.opening) log
