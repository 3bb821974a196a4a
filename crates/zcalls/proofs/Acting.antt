-- Which entries act, and what is cached of them.
use Rattle.std.proofs.Common.{◌≡◌, ℕ, ◌<◌, ◌≤◌, true, false, cond, if◌then◌else◌, nat_lt, ◌==◌, List, [], ◌∷◌, ◌++◌, Option, Some, None, refl, sym, ap, ◌∙◌, subst, inl, inr, arith, ltb-true, eqb-true, eq-eqb}
use Rattle.std.proofs.lemmas.Bool.Decides.{nat_tests}
use Rattle.std.specs.Cmp.{unsigned_tied}
use Rattle.std.specs.FinMap.{get, get-empty}
use Rattle.std.specs.Ordering.{nat_cmp}
use Rattle.zcalls.specs.declared.call.Entry.{Entry}
use Rattle.zcalls.specs.declared.reply.Reply.{Reply}
use Rattle.zcalls.specs.Cached.{Cached, CachedState, PlainStep, nothing_cached, last_of, cached_reply, act_result, entry_step}
use Rattle.zcalls.proofs.CachedReplies.{kept_insert}
use Rattle.zcalls.specs.Lists.{Among, NoTwo}
use Rattle.zcalls.specs.Operation.{Operation, operation_of, AreOneUpdate}
use Rattle.zcalls.specs.Acts.{act_of, acts_from}
use Rattle.zcalls.specs.CachedLaws.{last_number, FirstEntriesAct, LowNumbersChangeNothing}
use Rattle.zcalls.proofs.Among.{test, among_cases}

-- what is cached of an entry that acts
abbrev pub kept_of : {P : Type 0} → PlainStep P → CachedState P → Entry → Cached
kept_of step s e = record { number = e.number; reply = (step s.plain e.client e.update).1 }

-- what an entry may do: which call acts now, and what comes of it
pub data Outcome {P : Type 0} (step : PlainStep P) (s : CachedState P) (e : Entry) : List (Operation × Reply) → CachedState P × Option Reply → Type 0 where
  Acts : last_number s e.client < e.number → Outcome step s e ((operation_of e, (step s.plain e.client e.update).1) ∷ []) (act_result step s e)
  Stays : e.number ≤ last_number s e.client → Outcome step s e [] (s, cached_reply e.number (get s.kept e.client))

pub outcome : {P : Type 0} (step : PlainStep P) (s : CachedState P) (e : Entry) → Outcome step s e (act_of step s e) (entry_step step s e)
unfolding entry_step
outcome step s e = elim (test (nat_lt (last_number s e.client) e.number)) [
  | inl t ↦ rw t (Acts (ltb-true _ _ t))
  | inr f ↦ rw f (Stays (grind (arith, nat_tests, f)))
]

module _ {P : Type 0} (step : PlainStep P) where
  -- what is cached after an entry acted
  kept_after : (s : CachedState P) (e : Entry) (c : ℕ) → get (act_result step s e).0.kept c ≡ (if c == e.client then Some (kept_of step s e) else get s.kept c)
  kept_after s e c = kept_insert s.kept e.client (kept_of step s e) c ∙ ap (λ b. cond b (Some (kept_of step s e)) (get s.kept c)) (unsigned_tied c e.client)

  pub kept_own : (s : CachedState P) (e : Entry) → get (act_result step s e).0.kept e.client ≡ Some (kept_of step s e)
  kept_own s e = kept_after s e e.client ∙ ap (λ b. cond b (Some (kept_of step s e)) (get s.kept e.client)) (eq-eqb e.client e.client refl)

  pub kept_other : (s : CachedState P) (e : Entry) (c : ℕ) → (c == e.client) ≡ false → get (act_result step s e).0.kept c ≡ get s.kept c
  kept_other s e c f = kept_after s e c ∙ ap (λ b. cond b (Some (kept_of step s e)) (get s.kept c)) f

  -- a client's cached number never falls
  pub rises : (s : CachedState P) (e : Entry) (now : List (Operation × Reply)) (r : CachedState P × Option Reply) → Outcome step s e now r → (c : ℕ) → last_number s c ≤ last_number r.0 c
  rises s e now r (Acts low) c = elim (test (c == e.client)) [
    | inl t ↦ let same : c ≡ e.client = eqb-true _ _ t in
        let own : last_number (act_result step s e).0 e.client ≡ e.number = ap last_of (kept_own s e) in
        subst (λ d. last_number s d ≤ last_number (act_result step s e).0 d) (sym same) (omega arith)
    | inr f ↦ let other : last_number (act_result step s e).0 c ≡ last_number s c = ap last_of (kept_other s e c f) in omega arith
  ]
  rises s e now r (Stays high) c = omega arith

  -- what acts now is above what was cached, and isn't below what is cached then
  now_above : (s : CachedState P) (e : Entry) (now : List (Operation × Reply)) (r : CachedState P × Option Reply) → Outcome step s e now r
      → (x : Operation × Reply) → Among x now → last_number s x.0.client < x.0.number
  now_above s e now r (Acts low) x (inl is) = subst (λ (y : Operation × Reply). last_number s y.0.client < y.0.number) is low
  now_above s e now r (Acts low) x (inr a) = absurd a
  now_above s e now r (Stays high) x a = absurd a

  -- what acts later is above it too
  pub acted_above : (s : CachedState P) (es : List Entry) (x : Operation × Reply) → Among x (acts_from step s es) → last_number s x.0.client < x.0.number
  acted_above s [] x a = absurd a
  acted_above s (e ∷ es) x a = elim (among_cases x (act_of step s e) (acts_from step (entry_step step s e).0 es) a) [
    | inl now ↦ now_above s e _ _ (outcome step s e) x now
    | inr later ↦ let above : last_number (entry_step step s e).0 x.0.client < x.0.number = acted_above (entry_step step s e).0 es x later in
        let up : last_number s x.0.client ≤ last_number (entry_step step s e).0 x.0.client = rises s e _ _ (outcome step s e) x.0.client in omega arith
  ]

  -- no call acts twice
  once_more : (s : CachedState P) (e : Entry) (now : List (Operation × Reply)) (r : CachedState P × Option Reply) → Outcome step s e now r
      → (more : List (Operation × Reply)) → ((y : Operation × Reply) → Among y more → last_number r.0 y.0.client < y.0.number)
      → NoTwo AreOneUpdate more → NoTwo AreOneUpdate (now ++ more)
  once_more s e now r (Acts low) more above once = (
    λ y a same.
        let up : last_number (act_result step s e).0 y.0.client < y.0.number = above y a in
        let own : last_number (act_result step s e).0 e.client ≡ e.number = ap last_of (kept_own s e) in
        let there : last_number (act_result step s e).0 e.client < y.0.number = subst (λ c. last_number (act_result step s e).0 c < y.0.number) (sym same.0) up in
        let number : e.number ≡ y.0.number = same.1 in
        omega arith,
    once,
  )
  once_more s e now r (Stays high) more above once = once

  pub acted_once : (s : CachedState P) (es : List Entry) → NoTwo AreOneUpdate (acts_from step s es)
  acted_once s [] = tt
  acted_once s (e ∷ es) =
      let s' = (entry_step step s e).0 in
      once_more s e _ _ (outcome step s e) (acts_from step s' es) (λ y a. acted_above s' es y a) (acted_once s' es)

  -- what acts is a call of an entry
  now_entry : (s : CachedState P) (e : Entry) (now : List (Operation × Reply)) (r : CachedState P × Option Reply) → Outcome step s e now r
      → (x : Operation × Reply) → Among x now → operation_of e ≡ x.0
  now_entry s e now r (Acts low) x (inl is) = ap (λ (y : Operation × Reply). y.0) is
  now_entry s e now r (Acts low) x (inr a) = absurd a
  now_entry s e now r (Stays high) x a = absurd a

  pub acted_entry : (s : CachedState P) (es : List Entry) (x : Operation × Reply) → Among x (acts_from step s es) → (e : Entry) × Among e es × (operation_of e ≡ x.0)
  acted_entry s [] x a = absurd a
  acted_entry s (e ∷ es) x a = elim (among_cases x (act_of step s e) (acts_from step (entry_step step s e).0 es) a) [
    | inl now ↦ (e, inl refl, now_entry s e _ _ (outcome step s e) x now)
    | inr later ↦ let m = acted_entry (entry_step step s e).0 es x later in (m.0, inr m.1, m.2)
  ]

  -- a reply that an entry has is cached under its number
  pub replied : (s : CachedState P) (e : Entry) (now : List (Operation × Reply)) (r : CachedState P × Option Reply) → Outcome step s e now r
      → (reply : Reply) → r.1 ≡ Some reply → get r.0.kept e.client ≡ Some (record { number = e.number; reply = reply })
  replied s e now r (Acts low) reply is =
      let same : (step s.plain e.client e.update).1 ≡ reply = cc is in
      kept_own s e ∙ ap (λ w. Some (record { number = e.number; reply = w })) same
  replied s e now r (Stays high) reply is = kept_again (get s.kept e.client) is
    where
      kept_again : (k : Option Cached) → cached_reply e.number k ≡ Some reply → k ≡ Some (record { number = e.number; reply = reply })
      kept_again None h = cc
      kept_again (Some k) h = elim (test (e.number == k.number)) [
        | inl t ↦ let number : e.number ≡ k.number = eqb-true _ _ t in let same : k.reply ≡ reply = again k reply t h in
            λ i. Some (record { number = sym number i; reply = same i })
        | inr f ↦ absurd (never k reply f h)
      ]
        where
          again : (k : Cached) (reply : Reply) → (e.number == k.number) ≡ true → cached_reply e.number (Some k) ≡ Some reply → k.reply ≡ reply
          again k reply t h = let h' : Some k.reply ≡ Some reply = sym (ap (λ b. cond b (Some k.reply) None) t) ∙ h in cc

          never : (k : Cached) (reply : Reply) → (e.number == k.number) ≡ false → cached_reply e.number (Some k) ≡ Some reply → ⊥
          never k reply f h = let h' : ◌≡◌ {A = Option Reply} None (Some reply) = sym (ap (λ b. cond b (Some k.reply) None) f) ∙ h in cc

  -- an entry whose number isn't above the last one changes nothing
  low_changes_nothing : (s : CachedState P) (e : Entry) (now : List (Operation × Reply)) (r : CachedState P × Option Reply) → Outcome step s e now r → e.number ≤ last_number s e.client → r.0 ≡ s
  low_changes_nothing s e now r (Acts low) few = absurd (omega (arith, low, few))
  low_changes_nothing s e now r (Stays high) few = refl

  pub low_numbers_change_nothing : LowNumbersChangeNothing step
  low_numbers_change_nothing s e few = low_changes_nothing s e _ _ (outcome step s e) few

  -- where its reply is cached under its number, an entry is given it
  is_given : (s : CachedState P) (e : Entry) (now : List (Operation × Reply)) (r : CachedState P × Option Reply) → Outcome step s e now r
      → (reply : Reply) → get s.kept e.client ≡ Some (record { number = e.number; reply = reply }) → r.1 ≡ Some reply
  is_given s e now r (Acts low) reply has = let number : last_number s e.client ≡ e.number = ap last_of has in absurd (omega (arith, low, number))
  is_given s e now r (Stays high) reply has = ap (cached_reply e.number) has ∙ ap (λ b. cond b (Some reply) None) (eq-eqb e.number e.number refl)

  pub still_replied : (s : CachedState P) (e : Entry) (reply : Reply) → get s.kept e.client ≡ Some (record { number = e.number; reply = reply }) → (entry_step step s e).1 ≡ Some reply
  still_replied s e reply has = is_given s e _ _ (outcome step s e) reply has

  -- what acts where nothing is cached
  first_acts : (p : P) (e : Entry) (now : List (Operation × Reply)) (r : CachedState P × Option Reply) → Outcome step (nothing_cached p) e now r
      → 0 < e.number → (r.0.plain ≡ (step p e.client e.update).0) × (r.1 ≡ Some (step p e.client e.update).1)
  first_acts p e now r (Acts low) some = (refl, refl)
  first_acts p e now r (Stays high) some =
      let none : last_number (nothing_cached p) e.client ≡ 0 = ap last_of (get-empty nat_cmp e.client) in absurd (omega (arith, some, high, none))

  pub first_entries_act : FirstEntriesAct step
  first_entries_act p e = first_acts p e _ _ (outcome step (nothing_cached p) e)
