-- An entry that comes again changes nothing.
use Rattle.std.proofs.Common.{arith, ◌≡◌, refl, ap, ◌∙◌, ℕ, Bool, true, false, cond, nat_lt, ◌==◌, None, Some}
use Rattle.std.proofs.lemmas.Bool.Decides.{nat_tests}
use Rattle.std.specs.Cmp.{unsigned_tied}
use Rattle.std.specs.FinMap.{get}
use Rattle.zcalls.specs.declared.call.Entry.{Entry}
use Rattle.zcalls.specs.Cached.{Cached, CachedState, PlainStep, last_of, cached_reply, act_result, entry_step}
use Rattle.zcalls.specs.CachedLaws.{RetryChangesNothing}
use Rattle.zcalls.proofs.CachedReplies.{kept_insert, entered}

-- a number is itself, and not above itself
same : (n : ℕ) → (n == n) ≡ true
same n = grind (arith, nat_tests)

not_above : (n : ℕ) → nat_lt n n ≡ false
not_above n = grind (arith, nat_tests)

-- what an entry that acted does when it comes again
acts_again : {P : Type 0} (step : PlainStep P) (s : CachedState P) (e : Entry)
    → entry_step step (act_result step s e).0 e ≡ ((act_result step s e).0, (act_result step s e).1)
acts_again step s e =
    let kept : Cached = record { number = e.number; reply = (step s.plain e.client e.update).1 } in
    let found : get (act_result step s e).0.kept e.client ≡ Some kept =
    kept_insert s.kept e.client kept e.client ∙ ap (λ b. cond b (Some kept) (get s.kept e.client)) (unsigned_tied e.client e.client ∙ same e.client)
    in entered step (act_result step s e).0 e (Some kept) found
    ∙ ap (λ b. cond b (act_result step (act_result step s e).0 e) ((act_result step s e).0, cached_reply e.number (Some kept))) (not_above e.number)
    ∙ (λ i. ((act_result step s e).0, cond (same e.number i) (Some kept.reply) None))

-- the same of any entry that had a reply, by whether it acted
again : {P : Type 0} (step : PlainStep P) (s : CachedState P) (e : Entry) (acts : Bool)
    → nat_lt (last_of (get s.kept e.client)) e.number ≡ acts
    → entry_step step (entry_step step s e).0 e ≡ ((entry_step step s e).0, (entry_step step s e).1)
again step s e true t =
    let did : entry_step step s e ≡ act_result step s e =
    entered step s e (get s.kept e.client) refl ∙ ap (λ b. cond b (act_result step s e) (s, cached_reply e.number (get s.kept e.client))) t
    in rw did (acts_again step s e)
again step s e false t =
    let did : entry_step step s e ≡ (s, cached_reply e.number (get s.kept e.client)) =
    entered step s e (get s.kept e.client) refl ∙ ap (λ b. cond b (act_result step s e) (s, cached_reply e.number (get s.kept e.client))) t
    in rw did did

pub retry_changes_nothing : {P : Type 0} (step : PlainStep P) → RetryChangesNothing step
retry_changes_nothing step s e reply reported =
    again step s e _ refl ∙ (λ i. ((entry_step step s e).0, reported i))
