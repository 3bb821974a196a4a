-- What is found among cached replies, and what an entry does by it.
use Rattle.std.proofs.Common.{◌≡◌, ℕ, Option, Some, None, cond, nat_cmp, true, false, ap, ◌∙◌}
use Rattle.std.specs.Ordering.{eq_by_cmp}
use Rattle.std.specs.Cmp.{nat_cmp_total}
use Rattle.std.specs.FinMap.{FinMap, get, insert, get-insert, get-empty}
use Rattle.zcalls.specs.declared.call.Entry.{Entry}
use Rattle.zcalls.specs.declared.reply.Reply.{Reply}
use Rattle.zcalls.specs.Cached.{Cached, CachedState, PlainStep, nothing_cached, entry_by, entry_step}
use Rattle.zcalls.specs.support.Counting.{counting, keeping}

-- a reply that is cached for a client is that client's, and no other's
pub kept_insert : (kept : FinMap nat_cmp Cached) (client : ℕ) (reply : Cached) (other : ℕ)
    → get (insert kept client reply) other ≡ cond (eq_by_cmp nat_cmp other client) (Some reply) (get kept other)
kept_insert kept client reply other = get-insert nat_cmp_total kept client reply other

-- what an entry does, by what is cached for its client
pub entered : {P : Type 0} (step : PlainStep P) (s : CachedState P) (e : Entry) (kept : Option Cached)
    → get s.kept e.client ≡ kept → entry_step step s e ≡ entry_by step s e kept
unfolding entry_step
entered step s e kept found = ap (entry_by step s e) found

-- what a client's first entry does
pub entered_first : (n : ℕ) (e : Entry) → entry_step counting (nothing_cached n) e ≡ entry_by counting (nothing_cached n) e None
entered_first n e = entered counting (nothing_cached n) e None (get-empty nat_cmp e.client)

-- what an entry does where this reply of its client was cached last
pub entered_again : (s : CachedState ℕ) (n client number : ℕ) (reply : Reply) (e : Entry)
    → eq_by_cmp nat_cmp e.client client ≡ true
    → entry_step counting (keeping s n client number reply) e ≡ entry_by counting (keeping s n client number reply) e (Some (record { number = number; reply = reply }))
entered_again s n client number reply e same =
    let kept : Cached = record { number = number; reply = reply } in
    entered counting (keeping s n client number reply) e (Some kept)
    (kept_insert s.kept client kept e.client ∙ ap (λ b. cond b (Some kept) (get s.kept e.client)) same)

-- what the first entry of another client does
pub entered_other : (n m client number : ℕ) (reply : Reply) (e : Entry)
    → eq_by_cmp nat_cmp e.client client ≡ false
    → entry_step counting (keeping (nothing_cached n) m client number reply) e ≡ entry_by counting (keeping (nothing_cached n) m client number reply) e None
entered_other n m client number reply e other =
    let kept : Cached = record { number = number; reply = reply } in
    entered counting (keeping (nothing_cached n) m client number reply) e None
    (kept_insert (nothing_cached n).kept client kept e.client ∙ ap (λ b. cond b (Some kept) (get (nothing_cached n).kept e.client)) other ∙ get-empty nat_cmp e.client)
