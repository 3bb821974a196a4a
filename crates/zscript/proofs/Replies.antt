-- A call is answered with a reply of its history, or had none.
use Rattle.std.proofs.Common.{◌≡◌, ◌⊎◌, ℕ, ◌+◌, Bool, true, false, if◌then◌else◌, [], ◌∷◌, Option, None, Some, inl, inr}
use Rattle.std.proofs.Common.{refl, sym, ap, subst, codes, arith}
use Rattle.std.specs.Prelude.{Ok, Err, ◌&&◌, ◌==◌}
use Rattle.std.specs.Option.{option_map_or}
use Rattle.std.proofs.lemmas.Bool.Decides.{nat_tests}
use Rattle.zcalls.specs.Lists.{Among}
use Rattle.zcalls.specs.declared.reply.Reply.{Reply}
use Rattle.zprotocol.specs.declared.world.history.CallEvent.TheVariants.{Begin, Answer}
use Rattle.zprotocol.specs.declared.world.event.Event.TheVariants as event
use Rattle.zprotocol.specs.world.History.{History}
use Rattle.zprotocol.specs.world.Events.{is_enabled}
use Rattle.zprotocol.specs.world.Settle.{Settling}
use Rattle.ztree.specs.Tree.{Tree}
use Rattle.zcalls.specs.Cached.{CachedState}
use Rattle.zscript_text.specs.declared.line.Line.{Line}
use Rattle.zscript_text.specs.declared.line.Line.TheVariants as asked
use Rattle.zscript_text.specs.declared.request.Request.{Request}
use Rattle.zscript_text.specs.Request.{Read}
use Rattle.zscript_text.specs.Line.{line_of}
use Rattle.zscript_text.specs.Reply.{reply_text}
use Rattle.zscript.specs.Line.{ScriptState, LineEffect, reply_in, call_answered, call_effect, no_effect, not_begun_text}
use Rattle.zscript.specs.Line.{after_settling, after_try, line_effect, read_effect, effect_of}
use Rattle.zscript.specs.Histories.{IsAnsweredBy, CallsAreAnsweredByTheirReplies}

-- what a choice of an answer, or of those after it, comes to
chosen : (c n d m : ℕ) (reply : Reply) (more : History) → (own : Bool) → ((c == d) && (n == m)) ≡ own
    → ((r : Reply) → reply_in (Some (c, n)) more ≡ Some r → Among (Answer c n r) more)
    → (r : Reply) → (if own then Some reply else reply_in (Some (c, n)) more) ≡ Some r → Among (Answer c n r) (Answer d m reply ∷ more)
chosen c n d m reply more true own later r is = inl (grind (arith, nat_tests, own, is))
chosen c n d m reply more false own later r is = inr (later r is)

-- a reply that is found is one of the history
found : (c n : ℕ) (history : History) (r : Reply) → reply_in (Some (c, n)) history ≡ Some r → Among (Answer c n r) history
found c n [] r is = let none : ⊥ = cc in none
found c n (Begin d m call ∷ more) r is = inr (found c n more r is)
found c n (Answer d m reply ∷ more) r is = chosen c n d m reply more ((c == d) && (n == m)) refl (found c n more) r is

-- and a reply of the history is found
missed : (c n d m : ℕ) (reply : Reply) (more : History) → (own : Bool) → ((c == d) && (n == m)) ≡ own
    → (reply_in (Some (c, n)) more ≡ None → (r : Reply) → Among (Answer c n r) more → ⊥)
    → (if own then Some reply else reply_in (Some (c, n)) more) ≡ None → (r : Reply) → Among (Answer c n r) (Answer d m reply ∷ more) → ⊥
missed c n d m reply more true own later none r among = let no : ⊥ = cc in no
missed c n d m reply more false own later none r (inl same) = let no : ⊥ = grind (arith, nat_tests, own, same) in no
missed c n d m reply more false own later none r (inr among) = later none r among

absent : (c n : ℕ) (history : History) → reply_in (Some (c, n)) history ≡ None → (r : Reply) → Among (Answer c n r) history → ⊥
absent c n [] none r among = among
absent c n (Begin d m call ∷ more) none r (inl same) = let no : ⊥ = cc in no
absent c n (Begin d m call ∷ more) none r (inr among) = absent c n more none r among
absent c n (Answer d m reply ∷ more) none r among = missed c n d m reply more ((c == d) && (n == m)) refl (absent c n more) none r among

-- what a call comes to
either : (c n : ℕ) (history : History) (answer : Option Reply) → reply_in (Some (c, n)) history ≡ answer
    → ((r : Reply) × Among (Answer c n r) history × (option_map_or reply_text answer (codes "unanswered") ≡ reply_text r))
    ⊎ ((option_map_or reply_text answer (codes "unanswered") ≡ codes "unanswered") × ((r : Reply) → Among (Answer c n r) history → ⊥))
either c n history (Some reply) is = inl (reply, found c n history reply is, refl)
either c n history None is = inr (refl, absent c n history is)

-- the same of the call of an effect
abbrev IsOf : Settling (CachedState Tree) → ℕ → ℕ → ℕ → ℕ → Type 0
IsOf did c n client number =
    ((reply : Reply) × Among (Answer client number reply) did.world.history
    × (option_map_or reply_text (reply_in (Some (c, n)) did.world.history) (codes "unanswered") ≡ reply_text reply))
    ⊎ ((option_map_or reply_text (reply_in (Some (c, n)) did.world.history) (codes "unanswered") ≡ codes "unanswered")
    × ((reply : Reply) → Among (Answer client number reply) did.world.history → ⊥))

answered : (did : Settling (CachedState Tree)) (c n : ℕ) → IsAnsweredBy (call_answered did (Some (c, n)))
answered did c n client number own =
    let same_client : c ≡ client = ap (λ (call : Option (ℕ × ℕ)). option_map_or (λ k. k.0) call 0) own in
    let same_number : n ≡ number = ap (λ (call : Option (ℕ × ℕ)). option_map_or (λ k. k.1) call 0) own in
    subst (λ d. IsOf did c n d number) same_client (subst (λ m. IsOf did c n c m) same_number (either c n did.world.history _ refl))

-- a line that began no call
nobody_waits : (effect : LineEffect) → effect.own ≡ None → IsAnsweredBy effect
nobody_waits effect none client number own = let no : ⊥ = cc in absurd no

called : (s : ScriptState) (request : Request) (begins : Bool) → is_enabled s.world (event.Begin request.client request.call) ≡ begins
    → IsAnsweredBy (call_effect s request)
called s request true enabled =
    let begun = call_answered (after_settling (after_try s (event.Begin request.client request.call)))
    (Some (request.client, (s.world.clients request.client).number + 1)) in
    subst (λ b. IsAnsweredBy (if b then begun else no_effect s (not_begun_text s request))) (sym enabled) (answered begun.did _ _)
called s request false enabled =
    let begun = call_answered (after_settling (after_try s (event.Begin request.client request.call)))
    (Some (request.client, (s.world.clients request.client).number + 1)) in
    subst (λ b. IsAnsweredBy (if b then begun else no_effect s (not_begun_text s request))) (sym enabled)
    (nobody_waits (no_effect s (not_begun_text s request)) refl)

-- each line
line_answered : (s : ScriptState) (line : Line) → IsAnsweredBy (line_effect s line)
line_answered s (asked.Call request) = called s request _ refl
line_answered s (asked.Begin request) = nobody_waits (line_effect s (asked.Begin request)) refl
line_answered s (asked.Take from to) = nobody_waits (line_effect s (asked.Take from to)) refl
line_answered s (asked.Ignore from to) = nobody_waits (line_effect s (asked.Ignore from to)) refl
line_answered s (asked.Fail server) = nobody_waits (line_effect s (asked.Fail server)) refl
line_answered s (asked.Order order) = nobody_waits (line_effect s (asked.Order order)) refl
line_answered s (asked.Retry client) = nobody_waits (line_effect s (asked.Retry client)) refl
line_answered s asked.Settle = nobody_waits (line_effect s asked.Settle) refl

read_answered : (s : ScriptState) (line : Read Line) → IsAnsweredBy (read_effect s line)
read_answered s (Err fault) = nobody_waits (read_effect s (Err fault)) refl
read_answered s (Ok line) = line_answered s line

pub calls_are_answered_by_their_replies : CallsAreAnsweredByTheirReplies
unfolding effect_of
calls_are_answered_by_their_replies s line = read_answered s (line_of line)
