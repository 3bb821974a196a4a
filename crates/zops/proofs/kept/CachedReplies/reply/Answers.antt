use Rattle.std.proofs.Common.{◌≡◌, ◌≢◌, ℕ, true, false, refl, ◌<◌, Some, None, length, arith, ap, sym, ◌∙◌}
use Rattle.std.specs.Prelude.{◌==◌}
use Rattle.std.proofs.lemmas.Bool.Decides.{nat_tests}
use Rattle.std.proofs.lemmas.List.{get_or_read}
use Rattle.std.specs.FinMap.{get}
use Rattle.zcalls.specs.Cached.{Cached, cached_reply}
use Rattle.zcalls.specs.declared.reply.Reply.{Reply}
use Rattle.zops.proofs.KeptMaps.{get-replies}
use Rattle.zops.proofs.kept.CachedReplies.reply.Goals as goal

same_number : (number : ℕ) (kept : Cached) (reply : Reply) → number ≡ kept.number → reply ≡ kept.reply → Some reply ≡ cached_reply number (Some kept)
same_number number kept reply e is = let same : (number == kept.number) ≡ true = grind (arith, nat_tests, e) in rw same (ap Some is)

other_number : (number : ℕ) (kept : Cached) → number ≢ kept.number → None ≡ cached_reply number (Some kept)
other_number number kept e = let other : (number == kept.number) ≡ false = grind (arith, nat_tests, e) in rw other refl

pub returns-in_default : goal.returns-in_default
returns-in_default c =
    let places = c.self.inside.places.items in
    let client = c.number.result in
    let within : client < length places = omega (arith, c.number.ensures.small, c.self.invariant) in
    let placed = get_or_read places client c.index.result.now within c.index.ensures None in
    let there = placed ∙ sym (get-replies places client) ∙ (λ i. get (c.self.view_is i) (c.number.ensures.same i)) in
    ap (cached_reply c.args.number) (sym c.in_default.is ∙ there)

pub returns-then-number : goal.returns-then-number
returns-then-number c =
    let places = c.self.inside.places.items in
    let client = c.number.result in
    let within : client < length places = omega (arith, c.number.ensures.small, c.self.invariant) in
    let placed = get_or_read places client c.index.result.now within c.index.ensures None in
    let there = placed ∙ sym (get-replies places client) ∙ (λ i. get (c.self.view_is i) (c.number.ensures.same i)) in
    let numbers = ap (λ (k : Cached). k.number) c.kept.view_is in
    let other : c.args.number ≢ c.in-Some.kept.number = λ e. c.if-number.true (c.number-2.ensures.same ∙ e ∙ sym numbers ∙ sym c.number-3.ensures.same) in
    other_number c.args.number c.in-Some.kept other ∙ ap (cached_reply c.args.number) (sym c.in-Some.is ∙ there)

pub returns : goal.returns
returns c =
    let places = c.self.inside.places.items in
    let client = c.number.result in
    let within : client < length places = omega (arith, c.number.ensures.small, c.self.invariant) in
    let placed = get_or_read places client c.index.result.now within c.index.ensures None in
    let there = placed ∙ sym (get-replies places client) ∙ (λ i. get (c.self.view_is i) (c.number.ensures.same i)) in
    let same = sym c.number-2.ensures.same ∙ c.if-number.false ∙ c.number-3.ensures.same ∙ ap (λ (k : Cached). k.number) c.kept.view_is in
    let reply = c.in_ok-copied.ensures ∙ ap (λ (k : Cached). k.reply) c.kept.view_is in
    same_number c.args.number c.in-Some.kept c.in_ok-copied.field-0 same reply ∙ ap (cached_reply c.args.number) (sym c.in-Some.is ∙ there)
