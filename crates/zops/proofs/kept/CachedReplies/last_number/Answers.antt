use Rattle.std.proofs.Common.{◌<◌, None, length, arith, ap, sym, ◌∙◌}
use Rattle.std.proofs.lemmas.List.{get_or_read}
use Rattle.std.specs.FinMap.{get}
use Rattle.zcalls.specs.Cached.{Cached, last_of}
use Rattle.zops.proofs.KeptMaps.{get-replies}
use Rattle.zops.proofs.kept.CachedReplies.last_number.Goals as goal

pub returns-in-Some : goal.returns-in-Some
returns-in-Some c =
    let places = c.self.inside.places.items in
    let client = c.number.result in
    let within : client < length places = omega (arith, c.number.ensures.small, c.self.invariant) in
    let placed = get_or_read places client c.index.result.now within c.index.ensures None in
    let there = placed ∙ sym (get-replies places client) ∙ (λ i. get (c.self.view_is i) (c.number.ensures.same i)) in
    c.number-in-Some.ensures.same ∙ ap (λ (k : Cached). k.number) c.kept.view_is ∙ ap last_of (sym c.in-Some.is ∙ there)

pub returns-in-None : goal.returns-in-None
returns-in-None c =
    let places = c.self.inside.places.items in
    let client = c.number.result in
    let within : client < length places = omega (arith, c.number.ensures.small, c.self.invariant) in
    let placed = get_or_read places client c.index.result.now within c.index.ensures None in
    let there = placed ∙ sym (get-replies places client) ∙ (λ i. get (c.self.view_is i) (c.number.ensures.same i)) in
    ap last_of (sym c.in-None.is ∙ there)
