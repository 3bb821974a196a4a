use Rattle.std.proofs.Common.{◌<◌, None, Some, length, arith, ap, sym, ◌∙◌}
use Rattle.std.proofs.lemmas.List.{get_or_read}
use Rattle.std.specs.FinMap.{get}
use Rattle.zops.proofs.KeptMaps.{get-replies}
use Rattle.zops.proofs.kept.CachedReplies.get.Goals as goal

pub returns-in-Some-clause-kept : goal.returns-in-Some-clause-kept
returns-in-Some-clause-kept c =
    let places = c.self.inside.places.items in
    let client = c.number.result in
    let within : client < length places = omega (arith, c.number.ensures.small, c.self.invariant) in
    let placed = get_or_read places client c.index.result.now within c.index.ensures None in
    let there = placed ∙ sym (get-replies places client) ∙ (λ i. get (c.self.view_is i) (c.number.ensures.same i)) in
    sym (sym c.in-Some.is ∙ there) ∙ ap Some (sym c.kept.view_is)

pub returns-in-None-clause-none : goal.returns-in-None-clause-none
returns-in-None-clause-none c =
    let places = c.self.inside.places.items in
    let client = c.number.result in
    let within : client < length places = omega (arith, c.number.ensures.small, c.self.invariant) in
    let placed = get_or_read places client c.index.result.now within c.index.ensures None in
    let there = placed ∙ sym (get-replies places client) ∙ (λ i. get (c.self.view_is i) (c.number.ensures.same i)) in
    sym (sym c.in-None.is ∙ there)
