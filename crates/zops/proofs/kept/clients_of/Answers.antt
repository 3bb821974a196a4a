use Rattle.std.proofs.Common.{◌<◌, ◌++◌, ◌∷◌, [], length, take, None, sym, ap, ◌∙◌, arith, length-take-le}
use Rattle.std.proofs.lemmas.List.{get_or_read}
use Rattle.zops.specs.support.Places.{clients_from}
use Rattle.zops.proofs.KeptMaps.{clients-more, length-clients}
use Rattle.zops.proofs.kept.clients_of.Goals as goal

pub loop-number-preserved : goal.loop-number-preserved
loop-number-preserved c =
    let places = c.args.places.now in
    let number = c.loop-number.number in
    let within : number < length places = omega (arith, c.loop-number-test.true, c.requires) in
    let place = c.index-places-number.result in
    let placed = get_or_read places number place within c.index-places-number.is None in
    c.in_ok-add_client.ensures
    ∙ ap (λ front. front ++ clients_from number (place ∷ [])) c.loop-number.invariant
    ∙ ap (λ p. clients_from 0 (take number places) ++ clients_from number (p ∷ [])) placed
    ∙ sym (clients-more places number None within)

pub returns-clause-few : goal.returns-clause-few
returns-clause-few c =
    let taken = take c.loop-number.number c.args.places.now in
    let listed = ap length c.loop-number.invariant in
    let few = length-clients 0 taken in
    let long = length-take-le c.loop-number.number c.args.places.now (omega (arith, c.requires, c.loop-number.auto)) in
    omega (arith, listed, few, long, c.loop-number.auto)
