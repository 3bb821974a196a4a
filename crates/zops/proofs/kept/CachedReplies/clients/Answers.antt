use Rattle.std.proofs.Common.{◌≡◌, ap, sym, ◌∙◌}
use Rattle.std.specs.FinMap as finite
use Rattle.zops.specs.support.Places.{clients_from}
use Rattle.zops.proofs.KeptMaps.{keys-replies, if_ok}
use Rattle.zops.proofs.kept.CachedReplies.clients.Goals as goal

pub returns-clause-clients : goal.returns-clause-clients
returns-clause-clients c =
    let places = c.self.inside.places.items in
    if_ok (λ clients. clients.items ≡ clients_from 0 c.deref.result.now) (λ clients. clients.items ≡ finite.keys c.args.self.now) c.clients_of.result
    (λ clients is. is ∙ ap (clients_from 0) c.deref.ensures.value ∙ sym (keys-replies places) ∙ ap finite.keys c.self.view_is) c.clients_of.ensures.clients
