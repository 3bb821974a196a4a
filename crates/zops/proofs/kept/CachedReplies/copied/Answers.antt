use Rattle.std.proofs.Common.{◌≡◌, length, ap, ◌∙◌, rules}
use Rattle.zops.specs.support.Places.{replies_in}
use Rattle.zops.proofs.kept.CachedReplies.copied.Goals as goal

pub invariant_of-result : goal.invariant_of-result
invariant_of-result c =
    let same : c.in_ok-places.places.items ≡ c.self.inside.places.items = search rules in
    ap length same ∙ c.self.invariant

pub returns : goal.returns
returns c =
    let same : c.in_ok-places.places.items ≡ c.self.inside.places.items = search rules in
    ap replies_in same ∙ c.self.view_is
