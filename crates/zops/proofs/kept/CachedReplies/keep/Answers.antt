use Rattle.std.proofs.Common.{◌<◌, length, arith, ◌∙◌}
use Rattle.std.specs.FinMap.{insert}
use Rattle.zcalls.specs.Cached.{Cached}
use Rattle.zops.proofs.KeptMaps.{replies-set}
use Rattle.zops.proofs.kept.CachedReplies.keep.Goals as goal

pub returns : goal.returns
returns c =
    let places = c.self.inside.places.items in
    let client = c.number.result in
    let kept : Cached = record { number = c.args.number; reply = c.args.reply } in
    let within : client < length places = omega (arith, c.number.ensures.small, c.self.invariant) in
    replies-set places client kept within
    ∙ (λ i. insert (c.self.view_is i) (c.number.ensures.same i) kept)
