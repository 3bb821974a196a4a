use Rattle.std.proofs.Common.{refl}
use Rattle.zops.proofs.Restored.{restoring_root}
use Rattle.zops.proofs.restoring.Restoring.new.Goals as goal

pub invariant_of-result : goal.invariant_of-result
invariant_of-result c =
    restoring_root c.in-Ok-restored.store c.args.root c.args.time c.args.zxid c.args.applied c.args.limits
    (c.if-not-can_begin.ensures.yes refl) c.in-Ok-restored.ensures.tree c.in-Ok-restored.ensures.given
