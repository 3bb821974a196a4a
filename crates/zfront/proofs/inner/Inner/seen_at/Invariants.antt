use Rattle.std.proofs.Common.{◌≡◌, take}
use Rattle.zfront.specs.Front.{looks}
use Rattle.zfront.proofs.inner.Inner.seen_at.Given as goal

abbrev pub invariant-loop-path : goal.invariant-loop-path
invariant-loop-path g l = l.replies.items ≡ looks l.self.tree (take l.path-index l.paths)
