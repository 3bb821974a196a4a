use Rattle.std.proofs.Common.{◌≡◌, length}
use Rattle.znode.specs.Entries.{without_idle}
use Rattle.znode.proofs.waiting.Reports.remove_idle.Given as goal

abbrev pub invariant-loop-news : goal.invariant-loop-news
invariant-loop-news l = without_idle l.replica.state l.self ≡ without_idle l.replica.state l.initial.self

abbrev pub decreases-loop-news : goal.decreases-loop-news
decreases-loop-news l = length l.self
