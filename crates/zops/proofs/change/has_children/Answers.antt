use Rattle.std.proofs.Common.{ap}
use Rattle.std.specs.Prelude.{nat_lt}
use Rattle.zcalls.proofs.Reported.{reported_children}
use Rattle.zops.proofs.change.has_children.Goals as goal

pub returns-in-Some : goal.returns-in-Some
returns-in-Some c path found = ap (nat_lt 0) (reported_children c.args.store.now.tree.nodes path c.in-Some.stat (c.in-Some.ensures.stat path found))
