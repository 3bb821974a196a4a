use Rattle.std.proofs.Common.{◌≡◌, [], replicate}
use Rattle.zchannels.specs.Woven.{AreBlankIns, in_rings}
use Rattle.zchannels.proofs.mesh.columns.Given as goal

abbrev pub invariant-loop : goal.invariant-loop
invariant-loop g l = (in_rings l.columns.items ≡ replicate l.counter []) × AreBlankIns l.columns.items
