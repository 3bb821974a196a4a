use Rattle.zchannels.specs.Woven.{AreBlankIns, AreBlankOuts, in_rings, out_rings}
use Rattle.zchannels.proofs.MeshRows.{AreFirst}
use Rattle.zchannels.proofs.mesh.weave.Given as goal

abbrev pub invariant-loop : goal.invariant-loop
invariant-loop g l =
    AreFirst l.count l.counter (out_rings l.outs.items) (in_rings l.ins.items)
    × AreBlankOuts l.outs.items × AreBlankIns l.ins.items
