use Rattle.std.proofs.Common.{◌≡◌, [], length, map}
use Rattle.std.specs.Prelude.{All}
use Rattle.zchannels.specs.Rings.{put_of, ring_of_tx}
use Rattle.zchannels.specs.Woven.{AreBlankIns, in_rings, with_row}
use Rattle.zchannels.proofs.mesh.add_row.Given as goal

abbrev pub invariant-loop-to : goal.invariant-loop-to
invariant-loop-to g l =
    (in_rings l.ins.items ≡ with_row (in_rings l.initial.ins.items) (map ring_of_tx l.row.items))
    × (length l.row.items ≡ l.to)
    × (length l.ins.items ≡ length l.initial.ins.items)
    × (l.to-end ≡ length l.initial.ins.items)
    × All (λ tx. put_of tx ≡ []) l.row.items
    × (AreBlankIns l.initial.ins.items → AreBlankIns l.ins.items)
