use Rattle.std.proofs.Common.{◌≡◌, ◌<◌, ℕ, length}
use Rattle.zchannels.specs.Woven.{in_rings, out_rings}
use Rattle.zchannels.specs.Reported.{in_lists, IsReportedAt, out_lists}
use Rattle.zchannels.proofs.reporting.are_reported.Given as goal

abbrev pub invariant-loop-from : goal.invariant-loop-from
invariant-loop-from g l =
    let outs = l.fn.mesh.outs.items in
    let ins = l.fn.mesh.ins.items in
    (out_lists l.outs.items ≡ out_lists outs)
    × (in_lists l.ins.items ≡ in_lists ins)
    × (out_rings l.outs.items ≡ out_rings outs)
    × (in_rings l.ins.items ≡ in_rings ins)
    × (length l.outs.items ≡ length outs)
    × (l.count ≡ length outs)
    × ((i j : ℕ) → i < l.from → j < length outs → IsReportedAt (out_lists outs) (in_lists ins) i j)

abbrev pub invariant-loop-to : goal.invariant-loop-to
invariant-loop-to g l =
    let outs = l.fn.mesh.outs.items in
    let ins = l.fn.mesh.ins.items in
    (out_lists l.outs.items ≡ out_lists outs)
    × (in_lists l.ins.items ≡ in_lists ins)
    × (out_rings l.outs.items ≡ out_rings outs)
    × (in_rings l.ins.items ≡ in_rings ins)
    × (length l.outs.items ≡ length outs)
    × (l.count ≡ length outs)
    × (l.from < length outs)
    × ((i j : ℕ) → i < l.from → j < length outs → IsReportedAt (out_lists outs) (in_lists ins) i j)
    × ((j : ℕ) → j < l.to → IsReportedAt (out_lists outs) (in_lists ins) l.from j)
