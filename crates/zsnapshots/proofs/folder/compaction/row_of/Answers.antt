use Rattle.std.proofs.Common.{length, ap, arith}
use Rattle.zsnapshots.proofs.Short.{rows_short}
use Rattle.zsnapshots.proofs.folder.compaction.row_of.Goals as goal

pub unreachable-requires : goal.unreachable-requires
unreachable-requires c =
    let short = rows_short c.requires.0 c.requires.1 in
    let long = c.in-None.ensures.too_long in
    let same = ap length c.requires.2 in
    omega (arith, short, long, same)
