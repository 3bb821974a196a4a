use Rattle.std.proofs.Common.{length, ap, arith}
use Rattle.zguard.proofs.Cutting.{next_rest, rest_short}
use Rattle.zguard.proofs.hearing.hear_greeting.Goals as goal

pub slice_bounds-from_slice-count : goal.slice_bounds-from_slice-count
slice_bounds-from_slice-count c =
    let behind = next_rest c.deref.result.now c.in-Whole.field-0.now c.in-Whole.more.now c.in-Whole.ensures in
    omega (
      arith,
      rest_short c.deref.result.now c.in-Whole.more.now behind,
      ap length c.deref.ensures.value,
      ap length c.in_ok-more-in-Whole.ensures.items,
      c.len.ensures,
      c.len-in-Whole.ensures,
      c.args.came.ok,
      c.in_ok-more-in-Whole.more.ok,
    )
