use Rattle.std.proofs.Common.{append_assoc}
use Rattle.zsnapshots.specs.export.Texts.{left_out_text}
use Rattle.zsnapshots.proofs.export.stat.write_left_out.Goals as goal

pub returns : goal.returns
unfolding left_out_text
returns c = rw (
  c.in_ok-write_around-5.ensures,
  c.in_ok-write_around-4.ensures,
  c.in_ok-write_around-3.ensures,
  c.in_ok-write_around-2.ensures,
  c.in_ok-write_around.ensures,
) (simp append_assoc)
