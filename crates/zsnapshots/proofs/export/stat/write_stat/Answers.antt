use Rattle.std.proofs.Common.{append_assoc}
use Rattle.zsnapshots.specs.export.Texts.{stat_text}
use Rattle.zsnapshots.proofs.export.stat.write_stat.Goals as goal

pub returns : goal.returns
unfolding stat_text
returns c = rw (
  c.in_ok-write_around-6.ensures,
  c.in_ok-write_around-5.ensures,
  c.in_ok-write_around-4.ensures,
  c.in_ok-write_around-3.ensures,
  c.in_ok-write_around-2.ensures,
  c.in_ok-write_around.ensures,
) (simp append_assoc)
