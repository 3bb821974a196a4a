use Rattle.std.proofs.Common.{refl, arith}
use Rattle.zcodec.proofs.rows.so_many_bytes.Goals as goal

pub returns : goal.returns
returns c = record {
  spelled = refl;
  read = refl;
  short = refl;
  too_few = λ same. omega (arith, same);
}
