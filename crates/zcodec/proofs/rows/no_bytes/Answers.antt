use Rattle.std.proofs.Common.{refl, arith}
use Rattle.zcodec.proofs.rows.no_bytes.Goals as goal

pub returns : goal.returns
returns c = record {
  spelled = refl;
  read = refl;
  another = λ same. omega (arith, same);
  refused = refl;
  none = λ fits. fits;
}
