use Rattle.std.proofs.Common.{refl, arith}
use Rattle.zcodec.proofs.Bytes.{ok_is}
use Rattle.zcodec.proofs.rows.readers.Goals as goal

pub returns : goal.returns
returns c = record {
  value = refl;
  other_value = λ same. omega (arith, ok_is 7 8 same);
  other_fault = λ same. absurd cc;
  gives = λ same. omega (arith, ok_is 7 8 same);
  memory = tt;
  fault = λ same. absurd cc;
}
