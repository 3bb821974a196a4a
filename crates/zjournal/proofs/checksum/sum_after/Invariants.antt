use Rattle.std.proofs.Common.{◌≡◌, ◌<◌, drop}
use Rattle.zjournal.specs.Checksum.{adler_after, adler_from}
use Rattle.zjournal.proofs.checksum.sum_after.Given as goal

abbrev pub invariant-loop-byte : goal.invariant-loop-byte
invariant-loop-byte l = record {
  sum : adler_from l.a l.b (drop l.byte-index l.text) ≡ adler_after l.initial.sum l.text;
  first : l.a < 65536;
  second : l.b < 65536;
}
