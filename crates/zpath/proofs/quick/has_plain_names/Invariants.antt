use Rattle.std.proofs.Common.{◌≡◌, ◌≤◌, ◌-◌, ◌++◌, true, ◌==◌, length, drop}
use Rattle.zpath.specs.support.Plain.{has_plain_names, lens_of}
use Rattle.zpath.proofs.quick.has_plain_names.Given as goal

abbrev pub invariant-loop-byte : goal.invariant-loop-byte
invariant-loop-byte l = record {
  few : length l.lens.items ≤ 63;
  plain : has_plain_names 63 true l.rest ≡ has_plain_names (63 - length l.lens.items) (l.len == 0) (drop l.byte-index l.rest);
  lens : lens_of 0 l.rest ≡ l.lens.items ++ lens_of l.len (drop l.byte-index l.rest);
}
