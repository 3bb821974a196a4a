use Rattle.std.proofs.Common.{◌≡◌, ◌+◌, ◌*◌, ◌≤◌, drop, length}
use Rattle.std.specs.List.{flat_map}
use Rattle.std.specs.Str.{IsAscii}
use Rattle.zscript_text.specs.Reply.{spaced_number}
use Rattle.zscript_text.proofs.stat_text.put_numbers.Given as goal

abbrev pub invariant-loop-left : goal.invariant-loop-left
invariant-loop-left l = record {
  reported : drop l.start l.place ≡ flat_map spaced_number (drop l.left l.numbers);
  ascii : IsAscii (drop l.start l.place);
  len : length l.place ≡ length l.initial.place;
  room : length l.place + 21 * l.left ≤ l.start + 21 * length l.numbers;
  within : l.start ≤ length l.place;
  few : l.left ≤ length l.numbers;
}

abbrev pub decreases-loop-left : goal.decreases-loop-left
decreases-loop-left l = l.left
