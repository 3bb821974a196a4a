use Rattle.std.proofs.Common.{◌≡◌, ◌++◌, take, string_bytes}
use Rattle.std.specs.List.{flat_map}
use Rattle.zscript.specs.Line.{taken_text}
use Rattle.zscript.proofs.texts.write_taken.Given as goal

abbrev pub invariant-loop-event : goal.invariant-loop-event
invariant-loop-event l = string_bytes l.out ≡ string_bytes l.initial.out ++ flat_map (taken_text l.own) (take l.event-index l.history)
