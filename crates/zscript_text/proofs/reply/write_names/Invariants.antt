use Rattle.std.proofs.Common.{◌≡◌, ◌++◌, take, string_bytes}
use Rattle.std.specs.List.{flat_map}
use Rattle.zscript_text.specs.Reply.{spaced_name}
use Rattle.zscript_text.proofs.reply.write_names.Given as goal

abbrev pub invariant-loop-name : goal.invariant-loop-name
invariant-loop-name l = string_bytes l.out ≡ string_bytes l.initial.out ++ flat_map spaced_name (take l.name-index l.names)
