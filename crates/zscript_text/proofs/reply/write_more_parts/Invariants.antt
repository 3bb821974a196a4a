use Rattle.std.proofs.Common.{◌≡◌, ◌++◌, take, string_bytes}
use Rattle.std.specs.List.{flat_map}
use Rattle.zscript_text.specs.Reply.{next_part_text}
use Rattle.zscript_text.proofs.reply.write_more_parts.Given as goal

abbrev pub invariant-loop-reply : goal.invariant-loop-reply
invariant-loop-reply l = string_bytes l.out ≡ string_bytes l.initial.out ++ flat_map next_part_text (take l.reply-index l.replies)
