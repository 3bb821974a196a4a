use Rattle.std.proofs.Common.{◌≡◌, ◌++◌, take}
use Rattle.std.specs.List.{AllByRecursion, flat_map}
use Rattle.zwire.specs.Replies.{part_reply}
use Rattle.zwire.proofs.list_writing.put_each_reply.Given as goal

abbrev pub invariant-loop-reply : goal.invariant-loop-reply
invariant-loop-reply l = record {
  text : l.out.items ≡ l.fn.out.items ++ flat_map part_reply.spell (take l.reply-index l.replies);
  fit : AllByRecursion part_reply.Fits (take l.reply-index l.replies);
}
