use Rattle.std.proofs.Common.{◌≡◌, drop}
use Rattle.std.specs.List.{list_any}
use Rattle.zfront.specs.Front.{takes_nodes}
use Rattle.zfront.proofs.looking.one_takes_nodes.Given as goal

-- of those that are left one does exactly if one of all does
abbrev pub invariant-loop-reply : goal.invariant-loop-reply
invariant-loop-reply l = list_any takes_nodes (drop l.reply-index l.replies) ≡ list_any takes_nodes l.replies
