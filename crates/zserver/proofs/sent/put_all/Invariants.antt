use Rattle.std.proofs.Common.{◌≡◌, ◌≤◌, ◌++◌, length, map}
use Rattle.zprotocol.specs.server.Table.{forward_post}
use Rattle.zserver.proofs.sent.put_all.Given as goal

abbrev pub invariant-loop-number : goal.invariant-loop-number
invariant-loop-number l =
    (length l.entries.items ≤ l.out.room)
    × (l.out.posts ++ map (forward_post l.succ) l.entries.items ≡ l.fn.out.posts ++ map (forward_post l.succ) l.fn.entries.items)

abbrev pub decreases-loop-number : goal.decreases-loop-number
decreases-loop-number l = length l.entries.items
