use Rattle.std.proofs.Common.{◌≡◌, ◌+◌, ◌≤◌, ◌++◌, length, map}
use Rattle.std.specs.Vec.{vec_capacity}
use Rattle.zprotocol.specs.declared.limits.TheConstants.{MAX_SERVERS}
use Rattle.zrun.specs.Handles.{given_server}
use Rattle.zrun.specs.Runs.{AreLeftBy}
use Rattle.zrun.proofs.joining.join_servers.Given as goal

abbrev pub invariant-loop-server : goal.invariant-loop-server
invariant-loop-server g l =
    (l.fn.servers.items ≡ l.yielded ++ l.server-iterator.rest.items)
    × (length l.endings.items + length l.server-iterator.rest.items ≡ MAX_SERVERS)
    × (MAX_SERVERS ≤ vec_capacity l.endings)
    × AreLeftBy (map given_server l.yielded) l.endings.items
