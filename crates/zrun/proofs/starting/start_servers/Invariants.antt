use Rattle.std.proofs.Common.{◌≡◌, ◌+◌, ◌≤◌, ◌++◌, length, map}
use Rattle.std.specs.Vec.{vec_capacity}
use Rattle.zprotocol.specs.declared.limits.TheConstants.{MAX_SERVERS}
use Rattle.zrun.specs.Handles.{given_server}
use Rattle.zrun.specs.Posts.{post_endpoints}
use Rattle.zrun.proofs.starting.start_servers.Given as goal

abbrev pub invariant-loop : goal.invariant-loop
invariant-loop g l =
    (length l.posts.items + l.counter ≡ MAX_SERVERS) × (length l.gates.items + l.counter ≡ MAX_SERVERS)
    × (length l.started.items ≡ l.counter) × (MAX_SERVERS ≤ vec_capacity l.started)
    × (map given_server l.started.items ++ post_endpoints l.posts.items ≡ post_endpoints l.fn.posts.items)
