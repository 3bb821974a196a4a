use Rattle.std.proofs.Common.{◌≡◌, ◌+◌, ◌-◌, length}
use Rattle.zprotocol.specs.declared.limits.TheConstants.{MAX_SERVERS}
use Rattle.zrun.specs.Posts.{post_endpoints}
use Rattle.zrun.specs.Runs.{AreEndpoints, AreTraced}
use Rattle.zrun.specs.Supplies.{HandsOut, left}
use Rattle.zrun.proofs.posts.prepare_servers.Given as goal

abbrev pub invariant-loop-done : goal.invariant-loop-done
invariant-loop-done l =
    let opening = l.initial.opening in
    (length l.servers.items ≡ l.done) × (left l.supply + l.done ≡ left l.initial.supply)
    × (l.opening ≡ opening)
    × HandsOut l.initial.supply l.supply (post_endpoints l.servers.items)
    × AreEndpoints opening.last opening.clients (1 + (MAX_SERVERS - l.done)) (post_endpoints l.servers.items)
    × AreTraced opening.is_traced (post_endpoints l.servers.items)
