use Rattle.std.proofs.Common.{◌≡◌, ◌+◌, ◌-◌, length, reverse}
use Rattle.zprotocol.specs.declared.limits.TheConstants.{MAX_SERVERS}
use Rattle.zrun.specs.Origins.{client_endpoints}
use Rattle.zrun.specs.Runs.{AreEndpoints, AreTraced}
use Rattle.zrun.specs.Supplies.{HandsOut, left}
use Rattle.zrun.proofs.posts.prepare_clients.Given as goal

abbrev pub invariant-loop-done : goal.invariant-loop-done
invariant-loop-done l =
    let opening = l.initial.opening in
    (length l.clients.items ≡ l.done) × (left l.supply + l.done ≡ left l.initial.supply)
    × (l.opening ≡ opening) × (l.done-end ≡ opening.clients)
    × HandsOut l.initial.supply l.supply (client_endpoints (reverse l.clients.items))
    × AreEndpoints opening.last opening.clients (MAX_SERVERS + 1 + (opening.clients - l.done)) (client_endpoints (reverse l.clients.items))
    × AreTraced opening.is_traced (client_endpoints (reverse l.clients.items))
