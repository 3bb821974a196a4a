use Rattle.std.proofs.Common.{◌≡◌, ◌<◌, ◌≤◌, ℕ, false, get_or}
use Rattle.zworld.specs.links.Places.{Reaches}
use Rattle.zworld.proofs.links.notices.Notices.sooner.Given as goal

abbrev pub invariant-loop-server : goal.invariant-loop-server
invariant-loop-server l =
    (s : ℕ) → Reaches l.from l.to s 0 → 0 < s → s < l.server → s ≤ l.next.sender → get_or l.self s false ≡ false
