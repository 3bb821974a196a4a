use Rattle.std.proofs.Common.{◌≡◌, ℕ, ◌||◌, drop}
use Rattle.zwatches.specs.Events.{above}
use Rattle.zwatches.specs.support.Groups.{among, waits_at}
use Rattle.zwatches.proofs.firing.report_above.Given as goal

-- those so far and those who wait at the positions that are left are all
abbrev pub invariant-loop-depth : goal.invariant-loop-depth
invariant-loop-depth l =
    (q : ℕ) → (among l.reported.items q || waits_at l.watches (drop l.depth (above l.names)) q)
    ≡ (among l.initial.reported.items q || waits_at l.watches (above l.names) q)
