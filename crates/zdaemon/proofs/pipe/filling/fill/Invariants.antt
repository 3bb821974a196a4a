use Rattle.std.specs.Prelude.{◌≡◌, ◌≤◌, ◌-◌, length, take}
use Rattle.zdevices.specs.Device.{Between}
use Rattle.zdaemon.proofs.pipe.filling.fill.Given as goal

-- the source gave the bytes so far
abbrev pub invariant-loop-count : goal.invariant-loop-count
invariant-loop-count g l =
    Between g.S.Source.gave l.initial.source l.source (take l.count l.bytes) × (l.count ≤ length l.bytes) × (length l.bytes ≡ length l.initial.bytes)

abbrev pub decreases-loop-count : goal.decreases-loop-count
decreases-loop-count g l = length l.bytes - l.count
