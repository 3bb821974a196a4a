use Rattle.std.proofs.Common.{◌≡◌, false}
use Rattle.zdisk_tests.proofs.snapshots.machines.machine.Given as goal

abbrev pub invariant-loop-line : goal.invariant-loop-line
invariant-loop-line g l = l.machine.is_broken ≡ false
