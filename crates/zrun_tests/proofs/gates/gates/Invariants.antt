use Rattle.std.proofs.Common.{◌≡◌, length}
use Rattle.zrun_tests.proofs.gates.gates.Given as goal

abbrev pub invariant-loop-place : goal.invariant-loop-place
invariant-loop-place l = length l.gates.items ≡ l.place
