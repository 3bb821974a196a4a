use Rattle.std.proofs.Common.{◌≡◌, length}
use Rattle.std.specs.Prelude.{All, IsNone}
use Rattle.zrace.proofs.room.blank_versions.Given as goal

abbrev pub invariant-loop : goal.invariant-loop
invariant-loop l = (length l.versions.items ≡ l.counter) × All IsNone l.versions.items
