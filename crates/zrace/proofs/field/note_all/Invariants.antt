use Rattle.std.proofs.Common.{◌≡◌, length}
use Rattle.zrace.specs.Shown.{KeepsShown}
use Rattle.zrace.specs.Seen.{KeepsSeen}
use Rattle.zrace.proofs.field.note_all.Given as goal

abbrev pub invariant-loop-at : goal.invariant-loop-at
invariant-loop-at l =
    (length l.versions.items ≡ length l.initial.versions.items)
    × KeepsSeen l.initial.versions.items l.versions.items l.seen.items
    × KeepsShown l.initial.versions.items l.versions.items l.seen.items
    × (l.seen ≡ l.initial.seen)
