use Rattle.std.proofs.Common.{◌≡◌, ◌++◌, drop}
use Rattle.zresponses.specs.effects.Wishes as table
use Rattle.zresponses.proofs.effects.again.wishes_again.Given as goal

abbrev pub invariant-loop-place : goal.invariant-loop-place
invariant-loop-place l =
    l.list.items ++ table.wishes_again l.kind l.seen (drop l.place l.calls) (drop l.place l.replies)
    ≡ l.initial.list.items ++ table.wishes_again l.kind l.seen l.calls l.replies
