use Rattle.std.proofs.Common.{◌≡◌, ◌++◌, drop}
use Rattle.zwatches.specs.changes.Events.{parts_events}
use Rattle.zwatches.proofs.changes.events.add_parts.Given as goal

abbrev pub invariant-loop-place : goal.invariant-loop-place
invariant-loop-place l =
    l.events.items ++ parts_events (drop l.place l.parts) (drop l.place l.replies)
    ≡ l.initial.events.items ++ parts_events l.parts l.replies
