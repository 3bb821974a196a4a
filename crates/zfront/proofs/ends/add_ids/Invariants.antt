use Rattle.std.proofs.Common.{◌≡◌, ◌++◌}
use Rattle.zfront.proofs.ends.add_ids.Given as goal

-- those so far were put behind the others
abbrev pub invariant-loop-id : goal.invariant-loop-id
invariant-loop-id l =
    (l.fn.more.items ≡ l.yielded ++ l.id-iterator.rest.items) × (l.ids.items ≡ l.initial.ids.items ++ l.yielded)
