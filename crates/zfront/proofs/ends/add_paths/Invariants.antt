use Rattle.std.proofs.Common.{◌≡◌, ◌++◌}
use Rattle.zfront.proofs.ends.add_paths.Given as goal

-- those so far were put behind the others
abbrev pub invariant-loop-path : goal.invariant-loop-path
invariant-loop-path l =
    (l.fn.more.items ≡ l.yielded ++ l.path-iterator.rest.items) × (l.paths.items ≡ l.initial.paths.items ++ l.yielded)
