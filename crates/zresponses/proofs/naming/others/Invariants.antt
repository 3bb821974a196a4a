use Rattle.std.proofs.Common.{◌≡◌, ◌≤◌, take, length}
use Rattle.zresponses.specs.Naming.{others}
use Rattle.zresponses.proofs.naming.others.Given as goal

-- the others of the paths so far, which are no more than these
abbrev pub invariant-loop-path : goal.invariant-loop-path
invariant-loop-path l = (l.texts.items ≡ others (take l.path-index l.paths)) × (length l.texts.items ≤ l.path-index)
