use Rattle.std.proofs.Common.{◌≡◌, ◌++◌, drop, string_bytes}
use Rattle.zrace.specs.Text.{node_lines}
use Rattle.zrace.proofs.outcome.Outcome.text.Given as goal

-- what is written, and the lines of the nodes that are left, are the lines of all
abbrev pub invariant-loop-node : goal.invariant-loop-node
invariant-loop-node l =
    (string_bytes l.text ++ node_lines l.node (drop l.node l.self.versions.items) ≡ node_lines 0 l.self.versions.items)
    × (l.self ≡ l.initial.self)
