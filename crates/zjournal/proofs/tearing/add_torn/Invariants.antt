use Rattle.std.proofs.Common.{◌≡◌, ◌≤◌, ◌++◌, List, ℕ, length}
use Rattle.zjournal.proofs.tearing.add_torn.Given as goal

abbrev pub invariant-loop-i : goal.invariant-loop-i
invariant-loop-i l = (range : List ℕ) × (l.next.items ≡ l.fn.next.items ++ range) × (length range ≡ l.i) × (l.i ≤ length l.bytes)
