use Rattle.std.proofs.Common.{◌≡◌}
use Rattle.zfront.specs.Restoring.{tables_of}
use Rattle.zfront.proofs.Seating.{with_rest}
use Rattle.zfront.proofs.beginning.tables_of.Given as goal

abbrev pub invariant-loop-session : goal.invariant-loop-session
invariant-loop-session l = with_rest l.sessions l.session-index l.tables ≡ tables_of l.fn.limits l.sessions
