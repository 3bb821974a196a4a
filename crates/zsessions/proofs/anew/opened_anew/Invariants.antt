use Rattle.std.proofs.Common.{◌+◌, ◌≤◌, length}
use Rattle.zsessions.proofs.Reopened.{Left}
use Rattle.zsessions.proofs.anew.opened_anew.Given as goal

-- all sessions are open but those of the entries that are left
abbrev pub invariant-loop-number : goal.invariant-loop-number
invariant-loop-number l =
    record {
      left : Left l.ids.entries l.rows.items l.copy.sessions l.number-iterator;
      few : l.copy.given + length l.number-iterator ≤ length l.ids.entries;
    }
