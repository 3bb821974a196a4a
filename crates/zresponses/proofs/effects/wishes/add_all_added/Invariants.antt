use Rattle.std.proofs.Common.{◌≡◌, ◌++◌, drop}
use Rattle.zresponses.specs.effects.Wishes.{all_added}
use Rattle.zresponses.proofs.effects.wishes.add_all_added.Given as goal

abbrev pub invariant-loop-call : goal.invariant-loop-call
invariant-loop-call l =
    l.list.items ++ all_added l.mode (drop l.call-index l.calls) ≡ l.initial.list.items ++ all_added l.mode l.calls
