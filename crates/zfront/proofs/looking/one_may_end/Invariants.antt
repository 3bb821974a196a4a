use Rattle.std.proofs.Common.{◌≡◌, drop}
use Rattle.std.specs.List.{list_any}
use Rattle.zfront.specs.Front.{may_end}
use Rattle.zfront.proofs.looking.one_may_end.Given as goal

-- of those that are left one does exactly if one of all does
abbrev pub invariant-loop-call : goal.invariant-loop-call
invariant-loop-call l = list_any may_end (drop l.call-index l.calls) ≡ list_any may_end l.calls
