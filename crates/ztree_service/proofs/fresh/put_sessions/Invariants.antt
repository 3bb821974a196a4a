use Rattle.std.specs.FinMap.{entries}
use Rattle.zstore.specs.Restored.{with_session_rows}
use Rattle.zops.specs.Restored.{with_plain}
use Rattle.ztree_service.specs.Machines.{tree_in}
use Rattle.ztree_service.proofs.Anew.{SessionsAreLeft}
use Rattle.ztree_service.proofs.fresh.put_sessions.Given as goal

-- the sessions that weren't gone over are still to be put
abbrev pub invariant-loop-id : goal.invariant-loop-id
invariant-loop-id l =
    SessionsAreLeft (tree_in l.machine)
    (with_plain l.initial.restoring (with_session_rows l.initial.restoring.service.plain (entries (tree_in l.machine).sessions)))
    l.restoring l.id-iterator.rest.items
