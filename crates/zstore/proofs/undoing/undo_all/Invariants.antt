use Rattle.std.proofs.Common.{◌≡◌, ◌≤◌}
use Rattle.std.specs.Vec.{vec_len}
use Rattle.zstore.specs.support.Undoing.{parts_of, all_undone, FitAll, all_returning}
use Rattle.zstore.proofs.undoing.undo_all.Given as goal

abbrev pub invariant-loop-undo : goal.invariant-loop-undo
invariant-loop-undo l = record {
  parts : all_undone l.undos.items (parts_of l.nodes) ≡ all_undone l.initial.undos.items
      (parts_of l.initial.nodes);
  fit : FitAll l.nodes.owners l.undos.items (parts_of l.nodes);
  room : all_returning l.undos.items ≤ l.nodes.room;
  owners : l.nodes.owners ≡ l.initial.nodes.owners;
  given : l.nodes.given ≡ l.initial.nodes.given;
}

abbrev pub decreases-loop-undo : goal.decreases-loop-undo
decreases-loop-undo l = vec_len l.undos
