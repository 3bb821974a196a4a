use Rattle.std.proofs.Common.{◌≡◌, length}
use Rattle.zstore.specs.support.Undoing.{release_all, AllHeld}
use Rattle.zstore.proofs.undoing.free_all.Given as goal

abbrev pub invariant-loop-last : goal.invariant-loop-last
invariant-loop-last l = record {
  held : AllHeld l.left l.nodes.held;
  nodes : record l.nodes { held = release_all l.left l.nodes.held } ≡ record l.initial.nodes
      { held = release_all l.undos l.initial.nodes.held };
}

abbrev pub decreases-loop-last : goal.decreases-loop-last
decreases-loop-last l = length l.left
