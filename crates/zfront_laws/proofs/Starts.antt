-- The initial tree is settled within any limits, and a service can begin with a settled tree.
use Rattle.std.proofs.Common.{arith}
use Rattle.ztree.specs.Tree.{Tree, opening_within}
use Rattle.ztree.proofs.Lawful.{lawful_opening}
use Rattle.zcalls.proofs.Bounds.{opening_bounded}
use Rattle.zcalls.proofs.Zxids.{IsSettled as ArePast, opening-settled}
use Rattle.zops.specs.Restored.{AllDated}
use Rattle.zfront_laws.specs.Starts.{InitialTreesAreSettled, SettledTreesCanStart}

dated : (t : Tree) → ArePast t → AllDated t
dated t is path n e =
    let old = is path n e in record {
      czxid = omega (arith, old.older.czxid);
      mzxid = omega (arith, old.older.mzxid);
      pzxid = omega (arith, old.older.pzxid);
      ctime = old.ctime;
      mtime = old.mtime;
    }

pub initial_trees_are_settled : InitialTreesAreSettled
initial_trees_are_settled limits allowed = record {
  lawful = lawful_opening limits allowed;
  bounded = opening_bounded limits;
  dated = dated (opening_within limits) (opening-settled limits);
}

pub settled_trees_can_start : SettledTreesCanStart
settled_trees_can_start t settled = record { lawful = settled.lawful; granted = settled.bounded.sessions }
