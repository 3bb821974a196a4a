-- Samples for the worked examples.
use Rattle.std.specs.Prelude.{ℕ, List, [], ◌∷◌, codes}
use Rattle.std.specs.FinMap as finite
use Rattle.ztree.specs.declared.term.Term.{Term}
use Rattle.ztree.specs.declared.term.Term.TheVariants.{Unlimited, Timed, Container}
use Rattle.ztree.specs.declared.node.Node.{Node}
use Rattle.ztree.specs.declared.session.Session.{Session}
use Rattle.ztree.specs.Limits.{profile}
use Rattle.ztree.specs.Tree.{Tree, new_node}
use Rattle.ztree.specs.support.Samples.{a, at_a, at_a_b, b}
use Rattle.zsnapshots.specs.declared.export.tally.TreeCounts.{TreeCounts}
use Rattle.zsnapshots.specs.declared.export.stat.FolderStat.{FolderStat}

-- a node of change 3 with this data, this owner and this term
abbrev pub node_with : List ℕ → ℕ → Term → Node
node_with bytes owner term = new_node bytes owner term 3 4

-- the root, with data; beneath it a container without data, and beneath that a node with a TTL of 12
-- ticks
abbrev pub timed_tree : Tree
timed_tree = record {
  nodes = finite.insert (finite.insert (finite.insert finite.empty [] (node_with (codes "hi") 0 Unlimited))
      at_a (node_with [] 0 Container)) at_a_b (node_with (codes "hi") 0 (Timed 12));
  sessions = finite.empty;
  time = 30;
  zxid = 40;
  limits = profile;
}

-- a root without data, and beneath it a node of session 9
abbrev pub owned_tree : Tree
owned_tree = record {
  nodes = finite.insert (finite.insert finite.empty [] (record (node_with [] 0 Unlimited) { seq = 5 }))
      at_a (node_with (codes "hi") 9 Unlimited);
  sessions = finite.insert finite.empty 9 (record { client = 0; timeout = 5; deadline = 33 });
  time = 30;
  zxid = 40;
  limits = profile;
}

-- the counts of that tree, and a folder of it
abbrev pub owned_counts : TreeCounts
owned_counts = record { nodes = 2; bytes = 2; ephemerals = 1; counters = 1; sessions = 1; changes = 40; ticks = 30 }

abbrev pub some_stat : FolderStat
some_stat = record { tree = owned_counts; journal = 300; snapshot = 80 }
