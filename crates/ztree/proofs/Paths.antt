-- What preserves that each key is a path.
use Rattle.std.proofs.Common.{◌≡◌, ◌≢◌, ◌⊎◌, inl, inr, [], Option, Some, None, refl, sym, subst, ◌∙◌, ◌+◌, Bool, List, ℕ, arith}
use Rattle.std.specs.Option.{option_map_or}
use Rattle.std.specs.FinMap as finite
use Rattle.std.specs.FinMap.{get-empty}
use Rattle.zpath.specs.Grammar.{IsPath, path_cmp}
use Rattle.ztree.specs.declared.term.Term.{Term}
use Rattle.ztree.specs.declared.term.Term.TheVariants.{Unlimited}
use Rattle.ztree.specs.declared.node.Node.{Node}
use Rattle.ztree.specs.Tree.{Tree, Path, Nodes, opening_tree, new_node, parent_of, with_change_at, with_child, with_node, without_child, without_node, with_data, with_data_at}
use Rattle.ztree.specs.Lawful.{HasPaths}
use Rattle.ztree.proofs.Sorted.{paths_total, same_path}
use Rattle.ztree.proofs.Maps.{none_some, has_some, is_there, get-removed, get-inserted}

-- the root is a path
pub root_is_path : IsPath []
root_is_path = record { names = tt; short = omega arith; shallow = omega arith; unreserved = refl }

-- no node has none but paths
pub paths_empty : HasPaths finite.empty
paths_empty q is = let n = has_some _ is in absurd (none_some n.0 (sym (get-empty path_cmp q) ∙ n.1))

-- one more node at a path
pub paths_inserted : (nodes : Nodes) (path : Path) (new : Node) → HasPaths nodes → IsPath path → HasPaths (finite.insert nodes path new)
paths_inserted nodes path new all here q is = let n = has_some _ is in by n.0 (get-inserted paths_total same_path nodes path new q n.0 n.1)
  where
    by : (n : Node) → ((q ≡ path) × (new ≡ n)) ⊎ ((q ≢ path) × (finite.get nodes q ≡ Some n)) → IsPath q
    by n (inl same) = subst IsPath (sym same.0) here
    by n (inr old) = all q (is_there _ n old.1)

-- one node fewer
pub paths_removed : (nodes : Nodes) (path : Path) → HasPaths nodes → HasPaths (finite.remove nodes path)
paths_removed nodes path all q is = let n = has_some _ is in all q (is_there _ n.0 (get-removed paths_total same_path nodes path q n.0 n.1).1)

-- a node changed
pub paths_changed : (nodes : Nodes) (path : Path) (f : Node → Node) → HasPaths nodes → HasPaths (with_change_at nodes path f)
paths_changed nodes path f all = by (finite.get nodes path) refl
  where
    by : (o : Option Node) → finite.get nodes path ≡ o → HasPaths (option_map_or (λ n. finite.insert nodes path (f n)) o nodes)
    by None e = all
    by (Some n) e = paths_inserted nodes path (f n) all (all path (is_there _ n e))

-- the opening has the root alone
pub paths_opening : HasPaths opening_tree.nodes
paths_opening = paths_inserted finite.empty [] (new_node [] 0 Unlimited 0 0) paths_empty root_is_path

-- and each change of a tree preserves it
pub paths_with_node : (t : Tree) (path : Path) (bytes : List ℕ) (owner : ℕ) (term : Term) (sequential : Bool) → HasPaths t.nodes → IsPath path → HasPaths (with_node t path bytes owner term sequential).nodes
paths_with_node t path bytes owner term sequential all here =
    let new = new_node bytes owner term (t.zxid + 1) t.time in
    paths_changed (finite.insert t.nodes path new) (parent_of path) (with_child (t.zxid + 1) sequential) (paths_inserted t.nodes path new all here)

pub paths_without_node : (t : Tree) (path : Path) → HasPaths t.nodes → HasPaths (without_node t path).nodes
paths_without_node t path all = paths_changed (finite.remove t.nodes path) (parent_of path) (without_child (t.zxid + 1)) (paths_removed t.nodes path all)

pub paths_with_data : (t : Tree) (path : Path) (bytes : List ℕ) → HasPaths t.nodes → HasPaths (with_data_at t path bytes).nodes
paths_with_data t path bytes = paths_changed t.nodes path (with_data bytes (t.zxid + 1) t.time)
