-- What is found at each path of a tree of two nodes after a change: what the worked rows ask for.
use Rattle.std.proofs.Common.{◌≡◌, ◌≢◌, [], ◌∷◌, Some, None, sym, ap, ◌∙◌}
use Rattle.std.specs.FinMap as finite
use Rattle.ztree.specs.declared.node.Node.{Node}
use Rattle.ztree.specs.Tree.{Name, Path, Nodes, with_change_at}
use Rattle.ztree.specs.support.Samples.{a, b, some_node, two_nodes}
use Rattle.ztree.proofs.Sorted.{paths_total, same_path}
use Rattle.ztree.proofs.Maps.{get-insert-here, get-insert-elsewhere, get-remove-here, get-remove-elsewhere}
use Rattle.ztree.proofs.Nodes.{changed_at-some, no_entries}
use Rattle.std.specs.FinMap.{put, entries-insert, entries-from_sorted}
use Rattle.zpath.specs.Grammar.{path_cmp}

module _ (m : Nodes) (p : Path) (f : Node → Node) (n : Node) (there : finite.get m p ≡ Some n) where
  pub found_changed : finite.get (with_change_at m p f) p ≡ Some (f n)
  found_changed = ap (λ nodes. finite.get nodes p) (changed_at-some m p f n there) ∙ get-insert-here paths_total same_path m p (f n)

  pub found_beside : (q : Path) → q ≢ p → finite.get (with_change_at m p f) q ≡ finite.get m q
  found_beside q other =
      ap (λ nodes. finite.get nodes q) (changed_at-some m p f n there) ∙ get-insert-elsewhere paths_total same_path m p (f n) q other

pub root_is_above : (x : Name) → ◌≢◌ {A = Path} [] (x ∷ [])
root_is_above x e = cc

pub child_is_below : (x y : Name) → ◌≢◌ {A = Path} (x ∷ (y ∷ [])) (x ∷ [])
child_is_below x y e = cc

pub parent_is_above : (x y : Name) → ◌≢◌ {A = Path} (x ∷ []) (x ∷ (y ∷ []))
parent_is_above x y e = cc

pub root_is_far_above : (x y : Name) → ◌≢◌ {A = Path} [] (x ∷ (y ∷ []))
root_is_far_above x y e = cc

-- the two nodes
pub second_there : finite.get two_nodes.nodes (a ∷ []) ≡ Some some_node
second_there = get-insert-here paths_total same_path (finite.insert finite.empty [] some_node) (a ∷ []) some_node

pub root_there : finite.get two_nodes.nodes [] ≡ Some some_node
root_there =
    get-insert-elsewhere paths_total same_path (finite.insert finite.empty [] some_node) (a ∷ []) some_node [] (root_is_above a)
    ∙ get-insert-here paths_total same_path finite.empty [] some_node

-- with a third beneath the second, before the second is marked
module _ (new : Node) where
  abbrev pub three : Nodes
  three = finite.insert two_nodes.nodes (a ∷ (b ∷ [])) new

  pub second_still : finite.get three (a ∷ []) ≡ Some some_node
  second_still = get-insert-elsewhere paths_total same_path two_nodes.nodes (a ∷ (b ∷ [])) new (a ∷ []) (parent_is_above a b) ∙ second_there

  pub root_still : finite.get three [] ≡ Some some_node
  root_still = get-insert-elsewhere paths_total same_path two_nodes.nodes (a ∷ (b ∷ [])) new [] (root_is_far_above a b) ∙ root_there

  pub third_there : finite.get three (a ∷ (b ∷ [])) ≡ Some new
  third_there = get-insert-here paths_total same_path two_nodes.nodes (a ∷ (b ∷ [])) new

-- and without the second, before the root is marked
abbrev pub one : Nodes
one = finite.remove two_nodes.nodes (a ∷ [])

pub root_left : finite.get one [] ≡ Some some_node
root_left = get-remove-elsewhere paths_total same_path two_nodes.nodes (a ∷ []) [] (root_is_above a) ∙ root_there

pub second_gone : finite.get one (a ∷ []) ≡ None
second_gone = get-remove-here paths_total same_path two_nodes.nodes (a ∷ [])

pub second_is_below : (x : Name) → ◌≢◌ {A = Path} (x ∷ []) []
second_is_below x e = cc

-- the entries of the two nodes
abbrev pub nodes_with : Node → Node → Nodes
nodes_with x y = finite.insert (finite.insert finite.empty [] x) (a ∷ []) y

pub both_entries : (x y : Node) → finite.entries (nodes_with x y) ≡ ([], x) ∷ ((a ∷ []), y) ∷ []
both_entries x y =
    entries-insert paths_total (finite.insert finite.empty [] x) (a ∷ []) y
    ∙ ap (put path_cmp (a ∷ []) y) (entries-insert paths_total finite.empty [] x
    ∙ ap (put path_cmp [] x) (ap finite.entries (sym (no_entries path_cmp)) ∙ entries-from_sorted path_cmp [] tt))

pub two_entries : finite.entries two_nodes.nodes ≡ ([], some_node) ∷ ((a ∷ []), some_node) ∷ []
two_entries = both_entries some_node some_node
