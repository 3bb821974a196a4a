-- The map of nodes after one more entry.
use Rattle.std.proofs.Common.{◌≡◌, ◌≢◌, false, cond, [], ◌∷◌, ◌++◌, Some, refl, ap, ◌∙◌}
use Rattle.std.specs.declared.cmp.Ordering.{Ordering}
use Rattle.std.specs.declared.cmp.Ordering.TheVariants.{Less, Equal, Greater}
use Rattle.std.specs.Ordering.{is_eq}
use Rattle.std.specs.FinMap as finite
use Rattle.std.specs.FinMap.{get-insert, from_sorted, entries-from_sorted, empty_of_len, len-entries}
use Rattle.std.proofs.Common.{length}
use Rattle.zpath.specs.Grammar.{path_cmp}
use Rattle.ztree.specs.declared.node.Node.{Node}
use Rattle.ztree.specs.Tree.{Path, Name, Nodes, parent_of, with_change_at}
use Rattle.ztree.proofs.Sorted.{paths_total, same_path, from_sorted-put}

pub changed_at-some : (nodes : Nodes) (path : Path) (f : Node → Node) (n : Node) → finite.get nodes path ≡ Some n → with_change_at nodes path f ≡ finite.insert nodes path (f n)
changed_at-some nodes path f n e = rw e refl

-- the map of no entries
pub no_entries : {K X : Type 0} (R : K → K → Ordering) → from_sorted {K = K} {X = X} {R = R} [] ≡ finite.empty
no_entries R = empty_of_len (from_sorted {R = R} []) (len-entries (from_sorted {R = R} []) ∙ ap length (entries-from_sorted R [] tt))

untied : (p q : Path) (r : Ordering) → path_cmp p q ≡ r → p ≢ q → is_eq r ≡ false
untied p q Less e other = refl
untied p q Equal e other = absurd (other (same_path p q e))
untied p q Greater e other = refl

-- other paths have what they had
pub get-insert-other : (nodes : Nodes) (path : Path) (n : Node) (q : Path) → q ≢ path → finite.get (finite.insert nodes path n) q ≡ finite.get nodes q
get-insert-other nodes path n q other = get-insert paths_total nodes path n q ∙ ap (λ t. cond t (Some n) (finite.get nodes q)) (untied q path (path_cmp q path) refl other)

-- no path but the root is its own parent
pub parent_is_other : (path : Path) → path ≢ [] → parent_of path ≢ path
parent_is_other [] below e = below refl
parent_is_other (n ∷ []) below e = cc
parent_is_other (n ∷ (m ∷ path)) below e = parent_is_other (m ∷ path) (λ f. cc) (cc e)

-- the parent of a path with one more name
pub parent_of-front : (above : Path) (name : Name) → parent_of (above ++ name ∷ []) ≡ above
parent_of-front [] name = refl
parent_of-front (n ∷ []) name = refl
parent_of-front (n ∷ (m ∷ above)) name = ap (λ p. n ∷ p) (parent_of-front (m ∷ above) name)

-- the map of one entry
pub one_entry : (path : Path) (n : Node) → from_sorted {R = path_cmp} ((path, n) ∷ []) ≡ finite.insert finite.empty path n
one_entry path n = from_sorted-put path_cmp paths_total path n [] ((path, n) ∷ []) tt refl ∙ ap (λ (m : Nodes). finite.insert m path n) (no_entries path_cmp)
