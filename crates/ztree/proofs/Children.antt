-- The name that a path has beneath another.
use Rattle.std.proofs.Common.{◌≡◌, ◌≢◌, Bool, true, false, cond, List, [], ◌∷◌, ◌++◌, map, Option, Some, None, refl, sym, ap, ◌∙◌, ◌&&◌}
use Rattle.std.specs.List.{cons_option, filter_map}
use Rattle.std.specs.FinMap as finite
use Rattle.std.proofs.lemmas.Slice.Eq.{bytes_eq-Decides}
use Rattle.std.specs.Cmp.Lexicographic.{pointwise, nat_list_eq_equiv}
use Rattle.std.specs.Str.{bytes_eq}
use Rattle.ztree.specs.declared.node.Node.{Node}
use Rattle.ztree.specs.Tree.{Path, Name, Nodes, child_name, children, parent_of}
use Rattle.ztree.proofs.Sorted.{paths_total, same_path}
use Rattle.ztree.proofs.Maps.{none_some, none_of_entries}

if_both : (s t u : Bool) (o : Option Name) (n : Name) → s ≡ t → o ≡ cond u (Some n) None → cond s o None ≡ cond (t && u) (Some n) None
if_both true t u o n e f = rw (← e) f
if_both false t u o n e f = rw (← e) refl

either_way : (t : Bool) (o : Option Name) → o ≡ None → cond t o None ≡ None
either_way true o e = e
either_way false o e = refl

pub root_is_no_child : (p : Path) → child_name p [] ≡ None
root_is_no_child [] = refl
root_is_no_child (a ∷ p) = refl

-- a path that ends in a name has it beneath p where its front is p
pub child_name-front : (p front : Path) (n : Name) → child_name p (front ++ n ∷ []) ≡ cond (pointwise bytes_eq front p) (Some n) None
child_name-front [] [] n = refl
child_name-front [] (a ∷ []) n = refl
child_name-front [] (a ∷ (b ∷ front)) n = refl
child_name-front (a ∷ p) [] n = either_way (bytes_eq a n) (child_name p []) (root_is_no_child p)
child_name-front (a ∷ p) (b ∷ front) n = if_both (bytes_eq a b) (bytes_eq b a) _ _ n (nat_list_eq_equiv.symm a b) (child_name-front p front n)

-- a path is a child of its parent, unless it is the root
pub named_by_parent : (q : Path) → q ≢ [] → child_name (parent_of q) q ≡ None → ⊥
named_by_parent [] below e = below refl
named_by_parent (n ∷ []) below e = cc
named_by_parent (n ∷ (m ∷ q)) below e = named_by_parent (m ∷ q) (λ f. cc) (rw ((bytes_eq-Decides n n).1 refl) at e)

same_first : (a b : Name) (p q : Path) (n : Name) → (child_name p q ≡ Some n → parent_of q ≡ p) → (t : Bool) → bytes_eq a b ≡ t → cond t (child_name p q) None ≡ Some n → parent_of (b ∷ q) ≡ a ∷ p
same_first a b p q n further false same named = absurd (none_some n named)
same_first a b p [] n further true same named = absurd (none_some n (sym (root_is_no_child p) ∙ named))
same_first a b p (c ∷ q) n further true same named = λ i. sym ((bytes_eq-Decides a b).0 same) i ∷ further named i

-- and of no other path
pub parent_of_child : (p q : Path) (n : Name) → child_name p q ≡ Some n → parent_of q ≡ p
parent_of_child [] [] n e = refl
parent_of_child [] (a ∷ []) n e = refl
parent_of_child [] (a ∷ (b ∷ q)) n e = absurd (none_some n e)
parent_of_child (a ∷ p) [] n e = absurd (none_some n e)
parent_of_child (a ∷ p) (b ∷ q) n e = same_first a b p q n (parent_of_child p q n) (bytes_eq a b) refl e

-- the names of keys, and those of entries
pub names_of_keys : {X : Type 0} (p : Path) (es : List (Path × X)) → filter_map (λ (e : Path × X). child_name p e.0) es ≡ filter_map (child_name p) (map (λ (e : Path × X). e.0) es)
names_of_keys p [] = refl
names_of_keys p (e ∷ es) = ap (cons_option (child_name p e.0)) (names_of_keys p es)

-- a node without children is no node's parent
pub children_gone : (nodes : Nodes) (path q : Path) (n : Node) → path ≢ [] → children nodes path ≡ [] → finite.get nodes q ≡ Some n → parent_of q ≢ path
children_gone nodes path q n below leaf found is =
    let none = none_of_entries paths_total same_path (λ (e : Path × Node). child_name path e.0) nodes q n (names_of_keys path (finite.entries nodes) ∙ leaf) found in
    named_by_parent q (λ root. below (sym is ∙ ap parent_of root)) (ap (λ p. child_name p q) is ∙ none)
