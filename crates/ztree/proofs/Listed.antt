-- Which names are listed among the children of a node, and which paths among the ephemerals of a session.
use Rattle.std.proofs.Common.{◌≡◌, Bool, true, false, cond, List, [], ◌∷◌, ◌++◌, map, Option, Some, None, refl, sym, ap, subst, ◌∙◌}
use Rattle.std.specs.Prelude.{is_some, ◌==◌}
use Rattle.std.specs.List.{filter_map, cons_option, list_any}
use Rattle.std.specs.Ordering.{eq_by_cmp}
use Rattle.std.specs.Cmp.{tied_itself}
use Rattle.std.specs.Cmp.Lexicographic.{nat_list_eq_equiv, lists_equiv}
use Rattle.std.specs.FinMap as finite
use Rattle.std.specs.FinMap.{find, get-entries}
use Rattle.std.specs.Str.{bytes_eq}
use Rattle.std.proofs.lemmas.Slice.Eq.{bytes_eq-Decides}
use Rattle.zpath.specs.Grammar.{path_cmp}
use Rattle.ztree.specs.declared.node.Node.{Node}
use Rattle.ztree.specs.Tree.{Path, Name, child_name}
use Rattle.ztree.specs.Laws.{ListsChildren, IsParentOfChild, ListsEphemerals, ListsStale}
use Rattle.ztree.specs.Stale.{is_stale}
use Rattle.ztree.proofs.Among.{among_where}
use Rattle.ztree.proofs.Sorted.{paths_total, same_path}
use Rattle.ztree.proofs.Maps.{same_some, none_some, tied_same}
use Rattle.ztree.proofs.Children.{child_name-front}
use Rattle.ztree.proofs.Nodes.{parent_of-front}
use Rattle.ztree.proofs.Ending.{among_entries}

-- the path with a name appended has that name beneath the path
pub child_name-appended : (p : Path) (n : Name) → child_name p (p ++ n ∷ []) ≡ Some n
child_name-appended p n = child_name-front p p n ∙ ap (λ t. cond t (Some n) None) ((lists_equiv nat_list_eq_equiv).refl p)

-- and no other path has it
pub child_is_appended : (p q : Path) (n : Name) → child_name p q ≡ Some n → q ≡ p ++ n ∷ []
child_is_appended [] [] n e = absurd (none_some n e)
child_is_appended [] (a ∷ []) n e = ap (λ m. m ∷ []) (same_some a n e)
child_is_appended [] (a ∷ (b ∷ q)) n e = absurd (none_some n e)
child_is_appended (a ∷ p) [] n e = absurd (none_some n e)
child_is_appended (a ∷ p) (b ∷ q) n e = by (child_is_appended p q n) (bytes_eq a b) refl e
  where
    by : (child_name p q ≡ Some n → q ≡ p ++ n ∷ []) → (t : Bool) → bytes_eq a b ≡ t → cond t (child_name p q) None ≡ Some n → b ∷ q ≡ a ∷ (p ++ n ∷ [])
    by further false same named = absurd (none_some n named)
    by further true same named = λ i. sym ((bytes_eq-Decides a b).0 same) i ∷ further named i

module _ (p : Path) (n : Name) where
  listed_first : (e : Path × Node) (names : List Name) (found : Option Node) → list_any (bytes_eq n) names ≡ is_some found → (o : Option Name) → child_name p e.0 ≡ o → (t : Bool) → eq_by_cmp path_cmp (p ++ n ∷ []) e.0 ≡ t → list_any (bytes_eq n) (cons_option o names) ≡ is_some (cond t (Some e.1) found)
  listed_first e names found further (Some m) is true tied =
      let key : p ++ n ∷ [] ≡ e.0 = tied_same paths_total same_path (p ++ n ∷ []) e.0 tied in
      let name : n ≡ m = same_some n m (sym (child_name-appended p n) ∙ ap (child_name p) key ∙ is) in
      rw ((bytes_eq-Decides n m).1 name) refl
  listed_first e names found further (Some m) is false other = by (bytes_eq n m) refl
    where
      by : (t : Bool) → bytes_eq n m ≡ t → list_any (bytes_eq n) (m ∷ names) ≡ is_some found
      by false differs = rw differs further
      by true same =
          let key : p ++ n ∷ [] ≡ e.0 = ap (λ x. p ++ x ∷ []) ((bytes_eq-Decides n m).0 same) ∙ sym (child_is_appended p e.0 m is) in
          let itself : eq_by_cmp path_cmp (p ++ n ∷ []) e.0 ≡ true = subst (λ q. eq_by_cmp path_cmp (p ++ n ∷ []) q ≡ true) key (rw (tied_itself paths_total (p ++ n ∷ [])) refl) in
          cc
  listed_first e names found further None is true tied = absurd (none_some n (sym is ∙ ap (child_name p) (sym (tied_same paths_total same_path (p ++ n ∷ []) e.0 tied)) ∙ child_name-appended p n))
  listed_first e names found further None is false other = further

  listed_in : (es : List (Path × Node)) → list_any (bytes_eq n) (filter_map (child_name p) (map (λ (e : Path × Node). e.0) es)) ≡ is_some (find path_cmp (p ++ n ∷ []) es)
  listed_in [] = refl
  listed_in (e ∷ es) = listed_first e (filter_map (child_name p) (map (λ (e : Path × Node). e.0) es)) (find path_cmp (p ++ n ∷ []) es) (listed_in es) (child_name p e.0) refl (eq_by_cmp path_cmp (p ++ n ∷ []) e.0) refl

pub lists_children : ListsChildren
lists_children nodes p n = listed_in p n (finite.entries nodes) ∙ ap is_some (sym (get-entries nodes (p ++ n ∷ [])))

pub is_parent_of_child : IsParentOfChild
is_parent_of_child = parent_of-front

pub lists_ephemerals : ListsEphemerals
lists_ephemerals nodes session path = among_entries paths_total same_path (λ (n : Node). n.owner == session) nodes path

pub lists_stale : ListsStale
lists_stale nodes tick path = among_where paths_total same_path (is_stale nodes tick) nodes path
