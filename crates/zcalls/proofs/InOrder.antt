-- The names of the children are in the order of their bytes, each once.
use Rattle.std.proofs.Common.{◌≡◌, Bool, true, false, if◌then◌else◌, List, [], ◌∷◌, Option, Some, None, map, refl, sym, ap, subst, ◌∙◌}
use lib.Dec.{T}
use Rattle.std.specs.declared.cmp.Ordering.{Ordering}
use Rattle.std.specs.declared.cmp.Ordering.TheVariants.{Less, Equal, Greater}
use Rattle.std.specs.Ordering.{is_lt, ordering_then}
use Rattle.std.specs.Cmp.{tied_itself}
use Rattle.std.specs.Cmp.Lexicographic.{nat_list_cmp_total}
use Rattle.std.specs.FinMap as finite
use Rattle.std.specs.FinMap.{entries_sorted, is_sorted}
use Rattle.std.specs.FinMap.Entries.{below_all}
use Rattle.std.specs.List.{filter_map, cons_option, AllByRecursion}
use Rattle.std.specs.List.Sorted.{IsStrictlySortedBy}
use Rattle.std.specs.Str.{bytes_eq}
use Rattle.std.proofs.lemmas.Slice.Eq.{bytes_eq-Decides}
use Rattle.zpath.specs.Grammar.{name_cmp, path_cmp}
use Rattle.ztree.specs.declared.node.Node.{Node}
use Rattle.ztree.specs.Tree.{Nodes, Path, Name, child_name, children}
use Rattle.ztree.proofs.Sorted.{both_parts, is_less}
use Rattle.zcalls.specs.declared.reply.Reply.TheVariants as reply
use Rattle.zcalls.specs.Step.{query_reply, on_node}
use Rattle.zcalls.specs.Laws.{ListsInOrder}

first_decides : (r : Ordering) → ordering_then r Equal ≡ Less → r ≡ Less
first_decides Less e = refl
first_decides Equal e = cc
first_decides Greater e = cc

where_true : (t : Bool) (o : Option Name) (x : Name) → (if t then o else None) ≡ Some x → (t ≡ true) × (o ≡ Some x)
where_true true o x e = (refl, e)
where_true false o x e = cc

tied : (q c d : Name) → bytes_eq q c ≡ true → bytes_eq q d ≡ true → name_cmp c d ≡ Equal
tied q c d first second =
    (λ i. name_cmp (sym ((bytes_eq-Decides q c).0 first) i) (sym ((bytes_eq-Decides q d).0 second) i)) ∙ tied_itself nat_list_cmp_total q

-- children of one node are ordered as their names
child_less : (p a b : Path) (x y : Name) → child_name p a ≡ Some x → child_name p b ≡ Some y → path_cmp a b ≡ Less → name_cmp x y ≡ Less
child_less [] [] b x y ca cb less = cc
child_less [] (n ∷ []) [] x y ca cb less = cc
child_less [] (n ∷ []) (m ∷ []) x y ca cb less =
    let left : n ≡ x = cc ca in
    let right : m ≡ y = cc cb in
    first_decides (name_cmp x y) ((λ i. ordering_then (name_cmp (sym left i) (sym right i)) Equal) ∙ less)
child_less [] (n ∷ []) (m ∷ k ∷ b) x y ca cb less = cc
child_less [] (n ∷ k ∷ a) b x y ca cb less = cc
child_less (q ∷ p) [] b x y ca cb less = cc
child_less (q ∷ p) (c ∷ a) [] x y ca cb less = cc
child_less (q ∷ p) (c ∷ a) (d ∷ b) x y ca cb less =
    let first = where_true (bytes_eq q c) (child_name p a) x ca in
    let second = where_true (bytes_eq q d) (child_name p b) y cb in
    child_less p a b x y first.1 second.1 (sym (ap (λ r. ordering_then r (path_cmp a b)) (tied q c d first.0 second.0)) ∙ less)

abbrev paths_of : List (Path × Node) → List Path
paths_of [] = []
paths_of (e ∷ es) = e.0 ∷ paths_of es

-- each name after the first is above it
above : (p a : Path) (x : Name) (es : List (Path × Node)) → child_name p a ≡ Some x → T (below_all path_cmp a es) → AllByRecursion (λ y. name_cmp x y ≡ Less) (filter_map (child_name p) (paths_of es))
above p a x [] is below = tt
above p a x (e ∷ es) is below =
    let parts = both_parts (is_lt (path_cmp a e.0)) (below_all path_cmp a es) below in
    let rest = above p a x es is parts.1 in
    with_name (child_name p e.0) (λ y named. child_less p a e.0 x y is named (is_less (path_cmp a e.0) parts.0)) rest
  where
    with_name : (o : Option Name) → ((y : Name) → o ≡ Some y → name_cmp x y ≡ Less) → AllByRecursion (λ y. name_cmp x y ≡ Less) (filter_map (child_name p) (paths_of es)) → AllByRecursion (λ y. name_cmp x y ≡ Less) (cons_option o (filter_map (child_name p) (paths_of es)))
    with_name None less rest = rest
    with_name (Some y) less rest = (less y refl, rest)

rising : (p : Path) (es : List (Path × Node)) → T (is_sorted path_cmp es) → IsStrictlySortedBy name_cmp (filter_map (child_name p) (paths_of es))
unfolding IsStrictlySortedBy
rising p [] sorted = tt
rising p (e ∷ es) sorted =
    let parts = both_parts (below_all path_cmp e.0 es) (is_sorted path_cmp es) sorted in
    with_name (child_name p e.0) (λ x named. above p e.0 x es named parts.0) (rising p es parts.1)
  where
    with_name : (o : Option Name) → ((x : Name) → o ≡ Some x → AllByRecursion (λ y. name_cmp x y ≡ Less) (filter_map (child_name p) (paths_of es))) → IsStrictlySortedBy name_cmp (filter_map (child_name p) (paths_of es)) → IsStrictlySortedBy name_cmp (cons_option o (filter_map (child_name p) (paths_of es)))
    with_name None under rest = rest
    with_name (Some x) under rest = (under x refl, rest)

keys_are_paths : (es : List (Path × Node)) → paths_of es ≡ map (λ e. e.0) es
keys_are_paths [] = refl
keys_are_paths (e ∷ es) = ap (λ ps. e.0 ∷ ps) (keys_are_paths es)

children_rise : (nodes : Nodes) (p : Path) → IsStrictlySortedBy name_cmp (children nodes p)
children_rise nodes p =
    subst (λ ps. IsStrictlySortedBy name_cmp (filter_map (child_name p) ps)) (keys_are_paths (finite.entries nodes)) (rising p (finite.entries nodes) (entries_sorted nodes))

pub lists_in_order : ListsInOrder
unfolding query_reply
lists_in_order t path names = by (finite.get t.nodes path)
  where
    by : (o : Option Node) → on_node o (λ n. reply.Children (children t.nodes path)) ≡ reply.Children names → IsStrictlySortedBy name_cmp names
    by None listed = cc
    by (Some n) listed = let is_names : children t.nodes path ≡ names = cc listed in subst (IsStrictlySortedBy name_cmp) is_names (children_rise t.nodes path)
