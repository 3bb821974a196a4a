-- The nodes that a session owns: the first of them, and the others after it is taken away.
use Rattle.std.proofs.Common.{◌≡◌, ◌≢◌, ℕ, ◌+◌, Bool, true, false, cond, List, [], ◌∷◌, Option, Some, None, refl, sym, ap, subst, ◌∙◌}
use lib.Dec.{T}
use Rattle.std.specs.declared.cmp.Ordering.{Ordering}
use Rattle.std.specs.declared.cmp.Ordering.TheVariants.{Less, Equal, Greater}
use Rattle.std.specs.Ordering.{is_eq}
use Rattle.std.specs.Prelude.{◌==◌}
use Rattle.std.specs.Option.{option_map_or}
use Rattle.std.specs.List.{filter_map, cons_option}
use Rattle.std.specs.Cmp.{tied_itself, unsigned_Decides}
use Rattle.std.specs.FinMap as finite
use Rattle.std.specs.FinMap.{find, put, is_sorted, entries_sorted, entries-insert, get-entries}
use Rattle.std.specs.FinMap.Entries.{below_all, where_key}
use Rattle.zpath.specs.Grammar.{path_cmp}
use Rattle.ztree.specs.declared.node.Node.{Node}
use Rattle.ztree.specs.Tree.{Tree, Path, Nodes, parent_of, child_name, children, with_change_at, without_child, ephemerals, without_node}
use Rattle.ztree.specs.Lawful.{IsPersistent, IsLawful}
use Rattle.ztree.proofs.Sorted.{paths_total, same_path, both_parts, other_than, all_others, find_below, entries-remove}
use Rattle.ztree.proofs.Children.{parent_of_child, names_of_keys}
use Rattle.ztree.proofs.Maps.{same_some, none_some, is_there, not_among, none_of_map}

-- the path of an entry whose node the session owns
abbrev pub path_if_owned : ℕ → Path × Node → Option Path
path_if_owned session e = cond (e.1.owner == session) (Some e.0) None

abbrev pub owned_in : ℕ → List (Path × Node) → List Path
owned_in session es = filter_map (path_if_owned session) es

none_first : {X : Type 0} (x : X) (xs : List X) → [] ≡ x ∷ xs → ⊥
none_first x xs e = cc

first_of : {X : Type 0} (x y : X) (xs ys : List X) → x ∷ xs ≡ y ∷ ys → (x ≡ y) × (xs ≡ ys)
first_of x y xs ys e = (cc, cc)

module _ (session : ℕ) where
  owner_same : (p : Path) (m n : Node) → m.owner ≡ n.owner → path_if_owned session (p, m) ≡ path_if_owned session (p, n)
  owner_same p m n e = ap (λ o. cond (o == session) (Some p) None) e

  put_first : (e : Path × Node) (es : List (Path × Node)) (q : Path) (n v : Node) → T (below_all path_cmp e.0 es) → (find path_cmp q es ≡ Some n → owned_in session (put path_cmp q v es) ≡ owned_in session es) → v.owner ≡ n.owner → (r : Ordering) → path_cmp q e.0 ≡ r → find path_cmp q (e ∷ es) ≡ Some n → owned_in session (put path_cmp q v (e ∷ es)) ≡ owned_in session (e ∷ es)
  put_first e es q n v low further keeps Less is found = absurd (none_some n (sym (find_below path_cmp paths_total q e.0 es is low) ∙ (rw is at found)))
  put_first e es q n v low further keeps Equal is found =
      let value : e.1 ≡ n = same_some e.1 n (rw is at found) in
      rw is (ap (λ o. cons_option o (owned_in session es)) (owner_same e.0 v e.1 (keeps ∙ ap (λ (m : Node). m.owner) (sym value))))
  put_first e es q n v low further keeps Greater is found = rw is (ap (cons_option (path_if_owned session e)) (further (rw is at found)))

  put_owned : (es : List (Path × Node)) (q : Path) (n v : Node) → T (is_sorted path_cmp es) → find path_cmp q es ≡ Some n → v.owner ≡ n.owner → owned_in session (put path_cmp q v es) ≡ owned_in session es
  put_owned [] q n v s found keeps = absurd (none_some n found)
  put_owned (e ∷ es) q n v s found keeps =
      let parts = both_parts (below_all path_cmp e.0 es) (is_sorted path_cmp es) s in
      put_first e es q n v parts.0 (λ f. put_owned es q n v parts.1 f keeps) keeps (path_cmp q e.0) refl found

  -- a change of a node that leaves its owner leaves what sessions own
  pub ephemerals-changed : (nodes : Nodes) (q : Path) (f : Node → Node) → ((n : Node) → (f n).owner ≡ n.owner) → ephemerals (with_change_at nodes q f) session ≡ ephemerals nodes session
  ephemerals-changed nodes q f keeps = by (finite.get nodes q) refl
    where
      by : (o : Option Node) → finite.get nodes q ≡ o → ephemerals (option_map_or (λ n. finite.insert nodes q (f n)) o nodes) session ≡ ephemerals nodes session
      by None e = refl
      by (Some n) e =
          ap (owned_in session) (entries-insert paths_total nodes q (f n))
          ∙ put_owned (finite.entries nodes) q n (f n) (entries_sorted nodes) (sym (get-entries nodes q) ∙ e) (keeps n)

  rest_owned : (e : Path × Node) (es : List (Path × Node)) (p : Path) (ps : List Path) → T (below_all path_cmp e.0 es) → (owned_in session es ≡ p ∷ ps → owned_in session (where_key path_cmp (other_than path_cmp p) es) ≡ ps) → (t : Bool) → (e.1.owner == session) ≡ t → cons_option (cond t (Some e.0) None) (owned_in session es) ≡ p ∷ ps → owned_in session (where_key path_cmp (other_than path_cmp p) (e ∷ es)) ≡ ps
  rest_owned e es p ps low further true is all =
      let parts = first_of e.0 p (owned_in session es) ps all in
      rw (parts.0, tied_itself paths_total p) (ap (owned_in session) (all_others path_cmp paths_total p e.0 es parts.0 low) ∙ parts.1)
  rest_owned e es p ps low further false is all = by (other_than path_cmp p e.0)
    where
      by : (t : Bool) → owned_in session (cond t (e ∷ where_key path_cmp (other_than path_cmp p) es) (where_key path_cmp (other_than path_cmp p) es)) ≡ ps
      by true = rw is (further all)
      by false = further all

  without_first : (es : List (Path × Node)) (p : Path) (ps : List Path) → T (is_sorted path_cmp es) → owned_in session es ≡ p ∷ ps → owned_in session (where_key path_cmp (other_than path_cmp p) es) ≡ ps
  without_first [] p ps s all = absurd (none_first p ps all)
  without_first (e ∷ es) p ps s all =
      let parts = both_parts (below_all path_cmp e.0 es) (is_sorted path_cmp es) s in
      rest_owned e es p ps parts.0 (without_first es p ps parts.1) (e.1.owner == session) refl all

  -- the first node that a session owns taken away, the others are left
  pub ephemerals-dropped : (t : Tree) (p : Path) (ps : List Path) → ephemerals t.nodes session ≡ p ∷ ps → ephemerals (without_node t p).nodes session ≡ ps
  ephemerals-dropped t p ps all =
      ephemerals-changed (finite.remove t.nodes p) (parent_of p) (without_child (t.zxid + 1)) (λ n. refl)
      ∙ ap (owned_in session) (entries-remove path_cmp paths_total same_path t.nodes p)
      ∙ without_first (finite.entries t.nodes) p ps (entries_sorted t.nodes) all

  owned_first : (e : Path × Node) (es : List (Path × Node)) (p : Path) (ps : List Path) → T (below_all path_cmp e.0 es) → (owned_in session es ≡ p ∷ ps → (n : Node) × (find path_cmp p es ≡ Some n) × (n.owner ≡ session)) → (t : Bool) → (e.1.owner == session) ≡ t → cons_option (cond t (Some e.0) None) (owned_in session es) ≡ p ∷ ps → (n : Node) × (find path_cmp p (e ∷ es) ≡ Some n) × (n.owner ≡ session)
  owned_first e es p ps low further true is all =
      let parts = first_of e.0 p (owned_in session es) ps all in
      (e.1, rw (parts.0, tied_itself paths_total p) refl, (unsigned_Decides e.1.owner session).0 is)
  owned_first e es p ps low further false is all =
      let n = further all in
      (n.0, by (path_cmp p e.0) refl, n.2)
    where
      by : (r : Ordering) → path_cmp p e.0 ≡ r → cond (is_eq r) (Some e.1) (find path_cmp p es) ≡ Some (further all).0
      by Equal same = absurd (none_some _ (sym (not_among paths_total same_path e.0 es low) ∙ ap (λ q. find path_cmp q es) (sym (same_path p e.0 same)) ∙ (further all).1))
      by Less other = (further all).1
      by Greater other = (further all).1

  first_found : (es : List (Path × Node)) (p : Path) (ps : List Path) → T (is_sorted path_cmp es) → owned_in session es ≡ p ∷ ps → (n : Node) × (find path_cmp p es ≡ Some n) × (n.owner ≡ session)
  first_found [] p ps s all = absurd (none_first p ps all)
  first_found (e ∷ es) p ps s all =
      let parts = both_parts (below_all path_cmp e.0 es) (is_sorted path_cmp es) s in
      owned_first e es p ps parts.0 (first_found es p ps parts.1) (e.1.owner == session) refl all

  -- the first node that a session owns is there, and the session owns it
  pub first_is_there : (nodes : Nodes) (p : Path) (ps : List Path) → ephemerals nodes session ≡ p ∷ ps → (n : Node) × (finite.get nodes p ≡ Some n) × (n.owner ≡ session)
  first_is_there nodes p ps all =
      let n = first_found (finite.entries nodes) p ps (entries_sorted nodes) all in
      (n.0, get-entries nodes p ∙ n.1, n.2)

-- in a lawful tree a node with an owner has no children
pub owned_is_leaf : (t : Tree) (p : Path) (n : Node) → IsLawful t → finite.get t.nodes p ≡ Some n → n.owner ≢ 0 → children t.nodes p ≡ []
owned_is_leaf t p n lawful found owned = sym (names_of_keys p (finite.entries t.nodes)) ∙ none_of_map paths_total same_path (λ (e : Path × Node). child_name p e.0) t.nodes (λ q x is. by q x is (child_name p q) refl)
  where
    by : (q : Path) (x : Node) → finite.get t.nodes q ≡ Some x → (o : Option (List ℕ)) → child_name p q ≡ o → o ≡ None
    by q x is None e = refl
    by q x is (Some name) e =
        let above = subst (λ y. IsPersistent (finite.get t.nodes y)) (parent_of_child p q name e) (lawful.parents q (is_there _ x is)) in
        let same : n ≡ above.0 = same_some n above.0 (sym found ∙ above.1) in
        absurd (owned (ap (λ (m : Node). m.owner) same ∙ above.2))

-- and it isn't the root
pub owned_is_below : (t : Tree) (p : Path) (n : Node) → IsLawful t → finite.get t.nodes p ≡ Some n → n.owner ≢ 0 → p ≢ []
owned_is_below t p n lawful found owned root =
    let same : n ≡ lawful.root.0 = same_some n lawful.root.0 (sym found ∙ ap (finite.get t.nodes) root ∙ lawful.root.1) in
    owned (ap (λ (m : Node). m.owner) same ∙ lawful.root.2)
