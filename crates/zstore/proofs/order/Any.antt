-- The nodes of a session can be taken away in any order.
use Rattle.std.proofs.Common.{◌≡◌, ℕ, ◌+◌, Bool, true, false, cond, List, [], ◌∷◌, length, Option, Some, None, refl, sym, ap, ◌∙◌, arith}
use lib.Dec.{T}
use Rattle.std.specs.Ordering.{eq_by_cmp}
use Rattle.std.specs.Prelude.{◌==◌}
use Rattle.std.specs.Option.{option_map, option_map_or}
use Rattle.std.specs.Cmp.{unsigned_Decides}
use Rattle.std.specs.FinMap as finite
use Rattle.std.specs.FinMap.{find, is_sorted, entries_sorted, get-entries, get-insert, get-remove, same_map}
use Rattle.std.specs.FinMap.Entries.{below_all, where_key}
use Rattle.zpath.specs.Grammar.{path_cmp}
use Rattle.ztree.specs.declared.node.Node.{Node}
use Rattle.ztree.specs.Tree.{Tree, Path, Nodes, parent_of, with_change_at, without_child, ephemerals, without_node}
use Rattle.ztree.specs.Sessions.{without_nodes}
use Rattle.ztree.proofs.Sorted.{paths_total, same_path, both_parts, other_than, all_others, entries-remove}
use Rattle.ztree.proofs.Maps.{same_some, tied_same}
use Rattle.ztree.proofs.Ephemerals.{owned_in, ephemerals-changed}

-- a node as a change at a path leaves it at q
abbrev at : Path → (Node → Node) → Path → Node → Node
at path f q n = cond (eq_by_cmp path_cmp q path) (f n) n

get-changed : (nodes : Nodes) (path : Path) (f : Node → Node) (q : Path) →
    finite.get (with_change_at nodes path f) q ≡ option_map (at path f q) (finite.get nodes q)
get-changed nodes path f q = by (finite.get nodes path) refl
  where
    elsewhere : (o : Option Node) → o ≡ option_map (λ n. n) o
    elsewhere None = refl
    elsewhere (Some n) = refl

    absent : finite.get nodes path ≡ None → (b : Bool) → eq_by_cmp path_cmp q path ≡ b →
        finite.get nodes q ≡ option_map (λ n. cond b (f n) n) (finite.get nodes q)
    absent none false other = elsewhere (finite.get nodes q)
    absent none true tied =
        let nothing = ap (finite.get nodes) (tied_same paths_total same_path q path tied) ∙ none in
        rw nothing refl

    there : (n : Node) → finite.get nodes path ≡ Some n → (b : Bool) →
        eq_by_cmp path_cmp q path ≡ b →
        cond b (Some (f n)) (finite.get nodes q) ≡ option_map (λ n. cond b (f n) n)
        (finite.get nodes q)
    there n found false other = elsewhere (finite.get nodes q)
    there n found true tied =
        let here = ap (finite.get nodes) (tied_same paths_total same_path q path tied) ∙ found in
        rw here refl

    by : (o : Option Node) → finite.get nodes path ≡ o →
        finite.get (option_map_or (λ n. finite.insert nodes path (f n)) o nodes) q ≡ option_map
        (at path f q) (finite.get nodes q)
    by None none = absent none (eq_by_cmp path_cmp q path) refl
    by (Some n) found = get-insert paths_total nodes path (f n) q
        ∙ there n found (eq_by_cmp path_cmp q path) refl

-- what is found after two nodes were taken away
left_at : (nodes : Nodes) (f : Node → Node) (a b q : Path) →
    finite.get
    (with_change_at (finite.remove (with_change_at (finite.remove nodes a) (parent_of a) f) b)
    (parent_of b) f) q
    ≡ option_map (at (parent_of b) f q)
    (cond (eq_by_cmp path_cmp q b) None
    (option_map (at (parent_of a) f q)
    (cond (eq_by_cmp path_cmp q a) None (finite.get nodes q))))
left_at nodes f a b q =
    let without_a = with_change_at (finite.remove nodes a) (parent_of a) f in
    get-changed (finite.remove without_a b) (parent_of b) f q
    ∙ ap (option_map (at (parent_of b) f q)) (get-remove paths_total without_a b q
    ∙ ap (cond (eq_by_cmp path_cmp q b) None) (get-changed (finite.remove nodes a) (parent_of a) f q
    ∙ ap (option_map (at (parent_of a) f q)) (get-remove paths_total nodes a q)))

either_first : (f : Node → Node) (a b above_a above_b : Bool) (o : Option Node) →
    option_map (λ n. cond above_b (f n) n)
    (cond b None (option_map (λ n. cond above_a (f n) n) (cond a None o)))
    ≡ option_map (λ n. cond above_a (f n) n)
    (cond a None (option_map (λ n. cond above_b (f n) n) (cond b None o)))
either_first f true true above_a above_b o = refl
either_first f true false above_a above_b o = refl
either_first f false true above_a above_b o = refl
either_first f false false above_a above_b None = refl
either_first f false false true true (Some n) = refl
either_first f false false true false (Some n) = refl
either_first f false false false true (Some n) = refl
either_first f false false false false (Some n) = refl

-- of two nodes either can be taken away first
pub without_both : (t : Tree) (a b : Path) →
    without_node (without_node t a) b ≡ without_node (without_node t b) a
without_both t a b =
    let f = without_child (t.zxid + 1) in
    ap (λ (nodes : Nodes). record t { nodes = nodes }) (same_map paths_total same_path _ _ (λ q.
    left_at t.nodes f a b q
    ∙ either_first f (eq_by_cmp path_cmp q a) (eq_by_cmp path_cmp q b)
    (eq_by_cmp path_cmp q (parent_of a)) (eq_by_cmp path_cmp q (parent_of b))
    (finite.get t.nodes q)
    ∙ sym (left_at t.nodes f b a q)))

module _ (session : ℕ) (p : Path) where
  -- the others of those that a session owns among entries
  abbrev others : List (Path × Node) → List Path
  others es = owned_in session (where_key path_cmp (other_than path_cmp p) es)

  -- p is among them: it can go first, and is one of them
  abbrev CanBeFirst : List (Path × Node) → Type 0
  CanBeFirst es =
      ((t : Tree) →
      without_nodes t (owned_in session es) ≡ without_nodes (without_node t p)
      (others es)) × (length (owned_in session es) ≡ length (others es) + 1)

  owned_more : (e : Path × Node) → (e.1.owner == session) ≡ true → (es : List (Path × Node)) →
      owned_in session (e ∷ es) ≡ e.0 ∷ owned_in session es
  owned_more e is es = rw is refl

  owned_same : (e : Path × Node) → (e.1.owner == session) ≡ false → (es : List (Path × Node)) →
      owned_in session (e ∷ es) ≡ owned_in session es
  owned_same e is es = rw is refl

  others_behind : (e : Path × Node) (es : List (Path × Node)) → eq_by_cmp path_cmp p e.0 ≡ false →
      others (e ∷ es) ≡ owned_in session (e ∷ where_key path_cmp (other_than path_cmp p) es)
  others_behind e es other = rw other refl

  others_first : (e : Path × Node) (es : List (Path × Node)) → eq_by_cmp path_cmp p e.0 ≡ true →
      others (e ∷ es) ≡ others es
  others_first e es tied = rw tied refl

  behind : (e : Path × Node) (es : List (Path × Node)) → CanBeFirst es → (owned : Bool) →
      (e.1.owner == session) ≡ owned → eq_by_cmp path_cmp p e.0 ≡ false → CanBeFirst (e ∷ es)
  behind e es further true is other =
      let kept = where_key path_cmp (other_than path_cmp p) es in
      let all = owned_more e is es in
      let left = others_behind e es other ∙ owned_more e is kept in
      let more = further.1 in (
        λ t. ap (without_nodes t) all ∙ further.0 (without_node t e.0)
            ∙ ap (λ s. without_nodes s (others es)) (without_both t e.0 p)
            ∙ ap (without_nodes (without_node t p)) (sym left),
        ap length all ∙ omega (arith, more) ∙ ap (λ ps. length ps + 1) (sym left),
      )
  behind e es further false is other =
      let kept = where_key path_cmp (other_than path_cmp p) es in
      let all = owned_same e is es in
      let left = others_behind e es other ∙ owned_same e is kept in (
        λ t. ap (without_nodes t) all ∙ further.0 t
            ∙ ap (without_nodes (without_node t p)) (sym left),
        ap length all ∙ further.1 ∙ ap (λ ps. length ps + 1) (sym left),
      )

  here : (e : Path × Node) (es : List (Path × Node)) (n : Node) → T (below_all path_cmp e.0 es) →
      eq_by_cmp path_cmp p e.0 ≡ true → Some e.1 ≡ Some n → n.owner ≡ session → CanBeFirst (e ∷ es)
  here e es n low tied found owner =
      let key : p ≡ e.0 = tied_same paths_total same_path p e.0 tied in
      let owned : (e.1.owner == session) ≡ true =
      (unsigned_Decides e.1.owner session).1
      (ap (λ (m : Node). m.owner) (same_some e.1 n found) ∙ owner) in
      let all = owned_more e owned es in
      let left = others_first e es tied
      ∙ ap (owned_in session) (all_others path_cmp paths_total p e.0 es (sym key) low) in (
        λ t. ap (without_nodes t) all
            ∙ ap (λ q. without_nodes (without_node t q) (owned_in session es)) (sym key)
            ∙ ap (without_nodes (without_node t p)) (sym left),
        ap length all ∙ omega arith ∙ ap (λ ps. length ps + 1) (sym left),
      )

  first_by : (e : Path × Node) (es : List (Path × Node)) (n : Node) →
      T (below_all path_cmp e.0 es) → (find path_cmp p es ≡ Some n → CanBeFirst es) →
      n.owner ≡ session → (b : Bool) → eq_by_cmp path_cmp p e.0 ≡ b →
      cond b (Some e.1) (find path_cmp p es) ≡ Some n → CanBeFirst (e ∷ es)
  first_by e es n low further owner true tied found = here e es n low tied found owner
  first_by e es n low further owner false other found =
      behind e es (further found) (e.1.owner == session) refl other

  first_among : (es : List (Path × Node)) (n : Node) → T (is_sorted path_cmp es) →
      find path_cmp p es ≡ Some n → n.owner ≡ session → CanBeFirst es
  first_among [] n s found owner = cc
  first_among (e ∷ es) n s found owner =
      let parts = both_parts (below_all path_cmp e.0 es) (is_sorted path_cmp es) s in
      first_by e es n parts.0 (λ more. first_among es n parts.1 more owner) owner
      (eq_by_cmp path_cmp p e.0) refl found

-- any node that a session owns can be taken away first
pub any_first : (t : Tree) (session : ℕ) (p : Path) (n : Node) → finite.get t.nodes p ≡ Some n →
    n.owner ≡ session →
    (without_nodes t (ephemerals t.nodes session) ≡ without_nodes (without_node t p)
    (ephemerals (without_node t p).nodes session))
    × (length (ephemerals t.nodes session) ≡ length
    (ephemerals (without_node t p).nodes session) + 1)
any_first t session p n found owner =
    let first =
    first_among session p (finite.entries t.nodes) n (entries_sorted t.nodes)
    (sym (get-entries t.nodes p) ∙ found) owner in
    let left =
    ephemerals-changed session (finite.remove t.nodes p) (parent_of p)
    (without_child (t.zxid + 1)) (λ n. refl)
    ∙ ap (owned_in session) (entries-remove path_cmp paths_total same_path t.nodes p) in (
      first.0 t ∙ ap (without_nodes (without_node t p)) (sym left),
      first.1
          ∙ ap (λ ps. length ps + 1) (sym left),
    )
