-- The sum of a number of each node, where one node comes, goes or is changed.
use Rattle.std.proofs.Common.{◌≡◌, ℕ, ◌+◌, ◌≤◌, not, cond, List, [], ◌∷◌, Some, None, refl, sym, ap, ◌∙◌, arith}
use lib.Dec.{T}
use Rattle.std.specs.declared.cmp.Ordering.{Ordering}
use Rattle.std.specs.declared.cmp.Ordering.TheVariants.{Less, Equal, Greater}
use Rattle.std.specs.Ordering.{is_eq}
use Rattle.std.specs.Cmp.{tied_itself}
use Rattle.std.specs.FinMap.{get, insert, remove, entries, entries_sorted, get-entries, entries-insert, find, put, is_sorted}
use Rattle.std.specs.FinMap.Entries.{below_all, where_key, by_order}
use Rattle.zpath.specs.Grammar.{path_cmp}
use Rattle.ztree.specs.declared.node.Node.{Node}
use Rattle.ztree.specs.Tree.{Path, Nodes}
use Rattle.ztree.specs.Counts.{sum_of}
use Rattle.ztree.proofs.Sorted.{paths_total, same_path, both_parts, other_than, all_others, entries-remove, find_below}
use Rattle.ztree.proofs.Maps.{same_some, none_some, found_behind}

-- as lists of entries
abbrev Rows : Type 0
Rows = List (Path × Node)

-- one number more at the front of a sum and in it
moved : (a b c d e : ℕ) → a + c ≡ b + d → a + (e + c) ≡ b + (e + d)
moved a b c d e is = omega (arith, is)

later : (a c d e : ℕ) → c ≡ a + d → e + c ≡ a + (e + d)
later a c d e is = omega (arith, is)

module _ (f : Node → ℕ) where
  put_first : (e : Path × Node) (es : Rows) (q : Path) (v : Node) → (find path_cmp q es ≡ None → sum_of f (put path_cmp q v es) ≡ f v + sum_of f es) → (r : Ordering) → path_cmp q e.0 ≡ r → cond (is_eq r) (Some e.1) (find path_cmp q es) ≡ None → sum_of f (by_order r ((q, v) ∷ e ∷ es) ((e.0, v) ∷ es) (e ∷ put path_cmp q v es)) ≡ f v + sum_of f (e ∷ es)
  put_first e es q v further Less is none = refl
  put_first e es q v further Equal is none = absurd (none_some e.1 (sym none))
  put_first e es q v further Greater is none = later (f v) _ (sum_of f es) (f e.1) (further none)

  sum-put : (es : Rows) (q : Path) (v : Node) → find path_cmp q es ≡ None → sum_of f (put path_cmp q v es) ≡ f v + sum_of f es
  sum-put [] q v none = refl
  sum-put (e ∷ es) q v none = put_first e es q v (sum-put es q v) (path_cmp q e.0) refl none

  -- a new node adds its number
  pub sum-inserted : (nodes : Nodes) (q : Path) (v : Node) → get nodes q ≡ None → sum_of f (entries (insert nodes q v)) ≡ f v + sum_of f (entries nodes)
  sum-inserted nodes q v none =
      ap (sum_of f) (entries-insert paths_total nodes q v)
      ∙ sum-put (entries nodes) q v (sym (get-entries nodes q) ∙ none)

  change_first : (e : Path × Node) (es : Rows) (q : Path) (v w : Node) → T (below_all path_cmp e.0 es) → (find path_cmp q es ≡ Some w → f w + sum_of f (put path_cmp q v es) ≡ f v + sum_of f es) → (r : Ordering) → path_cmp q e.0 ≡ r → cond (is_eq r) (Some e.1) (find path_cmp q es) ≡ Some w → f w + sum_of f (by_order r ((q, v) ∷ e ∷ es) ((e.0, v) ∷ es) (e ∷ put path_cmp q v es)) ≡ f v + sum_of f (e ∷ es)
  change_first e es q v w low further Less is found = absurd (none_some w (sym (find_below path_cmp paths_total q e.0 es is low) ∙ found))
  change_first e es q v w low further Equal is found =
      let same : f e.1 ≡ f w = ap f (same_some e.1 w found) in
      omega (arith, same)
  change_first e es q v w low further Greater is found = moved (f w) (f v) _ (sum_of f es) (f e.1) (further found)

  sum-change : (es : Rows) (q : Path) (v w : Node) → T (is_sorted path_cmp es) → find path_cmp q es ≡ Some w → f w + sum_of f (put path_cmp q v es) ≡ f v + sum_of f es
  sum-change [] q v w s found = absurd (none_some w found)
  sum-change (e ∷ es) q v w s found =
      let parts = both_parts (below_all path_cmp e.0 es) (is_sorted path_cmp es) s in
      change_first e es q v w parts.0 (sum-change es q v w parts.1) (path_cmp q e.0) refl found

  -- a node in place of another adds its number, and takes the other's
  pub sum-changed : (nodes : Nodes) (q : Path) (v w : Node) → get nodes q ≡ Some w → f w + sum_of f (entries (insert nodes q v)) ≡ f v + sum_of f (entries nodes)
  sum-changed nodes q v w found =
      ap (λ es. f w + sum_of f es) (entries-insert paths_total nodes q v)
      ∙ sum-change (entries nodes) q v w (entries_sorted nodes) (sym (get-entries nodes q) ∙ found)

  cut_first : (e : Path × Node) (es : Rows) (q : Path) (w : Node) → T (below_all path_cmp e.0 es) → (find path_cmp q es ≡ Some w → f w + sum_of f (where_key path_cmp (other_than path_cmp q) es) ≡ sum_of f es) → (r : Ordering) → path_cmp q e.0 ≡ r → cond (is_eq r) (Some e.1) (find path_cmp q es) ≡ Some w → f w + sum_of f (cond (not (is_eq r)) (e ∷ where_key path_cmp (other_than path_cmp q) es) (where_key path_cmp (other_than path_cmp q) es)) ≡ sum_of f (e ∷ es)
  cut_first e es q w low further Less is found = sym (later (f w) _ _ (f e.1) (sym (further found)))
  cut_first e es q w low further Greater is found = sym (later (f w) _ _ (f e.1) (sym (further found)))
  cut_first e es q w low further Equal is found =
      let same : f w ≡ f e.1 = ap f (sym (same_some e.1 w found)) in
      ap (λ rest. f w + sum_of f rest) (all_others path_cmp paths_total q e.0 es (sym (same_path q e.0 is)) low)
      ∙ ap (λ n. n + sum_of f es) same

  sum-cut : (es : Rows) (q : Path) (w : Node) → T (is_sorted path_cmp es) → find path_cmp q es ≡ Some w → f w + sum_of f (where_key path_cmp (other_than path_cmp q) es) ≡ sum_of f es
  sum-cut [] q w s found = absurd (none_some w found)
  sum-cut (e ∷ es) q w s found =
      let parts = both_parts (below_all path_cmp e.0 es) (is_sorted path_cmp es) s in
      cut_first e es q w parts.0 (sum-cut es q w parts.1) (path_cmp q e.0) refl found

  -- a node that goes takes its number
  pub sum-removed : (nodes : Nodes) (q : Path) (w : Node) → get nodes q ≡ Some w → f w + sum_of f (entries (remove nodes q)) ≡ sum_of f (entries nodes)
  sum-removed nodes q w found =
      ap (λ es. f w + sum_of f es) (entries-remove path_cmp paths_total same_path nodes q)
      ∙ sum-cut (entries nodes) q w (entries_sorted nodes) (sym (get-entries nodes q) ∙ found)

  more : (a b c d : ℕ) → a ≤ b → c ≤ d → a + c ≤ b + d
  more a b c d l k = omega (arith, l, k)

  -- a sum of numbers that are bounded each
  sum-most : (g : Node → ℕ) (es : Rows) → T (is_sorted path_cmp es) → ((q : Path) (n : Node) → find path_cmp q es ≡ Some n → f n ≤ g n) → sum_of f es ≤ sum_of g es
  sum-most g [] s all = omega arith
  sum-most g (e ∷ es) s all =
      let parts = both_parts (below_all path_cmp e.0 es) (is_sorted path_cmp es) s in
      more _ _ _ _ (all e.0 e.1 (rw (tied_itself paths_total e.0) refl)) (sum-most g es parts.1 (λ q n found. all q n (found_behind paths_total same_path e es parts.0 q n found)))

  pub sum-bounded : (g : Node → ℕ) (nodes : Nodes) → ((q : Path) (n : Node) → get nodes q ≡ Some n → f n ≤ g n) → sum_of f (entries nodes) ≤ sum_of g (entries nodes)
  sum-bounded g nodes all = sum-most g (entries nodes) (entries_sorted nodes) (λ q n found. all q n (get-entries nodes q ∙ found))
