-- The counts of the nodes, where one node comes, goes or is changed; and that they fit.
use Rattle.std.proofs.Common.{◌≡◌, ◌≢◌, ◌⊎◌, inl, inr, ℕ, ◌+◌, ◌*◌, ◌≤◌, Bool, true, false, cond, List, [], ◌∷◌, length, Some, None, refl, sym, ap, subst, ◌∙◌, arith}
use Rattle.std.specs.Prelude.{◌==◌}
use Rattle.std.specs.FinMap as finite
use Rattle.std.specs.FinMap.{get, insert, remove, entries, len-entries, get-empty}
use Rattle.zpath.specs.Grammar.{path_cmp}
use Rattle.ztree.specs.declared.limits.TheConstants.{MOST_DATA}
use Rattle.ztree.specs.declared.node.Node.{Node}
use Rattle.ztree.specs.Tree.{Path, Nodes, with_change_at}
use Rattle.ztree.specs.Counts.{sum_of, one_if_owned, size_of}
use Rattle.ztree.proofs.Maps as maps
use Rattle.ztree.proofs.Nodes.{changed_at-some}
use Rattle.ztree.proofs.Sorted.{paths_total, same_path}
use Rattle.znodes.specs.declared.counts.Counts.{Counts}
use Rattle.znodes.specs.support.Counting.{AreCounts, IsSmall, no_counts, counts_with, counts_without, counts_changed}
use Rattle.znodes.proofs.Sums.{sum-inserted, sum-changed, sum-removed, sum-bounded}

no_sum : (f : Node → ℕ) → sum_of f (entries (finite.empty {X = Node} {R = path_cmp})) ≡ 0
no_sum f = by (entries (finite.empty {X = Node} {R = path_cmp})) (sym (len-entries finite.empty) ∙ finite.len-empty path_cmp Node)
  where
    by : (es : List (Path × Node)) → length es ≡ 0 → sum_of f es ≡ 0
    by [] none = refl
    by (e ∷ es) none = absurd (omega (arith, none))

-- no nodes
pub counts-none : AreCounts finite.empty no_counts
counts-none = record {
  owned = sym (no_sum one_if_owned);
  bytes = sym (no_sum size_of);
  small = λ q n found. absurd (maps.none_some n (sym (get-empty path_cmp q) ∙ found));
}

module _ (nodes : Nodes) (c : Counts) (are : AreCounts nodes c) (q : Path) where
  -- a node more
  pub counts-more : (n : Node) → get nodes q ≡ None → IsSmall n → AreCounts (insert nodes q n) (counts_with c n)
  counts-more n free little =
      let owned = sum-inserted one_if_owned nodes q n free in
      let bytes = sum-inserted size_of nodes q n free in
      record {
        owned = omega (arith, owned, are.owned);
        bytes = omega (arith, bytes, are.bytes);
        small = λ p x found. by p x (maps.get-inserted paths_total same_path nodes q n p x found);
      }
    where
      by : (p : Path) (x : Node) → ((p ≡ q) × (n ≡ x)) ⊎ ((p ≢ q) × (get nodes p ≡ Some x)) → IsSmall x
      by p x (inl own) = subst IsSmall own.1 little
      by p x (inr other) = are.small p x other.1

  module _ (n : Node) (there : get nodes q ≡ Some n) where
    -- a node's numbers are within the counts
    pub owned-within : one_if_owned n ≤ c.owned
    owned-within = let sum = sum-removed one_if_owned nodes q n there in omega (arith, sum, are.owned)

    pub size-within : size_of n ≤ c.bytes
    size-within = let sum = sum-removed size_of nodes q n there in omega (arith, sum, are.bytes)

    -- a node less
    pub counts-less : AreCounts (remove nodes q) (counts_without c n)
    counts-less =
        let owned = sum-removed one_if_owned nodes q n there in
        let bytes = sum-removed size_of nodes q n there in
        record {
          owned = omega (arith, owned, are.owned);
          bytes = omega (arith, bytes, are.bytes);
          small = λ p x found. are.small p x (maps.get-removed paths_total same_path nodes q p x found).1;
        }

    -- a node written
    pub counts-written : (f : Node → Node) → (f n).owner ≡ n.owner → IsSmall (f n) → (later : Counts) → later.owned ≡ c.owned → later.bytes + size_of n ≡ c.bytes + size_of (f n) → AreCounts (with_change_at nodes q f) later
    counts-written f owner little later same_owned other_bytes =
        let owned = sum-changed one_if_owned nodes q (f n) n there in
        let bytes = sum-changed size_of nodes q (f n) n there in
        let one : one_if_owned (f n) ≡ one_if_owned n = ap (λ (o : ℕ). cond (o == 0) 0 1) owner in
        subst (λ ns. AreCounts ns later) (sym (changed_at-some nodes q f n there)) (record {
          owned = omega (arith, owned, are.owned, same_owned, one);
          bytes = omega (arith, bytes, are.bytes, other_bytes);
          small = λ p x found. by p x (maps.get-inserted paths_total same_path nodes q (f n) p x found);
        })
      where
        by : (p : Path) (x : Node) → ((p ≡ q) × (f n ≡ x)) ⊎ ((p ≢ q) × (get nodes p ≡ Some x)) → IsSmall x
        by p x (inl own) = subst IsSmall own.1 little
        by p x (inr other) = are.small p x other.1

    -- with data and an owner that stay
    pub counts-kept : (f : Node → Node) → (f n).owner ≡ n.owner → (f n).bytes ≡ n.bytes → AreCounts (with_change_at nodes q f) c
    counts-kept f owner data_same =
        counts-written f owner (subst (λ (bytes : List ℕ). length bytes ≤ MOST_DATA) (sym data_same) (are.small q n there)) c refl
        (ap (λ (bytes : List ℕ). c.bytes + length bytes) (sym data_same))

    -- with other data
    pub counts-changed : (f : Node → Node) → (f n).owner ≡ n.owner → IsSmall (f n) → AreCounts (with_change_at nodes q f) (counts_changed c n.bytes (f n).bytes)
    counts-changed f owner little =
        let within = size-within in
        counts-written f owner little (counts_changed c n.bytes (f n).bytes) refl (omega (arith, within))

-- one for each node
ones : (es : List (Path × Node)) → sum_of (λ _. 1) es ≡ length es
ones [] = refl
ones (e ∷ es) = let rest = ones es in omega (arith, rest)

-- and as much as each can have
fulls : (es : List (Path × Node)) → sum_of (λ _. 1048487) es ≡ 1048487 * length es
fulls [] = refl
fulls (e ∷ es) = let rest = fulls es in omega (arith, rest)

one-most : (n : Node) → one_if_owned n ≤ 1
one-most n = by (n.owner == 0)
  where
    by : (b : Bool) → cond b 0 1 ≤ 1
    by true = omega arith
    by false = omega arith

module _ (nodes : Nodes) (c : Counts) (are : AreCounts nodes c) where
  -- no more are owned than there are
  pub owned-most : c.owned ≤ finite.len nodes
  owned-most =
      let most = sum-bounded one_if_owned (λ _. 1) nodes (λ q n found. one-most n) in
      let count = ones (entries nodes) in
      let all = len-entries nodes in
      omega (arith, most, count, all, are.owned)

  pub bytes-most : c.bytes ≤ 1048487 * finite.len nodes
  bytes-most =
      let most = sum-bounded size_of (λ _. 1048487) nodes (λ q n found. are.small q n found) in
      let count = fulls (entries nodes) in
      let all = len-entries nodes in
      omega (arith, most, count, all, are.bytes)
