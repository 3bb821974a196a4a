-- The nodes of a tree, gone over by their paths: what was counted and written, and what is left.
use Rattle.std.proofs.Common.{◌≡◌, ℕ, ◌+◌, ◌*◌, ◌<◌, ◌≤◌, ◌^◌, Bool, true, false, cond, List, [], ◌∷◌, ◌++◌, length}
use Rattle.std.proofs.Common.{map, Option, Some, refl, sym, ap, subst, ◌∙◌, append_assoc, append-nil, arith}
use Rattle.std.specs.Prelude.{nat_lt, if◌then◌else◌}
use Rattle.std.specs.List.{AllByRecursion, count_by, flat_map, sum_by}
use Rattle.std.specs.FinMap as finite
use Rattle.std.specs.Ordering.{is_eq}
use Rattle.std.specs.FinMap.{FinMap, entries, find, get, get-entries, insert, keys, len-entries}
use Rattle.std.proofs.lemmas.List.{length-map}
use Rattle.std.proofs.lemmas.List.Concat.{flat_map-append}
use Rattle.std.proofs.lemmas.List.Sums.{sum_by-cons}
use Rattle.std.specs.declared.cmp.Ordering.{Ordering}
use Rattle.zpath.specs.Grammar.{path_cmp}
use Rattle.ztree.specs.declared.limits.TheConstants.{MOST_DATA, MOST_NODES}
use Rattle.ztree.specs.declared.node.Node.{Node}
use Rattle.ztree.specs.Tree.{Nodes, Path, Tree}
use Rattle.ztree.specs.Lawful.{AllNodes}
use Rattle.ztree.proofs.Maps.{is_there, same_some}
use Rattle.ztree.proofs.Sorted.{paths_total, same_path}
use Rattle.zstore.proofs.Left.{Left, left_all, left_is, left_next}
use Rattle.zcalls.specs.Part.{is_owned}
use Rattle.zsnapshots.specs.declared.export.tally.TreeCounts.{TreeCounts}
use Rattle.zsnapshots.specs.export.Counts.{bytes_of, counts_of, has_counted, is_ephemeral}
use Rattle.zsnapshots.specs.export.Export.{ended, export_text, lines_for}
use Rattle.zsnapshots.specs.export.Laws.{IsWithinLimits}
use Rattle.zsnapshots.specs.export.support.Counting.{counted, text_for, HasRoom}

-- ---- the rows of a map that are left, by their keys

abbrev pub AreThere : Nodes → List (Path × Node) → Type 0
AreThere nodes = AllByRecursion (λ (e : Path × Node). get nodes e.0 ≡ Some e.1)

each_there : (nodes now : Nodes) (rest : List (Path × Node)) → Left paths_total same_path nodes now rest → AreThere nodes rest
each_there nodes now [] left = tt
each_there nodes now (e ∷ rest) left = (
  left_is paths_total same_path nodes now e rest left,
  each_there nodes
      (insert now e.0 e.1) rest (left_next paths_total same_path nodes now e rest left),
)

all_there : (nodes : Nodes) → AreThere nodes (entries nodes)
all_there nodes = each_there nodes finite.empty (entries nodes) (left_all paths_total same_path nodes)

-- the nodes at these paths are left
pub record AreLeft (nodes : Nodes) (paths : List Path) (rows : List (Path × Node)) : Type 0 where
  pub named : paths ≡ map (λ e. e.0) rows
  pub there : AreThere nodes rows

pub all_left : (nodes : Nodes) (paths : List Path) → paths ≡ keys nodes → AreLeft nodes paths (entries nodes)
all_left nodes paths named = record { named = named; there = all_there nodes }

-- the first of them
pub record IsFirst (nodes : Nodes) (path : Path) (paths : List Path) (rows : List (Path × Node)) : Type 0 where
  pub n : Node
  pub more : List (Path × Node)
  pub is : rows ≡ (path, n) ∷ more
  pub at : get nodes path ≡ Some n
  pub left : AreLeft nodes paths more

pub first_of : (nodes : Nodes) (path : Path) (paths : List Path) (rows : List (Path × Node)) → AreLeft nodes (path ∷ paths) rows
    → IsFirst nodes path paths rows
first_of nodes path paths [] left = absurd (cc left.named)
first_of nodes path paths (e ∷ rows) left =
    let named : path ∷ paths ≡ e.0 ∷ map (λ (f : Path × Node). f.0) rows = left.named in
    let first : path ≡ e.0 = cc in
    let others : paths ≡ map (λ (f : Path × Node). f.0) rows = cc in
    record {
      n = e.1;
      more = rows;
      is = λ i. (sym first i, e.1) ∷ rows;
      at = ap (get nodes) first ∙ left.there.0;
      left = record { named = others; there = left.there.1 };
    }

none_left : (nodes : Nodes) (rows : List (Path × Node)) → AreLeft nodes [] rows → rows ≡ []
none_left nodes [] left = refl
none_left nodes (e ∷ rows) left = absurd (cc left.named)

-- ---- what was written

-- nodes within their limits
abbrev pub AreWithin : List (Path × Node) → Type 0
AreWithin = AllByRecursion (λ (e : Path × Node). IsWithinLimits e.1)

found_here : (b : Bool) (n m : Node) (later : Option Node) → (later ≡ Some n → IsWithinLimits n) → IsWithinLimits m
    → cond b (Some m) later ≡ Some n → IsWithinLimits n
found_here true n m later further here found = subst IsWithinLimits (same_some m n found) here
found_here false n m later further here found = further found

found_within : (es : List (Path × Node)) (q : Path) (n : Node) → AreWithin es → find path_cmp q es ≡ Some n → IsWithinLimits n
found_within [] q n are found = cc
found_within (e ∷ es) q n are found = found_here (is_eq (path_cmp q e.0)) n e.1 (find path_cmp q es) (found_within es q n are.1) are.0 found

all_within : (nodes : Nodes) → AreWithin (entries nodes) → AllNodes IsWithinLimits nodes
all_within nodes are path n at = found_within (entries nodes) path n are (sym (get-entries nodes path) ∙ at)

-- The lines of the nodes that are left are still to be written. All nodes are within their limits if
-- these are.
pub record IsWriting (t : Tree) (written : List ℕ) (paths : List Path) : Type 0 where
  pub rows : List (Path × Node)
  pub left : AreLeft t.nodes paths rows
  pub within : AreWithin rows → AllNodes IsWithinLimits t.nodes
  pub all : export_text t ≡ written ++ flat_map ended (flat_map lines_for rows)

pub writing_all : (t : Tree) (paths : List Path) → paths ≡ keys t.nodes → IsWriting t [] paths
writing_all t paths named = record { rows = entries t.nodes; left = all_left t.nodes paths named; within = all_within t.nodes; all = refl }

-- the next of them, and what is left after its lines
record IsNext (t : Tree) (written : List ℕ) (path : Path) (paths : List Path) (n : Node) (rows : List (Path × Node)) : Type 0 where
  more : List (Path × Node)
  left : AreLeft t.nodes paths more
  is : rows ≡ (path, n) ∷ more
  all : export_text t ≡ (written ++ text_for path n) ++ flat_map ended (flat_map lines_for more)

next_of : (t : Tree) (written : List ℕ) (path : Path) (paths : List Path) (n : Node) → get t.nodes path ≡ Some n
    → (w : IsWriting t written (path ∷ paths)) → IsNext t written path paths n w.rows
next_of t written path paths n got w =
    let first = first_of t.nodes path paths w.rows w.left in
    let same = same_some first.n n (sym first.at ∙ got) in
    let more = flat_map ended (flat_map lines_for first.more) in
    let is : w.rows ≡ (path, n) ∷ first.more = first.is ∙ ap (λ (m : Node). (path, m) ∷ first.more) same in
    record {
      more = first.more;
      left = first.left;
      is = is;
      all = w.all ∙ ap (λ (x : List ℕ). written ++ x)
          (ap (λ (rows : List (Path × Node)). flat_map ended (flat_map lines_for rows)) is
          ∙ flat_map-append ended (lines_for (path, n)) (flat_map lines_for first.more))
          ∙ sym (append_assoc written (text_for path n) more);
    }

pub writing_next : (t : Tree) (written : List ℕ) (path : Path) (paths : List Path) (n : Node) → get t.nodes path ≡ Some n → IsWithinLimits n
    → IsWriting t written (path ∷ paths) → IsWriting t (written ++ text_for path n) paths
writing_next t written path paths n got limits w =
    let next = next_of t written path paths n got w in
    record {
      rows = next.more;
      left = next.left;
      within = λ more. w.within (subst AreWithin (sym next.is) (limits, more));
      all = next.all;
    }

pub writing_there : (t : Tree) (written : List ℕ) (path : Path) (paths : List Path) → IsWriting t written (path ∷ paths)
    → (n : Node) × (get t.nodes path ≡ Some n)
writing_there t written path paths w = let first = first_of t.nodes path paths w.rows w.left in (first.n, first.at)

pub writing_done : (t : Tree) (written : List ℕ) → IsWriting t written [] → written ≡ export_text t
writing_done t written w =
    let none = none_left t.nodes w.rows w.left in
    sym (w.all ∙ ap (λ rows. written ++ flat_map ended (flat_map lines_for rows)) none ∙ append-nil written)

pub writing_within : (t : Tree) (written : List ℕ) → IsWriting t written [] → AllNodes IsWithinLimits t.nodes
writing_within t written w = w.within (subst AreWithin (sym (none_left t.nodes w.rows w.left)) tt)

-- what was written is a prefix of all
pub writing_front : (t : Tree) (written : List ℕ) (paths : List Path) → IsWriting t written paths
    → (more : List ℕ) × (export_text t ≡ written ++ more)
writing_front t written paths w = (flat_map ended (flat_map lines_for w.rows), w.all)

-- and so is a prefix of the next node's lines after it
pub writing_part : (t : Tree) (written : List ℕ) (path : Path) (paths : List Path) (n : Node) (front back : List ℕ) → get t.nodes path ≡ Some n
    → text_for path n ≡ front ++ back → IsWriting t written (path ∷ paths) → (more : List ℕ) × (export_text t ≡ (written ++ front) ++ more)
writing_part t written path paths n front back got split w =
    let next = next_of t written path paths n got w in
    let more = flat_map ended (flat_map lines_for next.more) in (
      back ++ more,
      next.all ∙ ap (λ (x : List ℕ). (written ++ x) ++ more) split
          ∙ ap (λ (x : List ℕ). x ++ more) (sym (append_assoc written front back)) ∙ append_assoc (written ++ front) back more,
    )

-- ---- what was counted

-- the nodes that are left are still to be counted; that many were
pub record IsCounting (t : Tree) (c : TreeCounts) (paths : List Path) : Type 0 where
  pub rows : List (Path × Node)
  pub left : AreLeft t.nodes paths rows
  pub done : ℕ
  pub few : done + length rows ≤ MOST_NODES
  pub bytes_few : c.bytes ≤ done * MOST_DATA
  pub ephemerals_few : c.ephemerals ≤ done
  pub counters_few : c.counters ≤ done
  pub bytes : c.bytes + sum_by bytes_of rows ≡ (counts_of t).bytes
  pub ephemerals : c.ephemerals + count_by is_ephemeral rows ≡ (counts_of t).ephemerals
  pub counters : c.counters + count_by has_counted rows ≡ (counts_of t).counters
  pub others : c ≡ record (counts_of t) { bytes = c.bytes; ephemerals = c.ephemerals; counters = c.counters }

-- how many keys a map has
pub len_keys : {K X : Type 0} {R : K → K → Ordering} (m : FinMap R X) (ks : List K) → ks ≡ keys m → length ks ≡ finite.len m
len_keys {K = K} {X = X} m ks is = ap (λ (l : List K). length l) is ∙ length-map (entries m) (λ (e : K × X). e.0) ∙ sym (len-entries m)

pub counting_all : (t : Tree) (c : TreeCounts) (paths : List Path) → paths ≡ keys t.nodes → finite.len t.nodes ≤ MOST_NODES
    → c ≡ record (counts_of t) { bytes = 0; ephemerals = 0; counters = 0 } → IsCounting t c paths
counting_all t c paths named few is = subst (λ (d : TreeCounts). IsCounting t d paths) (sym is) (record {
  rows = entries t.nodes;
  left = all_left t.nodes paths named;
  done = 0;
  few = let all = len-entries t.nodes in omega (arith, all, few);
  bytes_few = omega arith;
  ephemerals_few = omega arith;
  counters_few = omega arith;
  bytes = omega arith;
  ephemerals = omega arith;
  counters = omega arith;
  others = refl;
})

pub counting_room : (t : Tree) (c : TreeCounts) (path : Path) (paths : List Path) → IsCounting t c (path ∷ paths) → HasRoom c
counting_room t c path paths counting =
    let few = counting.few in
    let bytes = counting.bytes_few in
    let ephemerals = counting.ephemerals_few in
    let counters = counting.counters_few in
    record {
      bytes = omega (arith, few, bytes);
      ephemerals = omega (arith, few, ephemerals);
      counters = omega (arith, few, counters);
    }

pub counting_there : (t : Tree) (c : TreeCounts) (path : Path) (paths : List Path) → IsCounting t c (path ∷ paths)
    → (n : Node) × (get t.nodes path ≡ Some n)
counting_there t c path paths counting = let first = first_of t.nodes path paths counting.rows counting.left in (first.n, first.at)

add_up : (before x rest sum all : ℕ) → sum ≡ x + rest → before + sum ≡ all → (before + x) + rest ≡ all
add_up before x rest sum all one e = omega (arith, one, e)

count_few : (b : Bool) (before done : ℕ) → before ≤ done → before + cond b 1 0 ≤ done + 1
count_few true before done few = omega (arith, few)
count_few false before done few = omega (arith, few)

pub counting_next : (t : Tree) (c : TreeCounts) (path : Path) (paths : List Path) (n : Node) → get t.nodes path ≡ Some n → length n.bytes ≤ MOST_DATA
    → IsCounting t c (path ∷ paths) → IsCounting t (counted n c) paths
counting_next t c path paths n got short counting =
    let first = first_of t.nodes path paths counting.rows counting.left in
    let same = same_some first.n n (sym first.at ∙ got) in
    let is : counting.rows ≡ (path, n) ∷ first.more = first.is ∙ ap (λ m. (path, m) ∷ first.more) same in
    let few : counting.done + length ((path, n) ∷ first.more) ≤ MOST_NODES = subst (λ rows. counting.done + length rows ≤ MOST_NODES) is counting.few in
    let bytes_few = counting.bytes_few in
    let bytes : c.bytes + sum_by bytes_of ((path, n) ∷ first.more)
    ≡ (counts_of t).bytes = subst (λ rows. c.bytes + sum_by bytes_of rows ≡ (counts_of t).bytes) is counting.bytes in
    let ephemerals : c.ephemerals + count_by is_ephemeral ((path, n) ∷ first.more) ≡ (counts_of t).ephemerals = subst
    (λ rows. c.ephemerals + count_by is_ephemeral rows ≡ (counts_of t).ephemerals) is counting.ephemerals in
    let counters : c.counters + count_by has_counted ((path, n) ∷ first.more) ≡ (counts_of t).counters = subst
    (λ rows. c.counters + count_by has_counted rows ≡ (counts_of t).counters) is counting.counters in
    record {
      rows = first.more;
      left = first.left;
      done = counting.done + 1;
      few = omega (arith, few);
      bytes_few = omega (arith, bytes_few, short);
      ephemerals_few = count_few (is_owned n) c.ephemerals counting.done counting.ephemerals_few;
      counters_few = count_few (nat_lt 0 n.seq) c.counters counting.done counting.counters_few;
      bytes = add_up c.bytes (length n.bytes) (sum_by bytes_of first.more) (sum_by bytes_of ((path, n) ∷ first.more)) (counts_of t).bytes
          (sum_by-cons bytes_of (path, n) first.more) bytes;
      ephemerals = add_up c.ephemerals (cond (is_owned n) 1 0) (count_by is_ephemeral first.more)
          (count_by is_ephemeral ((path, n) ∷ first.more)) (counts_of t).ephemerals
          (sum_by-cons (λ (e : Path × Node). cond (is_ephemeral e) 1 0) (path, n) first.more) ephemerals;
      counters = add_up c.counters (cond (nat_lt 0 n.seq) 1 0) (count_by has_counted first.more)
          (count_by has_counted ((path, n) ∷ first.more)) (counts_of t).counters
          (sum_by-cons (λ (e : Path × Node). cond (has_counted e) 1 0) (path, n) first.more) counters;
      others = ap (counted n) counting.others;
    }

pub counting_done : (t : Tree) (c : TreeCounts) → IsCounting t c [] → c ≡ counts_of t
counting_done t c counting =
    let none = none_left t.nodes counting.rows counting.left in
    let bytes : c.bytes + 0 ≡ (counts_of t).bytes = subst (λ rows. c.bytes + sum_by bytes_of rows ≡ (counts_of t).bytes) none counting.bytes in
    let ephemerals : c.ephemerals + 0 ≡ (counts_of t).ephemerals = subst (λ rows. c.ephemerals + count_by is_ephemeral rows
    ≡ (counts_of t).ephemerals) none counting.ephemerals in
    let counters : c.counters + 0 ≡ (counts_of t).counters = subst (λ rows. c.counters + count_by has_counted rows
    ≡ (counts_of t).counters) none counting.counters in
    let b : c.bytes ≡ (counts_of t).bytes = omega (arith, bytes) in
    let e : c.ephemerals ≡ (counts_of t).ephemerals = omega (arith, ephemerals) in
    let k : c.counters ≡ (counts_of t).counters = omega (arith, counters) in
    counting.others ∙ (λ i. record (counts_of t) { bytes = b i; ephemerals = e i; counters = k i })
