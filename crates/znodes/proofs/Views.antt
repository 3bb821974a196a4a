-- What the maps of a view find, and how they change where a row is taken away, comes back, or is written.
use Rattle.std.proofs.Common.{◌≡◌, ◌≢◌, ◌⊎◌, inl, inr, ℕ, true, false, cond, Option, Some, None, refl, sym, ap, ◌∙◌}
use Rattle.std.specs.Option.{option_map, option_map_or, option_and_then}
use Rattle.std.specs.declared.cmp.Ordering.{Ordering}
use Rattle.std.specs.Cmp.{IsTotalOrder, nat_cmp_total}
use Rattle.std.specs.FinMap.{FinMap, IsAntisymmetric, get, insert, remove, same_map}
use Rattle.zslots.specs.declared.id.Id.{Id}
use Rattle.zslots.specs.SlotsView.{Items}
use Rattle.zslots.proofs.Maps.{id_cmp_total, id_cmp_same}
use Rattle.zslots.proofs.MapValues.{get-map_values}
use Rattle.znodes.specs.index.IndexView.{IdsByPath}
use Rattle.ztree.specs.declared.node.Node.{Node}
use Rattle.ztree.specs.Tree.{Path}
use Rattle.ztree.proofs.Maps as maps
use Rattle.ztree.proofs.Sorted.{paths_total, same_path}
use Rattle.znodes.specs.declared.row.Row.{Row}
use Rattle.znodes.specs.NodesView.{Taken}
use Rattle.znodes.specs.support.OwnerLists.{OwnerLists}
use Rattle.znodes.specs.support.Rows.{Key, live_path, taken_row, node_at, nodes_of, places_of, held_of, known_of}
use Rattle.znodes.proofs.Faces.{Face, face, by-face, face-at}

pub get-nodes : (m : Items Row) (ids : IdsByPath) (q : Path) → get (nodes_of m ids) q ≡ option_and_then (node_at m) (get ids q)
get-nodes m ids q = get-map_values paths_total (node_at m) ids q

pub get-places : (m : Items Row) (q : Id) → get (places_of m) q ≡ option_and_then live_path (get m q)
get-places m q = get-map_values id_cmp_total live_path m q

pub get-held : (m : Items Row) (q : Id) → get (held_of m) q ≡ option_and_then taken_row (get m q)
get-held m q = get-map_values id_cmp_total taken_row m q

pub get-known : (owners : OwnerLists) (q : ℕ) → get (known_of owners) q ≡ option_and_then (λ _. Some tt) (get owners q)
get-known owners q = get-map_values nat_cmp_total (λ _. Some tt) owners q

-- as faces report it
abbrev live_face : Face → Option Path
live_face f = cond (option_map_or (λ (_ : Key). false) f.1.1 true) (Some f.0) None

abbrev taken_face : Face → Option Taken
taken_face f = cond (option_map_or (λ (_ : Key). false) f.1.1 true) None (Some (f.0, f.1.0))

pub places-at : (n : Items Row) (q : Id) (f : Face) → option_map face (get n q) ≡ Some f → get (places_of n) q ≡ live_face f
places-at n q f is = get-places n q ∙ face-at live_face (get n q) f is

pub held-at : (n : Items Row) (q : Id) (f : Face) → option_map face (get n q) ≡ Some f → get (held_of n) q ≡ taken_face f
held-at n q f is = get-held n q ∙ face-at taken_face (get n q) f is

pub places-alike : (m n : Items Row) (q : Id) → option_map face (get n q) ≡ option_map face (get m q) → get (places_of n) q ≡ get (places_of m) q
places-alike m n q kept = get-places n q ∙ by-face live_face (get n q) (get m q) kept ∙ sym (get-places m q)

pub held-alike : (m n : Items Row) (q : Id) → option_map face (get n q) ≡ option_map face (get m q) → get (held_of n) q ≡ get (held_of m) q
held-alike m n q kept = get-held n q ∙ by-face taken_face (get n q) (get m q) kept ∙ sym (get-held m q)

abbrev node_face : Face → Option Node
node_face f = Some f.1.0

node-map : (o : Option Row) → option_and_then (λ r. node_face (face r)) o ≡ option_map (λ (r : Row). r.node) o
node-map None = refl
node-map (Some r) = refl

pub node-at : (n : Items Row) (q : Id) (f : Face) → option_map face (get n q) ≡ Some f → node_at n q ≡ Some f.1.0
node-at n q f is = sym (node-map (get n q)) ∙ face-at node_face (get n q) f is

pub node-alike : (m n : Items Row) (q : Id) → option_map face (get n q) ≡ option_map face (get m q) → node_at n q ≡ node_at m q
node-alike m n q kept = sym (node-map (get n q)) ∙ by-face node_face (get n q) (get m q) kept ∙ node-map (get m q)

-- the same Id, or none
pub through : {X : Type 0} (f g : Id → Option X) (o : Option Id) → ((i : Id) → o ≡ Some i → f i ≡ g i) → option_and_then f o ≡ option_and_then g o
through f g None same = refl
through f g (Some i) same = same i refl

-- maps that agree but at one key, where one finds nothing, or a new value
module _ {K X : Type 0} {R : K → K → Ordering} (o : IsTotalOrder R) (same : IsAntisymmetric R) (m n : FinMap R X) (k : K) (elsewhere : (q : K) → q ≢ k → get n q ≡ get m q) where
  pub remove-is : get n k ≡ None → n ≡ remove m k
  remove-is none = same_map o same _ _ (λ q. by q (maps.same_or_other o same q k))
    where
      by : (q : K) → (q ≡ k) ⊎ (q ≢ k) → get n q ≡ get (remove m k) q
      by q (inl is) = ap (get n) is ∙ none ∙ sym (ap (get (remove m k)) is ∙ maps.get-remove-here o same m k)
      by q (inr other) = elsewhere q other ∙ sym (maps.get-remove-elsewhere o same m k q other)

  pub insert-is : (v : X) → get n k ≡ Some v → n ≡ insert m k v
  insert-is v has = same_map o same _ _ (λ q. by q (maps.same_or_other o same q k))
    where
      by : (q : K) → (q ≡ k) ⊎ (q ≢ k) → get n q ≡ get (insert m k v) q
      by q (inl is) = ap (get n) is ∙ has ∙ sym (ap (get (insert m k v)) is ∙ maps.get-insert-here o same m k v)
      by q (inr other) = elsewhere q other ∙ sym (maps.get-insert-elsewhere o same m k v q other)

-- one row's face changed
module _ (m n : Items Row) (id : Id) (path : Path) (node : Node) (elsewhere : (q : Id) → q ≢ id → option_map face (get n q) ≡ option_map face (get m q)) where
  -- it has a key now
  module _ (key : Key) (here : option_map face (get n id) ≡ Some (path, (node, Some key))) where
    pub places-taken : places_of n ≡ remove (places_of m) id
    places-taken = remove-is id_cmp_total id_cmp_same (places_of m) (places_of n) id (λ q other. places-alike m n q (elsewhere q other)) (places-at n id (path, (node, Some key)) here)

    pub held-taken : held_of n ≡ insert (held_of m) id (path, node)
    held-taken = insert-is id_cmp_total id_cmp_same (held_of m) (held_of n) id (λ q other. held-alike m n q (elsewhere q other)) (path, node) (held-at n id (path, (node, Some key)) here)

  -- it has no key now
  module _ (here : option_map face (get n id) ≡ Some (path, (node, None))) where
    pub places-back : places_of n ≡ insert (places_of m) id path
    places-back = insert-is id_cmp_total id_cmp_same (places_of m) (places_of n) id (λ q other. places-alike m n q (elsewhere q other)) path (places-at n id (path, (node, None)) here)

    pub held-back : held_of n ≡ remove (held_of m) id
    held-back = remove-is id_cmp_total id_cmp_same (held_of m) (held_of n) id (λ q other. held-alike m n q (elsewhere q other)) (held-at n id (path, (node, None)) here)

  -- the index changed at one path
  module _ (ids later : IdsByPath) (at : Path) (others : (q : Path) → q ≢ at → get later q ≡ get ids q) (apart : (q : Path) (i : Id) → q ≢ at → get ids q ≡ Some i → i ≢ id) where
    nodes-elsewhere : (q : Path) → q ≢ at → get (nodes_of n later) q ≡ get (nodes_of m ids) q
    nodes-elsewhere q other =
        get-nodes n later q ∙ ap (option_and_then (node_at n)) (others q other)
        ∙ through (node_at n) (node_at m) (get ids q) (λ i is. node-alike m n i (elsewhere i (apart q i other is)))
        ∙ sym (get-nodes m ids q)

    pub nodes-taken : get later at ≡ None → nodes_of n later ≡ remove (nodes_of m ids) at
    nodes-taken none = remove-is paths_total same_path (nodes_of m ids) (nodes_of n later) at nodes-elsewhere (get-nodes n later at ∙ ap (option_and_then (node_at n)) none)

    pub nodes-back : (k : Option Key) → option_map face (get n id) ≡ Some (path, (node, k)) → get later at ≡ Some id → nodes_of n later ≡ insert (nodes_of m ids) at node
    nodes-back k here has =
        insert-is paths_total same_path (nodes_of m ids) (nodes_of n later) at nodes-elsewhere node
        (get-nodes n later at ∙ ap (option_and_then (node_at n)) has ∙ node-at n id (path, (node, k)) here)
