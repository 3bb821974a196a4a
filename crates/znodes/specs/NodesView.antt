-- What a contract sees of a `Nodes`: the znodes by path, and what the Ids name.
use Rattle.std.specs.Prelude.{◌≡◌, ◌≢◌, ◌⊎◌, ℕ, ◌+◌, ◌≤◌, true, false, List, length, [], ◌∷◌, Option, None, Some, IsSome, refl}
use Rattle.std.specs.Coded.{Coded, code_by, coded×, coded_ℕ, prop_coded, Unit-prop}
use Rattle.std.specs.Option.{option_and_then, option_map}
use Rattle.std.specs.Ordering.{nat_cmp}
use Rattle.std.specs.FinMap as finite
use Rattle.std.specs.FinMap.{FinMap, get, insert, remove}
use Rattle.zpath.specs.Grammar.{path_cmp}
use Rattle.zslots.specs.declared.id.Id.{Id}
use Rattle.zslots.specs.Generations.{generation_number}
use Rattle.zslots.specs.Ids.{Ids, id_cmp, coded_id}
use Rattle.ztree.specs.declared.node.Node.{Node}
use Rattle.ztree.specs.Tree.{Name, Path, Nodes, parent_of, has_node, children, with_change_at}
use Rattle.ztree.specs.Stale.{is_stale_at}
use Rattle.ztree.specs.Laws.{has_path, NoneTwice}
use Rattle.ztree.specs.support.Codes.{coded_path, coded_node}
use Rattle.znodes.specs.declared.parts.Marks.{Marks}
use Rattle.znodes.specs.declared.parts.Content.{Content}

-- a removed node, with its path
abbrev pub Taken : Type 0
Taken = Path × Node

-- The znodes by path; the paths of the live Ids; the removed nodes that can come back under their
-- Ids; the sessions that may own nodes. Then the number of Ids given out so far, and how many more
-- nodes the index can take without allocating.
pub record NodesView : Type 0 where
  pub nodes : Nodes
  pub places : FinMap id_cmp Path
  pub held : FinMap id_cmp Taken
  pub owners : FinMap nat_cmp (Unit {0})
  pub given : ℕ
  pub room : ℕ

-- the path of the node with this Id
abbrev pub path_of : NodesView → Id → Option Path
path_of v id = get v.places id

-- the node with this Id
abbrev pub node_of : NodesView → Id → Option Node
node_of v id = option_and_then (get v.nodes) (path_of v id)

-- the path of this Id, if there is one, has the property
abbrev pub AtPath : NodesView → Id → (Path → Type 0) → Type 0
AtPath v id P = (path : Path) → path_of v id ≡ Some path → P path

-- the node with this Id, if there is one, has the property
abbrev pub AtNode : NodesView → Id → (Node → Type 0) → Type 0
AtNode v id P = (n : Node) → node_of v id ≡ Some n → P n

-- the removed node under this Id, if there is one, has the property
abbrev pub AtTaken : NodesView → Id → (Taken → Type 0) → Type 0
AtTaken v id P = (t : Taken) → get v.held id ≡ Some t → P t

-- these are the names of the children of the node with this Id
abbrev pub AreChildrenOf : NodesView → Id → List Name → Type 0
AreChildrenOf v id names = AtPath v id (λ path. names ≡ children v.nodes path)

-- the number of children of the node with this Id
abbrev pub child_count_of : NodesView → Id → Option ℕ
child_count_of v id = option_map (λ path. length (children v.nodes path)) (path_of v id)

-- the second Id names the parent of the node with the first Id
abbrev pub IsUnder : NodesView → Id → Id → Type 0
IsUnder v id parent = AtPath v id (λ path. path_of v parent ≡ Some (parent_of path))

-- the owner is 0 (no owner), or a session that may own nodes
abbrev pub IsKnownOwner : NodesView → ℕ → Type 0
IsKnownOwner v owner = (owner ≡ 0) ⊎ IsSome (get v.owners owner)

-- the initial state: the root alone, under the first Id
pub record IsOpening (root : Node) (v : NodesView) : Type 0 where
  pub nodes : v.nodes ≡ insert finite.empty [] root
  pub id : Id
  pub places : v.places ≡ insert finite.empty id []
  pub held : v.held ≡ finite.empty
  pub owners : v.owners ≡ finite.empty
  pub given : v.given ≡ 1

-- the Ids name these paths, in order
abbrev pub AreAt : FinMap id_cmp Path → Ids → List Path → Type 0
AreAt places [] [] = Unit {0}
AreAt places [] (path ∷ paths) = ⊥
AreAt places (id ∷ ids) [] = ⊥
AreAt places (id ∷ ids) (path ∷ paths) = (get places id ≡ Some path) × AreAt places ids paths

-- the Ids name exactly the nodes that a tick removes, each once
pub record AreStale (nodes : Nodes) (places : FinMap id_cmp Path) (tick : ℕ)
    (ids : Ids) : Type 0 where
  pub paths : List Path
  pub named : AreAt places ids paths
  pub each : (path : Path) → has_path paths path ≡ is_stale_at nodes tick path
  pub once : NoneTwice path_cmp paths

-- only the room may have changed
abbrev pub SameButRoom : NodesView → NodesView → Type 0
SameButRoom old new = new ≡ record old { room = new.room }

-- a node was added at a free path, under a new Id
pub record Adds (old new : NodesView) (id : Id) (path : Path) (n : Node) : Type 0 where
  pub free : path_of old id ≡ None
  pub unheld : get old.held id ≡ None
  pub next : generation_number id.generation ≡ old.given
  pub nodes : new.nodes ≡ insert old.nodes path n
  pub places : new.places ≡ insert old.places id path
  pub held : new.held ≡ old.held
  pub owners : new.owners ≡ old.owners
  pub given : new.given ≡ old.given + 1
  pub room : old.room ≤ new.room + 1

-- the node with this Id was removed, and can come back
pub record Takes (old new : NodesView) (id : Id) (path : Path) (n : Node) : Type 0 where
  pub nodes : new.nodes ≡ remove old.nodes path
  pub places : new.places ≡ remove old.places id
  pub held : new.held ≡ insert old.held id (path, n)
  pub owners : new.owners ≡ old.owners
  pub given : new.given ≡ old.given
  pub room : old.room ≤ new.room

-- a removed node can come back: its path is free, its parent exists, and its owner may own nodes
pub record CanReturn (v : NodesView) (t : Taken) : Type 0 where
  pub below_root : t.0 ≢ []
  pub free : has_node v.nodes t.0 ≡ false
  pub parent : has_node v.nodes (parent_of t.0) ≡ true
  pub owner : IsKnownOwner v t.1.owner

-- the removed node under this Id came back
pub record Returns (old new : NodesView) (id : Id) (t : Taken) : Type 0 where
  pub nodes : new.nodes ≡ insert old.nodes t.0 t.1
  pub places : new.places ≡ insert old.places id t.0
  pub held : new.held ≡ remove old.held id
  pub owners : new.owners ≡ old.owners
  pub given : new.given ≡ old.given
  pub room : old.room ≤ new.room + 1

-- the node with this Id was written, and nothing else changed
abbrev pub Writes : NodesView → NodesView → Id → (Node → Node) → Type 0
Writes old new id f =
    AtPath old id (λ path. new ≡ record old { nodes = with_change_at old.nodes path f })

-- the fields of a node that its children change
abbrev pub marks_of : Node → Marks
marks_of n = record { pzxid = n.pzxid; cversion = n.cversion; seq = n.seq }

-- the fields of a node that a write of its data changes
abbrev pub content_of : Node → Content
content_of n = record { bytes = n.bytes; mzxid = n.mzxid; mtime = n.mtime; version = n.version }

-- the node with these fields of its children
abbrev pub node_with_marks : Marks → Node → Node
node_with_marks m n = record n { pzxid = m.pzxid; cversion = m.cversion; seq = m.seq }

-- the node with these fields of its data
abbrev pub node_with_content : Content → Node → Node
node_with_content w n =
    record n { bytes = w.bytes; mzxid = w.mzxid; mtime = w.mtime; version = w.version }

-- how a removed node is encoded
abbrev pub coded_taken : Coded Taken
coded_taken = coded× coded_path coded_node

-- how the view is encoded
abbrev pub coded_nodes_view : Coded NodesView
coded_nodes_view =
    code_by
    (Nodes × (FinMap id_cmp Path × (FinMap id_cmp Taken × (FinMap nat_cmp (Unit {0}) × (ℕ × ℕ)))))
    (coded× (finite.code coded_path coded_node) (coded× (finite.code coded_id coded_path)
    (coded× (finite.code coded_id coded_taken)
    (coded× (finite.code coded_ℕ (prop_coded Unit-prop)) (coded× coded_ℕ coded_ℕ)))))
    (λ v. (v.nodes, (v.places, (v.held, (v.owners, (v.given, v.room))))))
    (λ p. record {
      nodes = p.0;
      places = p.1.0;
      held = p.1.1.0;
      owners = p.1.1.1.0;
      given = p.1.1.1.1.0;
      room = p.1.1.1.1.1;
    }) (λ _. refl)
