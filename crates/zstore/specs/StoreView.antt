-- What a contract sees of a store: the tree it holds, the Ids of its nodes, and its savepoint.
use Rattle.std.specs.Prelude.{◌≡◌, ℕ, ◌+◌, ◌-◌, ◌≤◌, nat_le, Bool, List, Option, None, Some, refl, if◌then◌else◌}
use Rattle.std.specs.Coded.{Coded, code_by, coded×, coded_ℕ, coded_option}
use Rattle.std.specs.Option.{option_and_then, option_map}
use Rattle.std.specs.FinMap as finite
use Rattle.std.specs.FinMap.{FinMap, get, insert, remove}
pub use Rattle.zslots.specs.declared.id.Id.{Id}
pub use Rattle.zslots.specs.Ids.{Ids}
use Rattle.zslots.specs.Generations.{generation_number}
use Rattle.zslots.specs.Ids.{id_cmp, coded_id}
pub use Rattle.znodes.specs.NodesView.{AreAt, AreStale}
use Rattle.ztree.specs.declared.term.Term.{Term}
use Rattle.ztree.specs.declared.node.Node.{Node}
use Rattle.ztree.specs.declared.node.Stat.{Stat}
use Rattle.ztree.specs.declared.session.Session.{Session}
use Rattle.ztree.specs.Tree.{Tree, Name, Path, Nodes, has_node, stat_at, children, with_node, with_data_at, without_node}
use Rattle.ztree.specs.Room.{AtParent}
use Rattle.ztree.specs.support.Codes.{coded_tree, coded_path}

-- A savepoint: the tree and the Ids when it was set, and how many more steps can be rolled back.
pub record Mark : Type 0 where
  pub tree : Tree
  pub places : FinMap id_cmp Path
  pub steps : ℕ

-- the tree, the paths of the live Ids, the number of Ids given out so far, and the savepoint, if
-- one is set
pub record StoreView : Type 0 where
  pub tree : Tree
  pub places : FinMap id_cmp Path
  pub given : ℕ
  pub marked : Option Mark

-- the number of an Id: how many were given out before it
abbrev pub number_of : Id → ℕ
number_of id = generation_number id.generation

-- the path of the node with this Id
abbrev pub path_of : StoreView → Id → Option Path
path_of h id = get h.places id

-- the node with this Id
abbrev pub node_of : StoreView → Id → Option Node
node_of h id = option_and_then (get h.tree.nodes) (path_of h id)

-- the path of this Id, if there is one, has the property
abbrev pub AtPath : StoreView → Id → (Path → Type 0) → Type 0
AtPath h id P = (path : Path) → path_of h id ≡ Some path → P path

-- the parent of the node with this Id, if there is one, has the property
abbrev pub AtParentOf : StoreView → Id → (Node → Type 0) → Type 0
AtParentOf h id P = AtPath h id (λ path. AtParent h.tree.nodes path P)

-- the session with this id, if there is one, has the property
abbrev pub AtSession : StoreView → ℕ → (Session → Type 0) → Type 0
AtSession h id P = (s : Session) → get h.tree.sessions id ≡ Some s → P s

-- the node with this Id, if there is one, has the property
abbrev pub AtNode : StoreView → Id → (Node → Type 0) → Type 0
AtNode h id P = (n : Node) → node_of h id ≡ Some n → P n

-- the data of the node with this Id
abbrev pub data_of : StoreView → Id → Option (List ℕ)
data_of h id = option_map (λ (n : Node). n.bytes) (node_of h id)

-- the counter of the node with this Id
abbrev pub seq_of : StoreView → Id → Option ℕ
seq_of h id = option_map (λ (n : Node). n.seq) (node_of h id)

-- the term of the node with this Id
abbrev pub term_of : StoreView → Id → Option Term
term_of h id = option_map (λ (n : Node). n.term) (node_of h id)

-- this is the stat of the node with this Id
abbrev pub IsStatOf : StoreView → Id → Stat → Type 0
IsStatOf h id stat = AtPath h id (λ path. stat_at h.tree.nodes path ≡ Some stat)

-- these are the names of its children, in byte order
abbrev pub AreChildrenOf : StoreView → Id → List Name → Type 0
AreChildrenOf h id names = AtPath h id (λ path. names ≡ children h.tree.nodes path)

-- every Id names what it named, and none was given out
abbrev pub KeepsIds : StoreView → StoreView → Type 0
KeepsIds old new = (new.places ≡ old.places) × (new.given ≡ old.given)

-- at most one Id was given out, and none was taken back
abbrev pub GivesAtMostOne : StoreView → StoreView → Type 0
GivesAtMostOne old new = (old.given ≤ new.given) × (new.given ≤ old.given + 1)

-- the Id is the next to be given out and now names this path; every other Id names what it named
pub record NamesNew (old new : StoreView) (id : Id) (path : Path) : Type 0 where
  pub free : path_of old id ≡ None
  pub named : new.places ≡ insert old.places id path
  pub next : number_of id ≡ old.given
  pub given : new.given ≡ old.given + 1

-- the Id names nothing any more; every other Id names what it named
abbrev pub Forgets : StoreView → StoreView → Id → Type 0
Forgets old new id = new.places ≡ remove old.places id

-- the path, if there still is a node at it
abbrev pub while_there : Nodes → Path → Option Path
while_there nodes path = if has_node nodes path then Some path else None

-- an Id whose node is gone names nothing any more; every other Id names what it named
abbrev pub ForgetsGone : StoreView → StoreView → Type 0
ForgetsGone old new = (id : Id) →
    path_of new id ≡ option_and_then (while_there new.tree.nodes) (path_of old id)

-- the next change creates a node at the path
abbrev pub MakesNode : StoreView → StoreView → Path → List ℕ → ℕ → Term → Bool → Type 0
MakesNode old new path bytes owner term sequential =
    new.tree ≡ with_node old.tree path bytes owner term sequential

-- the next change writes the data of the node with this Id
abbrev pub WritesData : StoreView → StoreView → Id → List ℕ → Type 0
WritesData old new id bytes = AtPath old id (λ path. new.tree ≡ with_data_at old.tree path bytes)

-- the next change removes the node with this Id
abbrev pub DropsNode : StoreView → StoreView → Id → Type 0
DropsNode old new id = AtPath old id (λ path. new.tree ≡ without_node old.tree path)

-- the savepoint, if one is set, has the property
abbrev pub AtMark : StoreView → (Mark → Type 0) → Type 0
AtMark h P = (m : Mark) → h.marked ≡ Some m → P m

-- the same store without a savepoint
abbrev pub without_mark : StoreView → StoreView
without_mark h = record h { marked = None }

-- a savepoint after k more steps; it is given up if it has no room for them
abbrev pub mark_left : ℕ → Option Mark → Option Mark
mark_left k None = None
mark_left k (Some m) = if nat_le k m.steps then Some (record m { steps = m.steps - k }) else None

-- nothing changed, except that a savepoint is set here, with room for at least this many steps
pub record MarksHere (steps : ℕ) (old new : StoreView) : Type 0 where
  pub tree : new.tree ≡ old.tree
  pub same : KeepsIds old new
  pub mark : Mark
  pub marked : new.marked ≡ Some mark
  pub tree_here : mark.tree ≡ old.tree
  pub places_here : mark.places ≡ old.places
  pub room : steps ≤ mark.steps

-- the tree and all Ids are as they were at the savepoint
abbrev pub GoesBack : StoreView → Mark → Type 0
GoesBack new m = (new.tree ≡ m.tree) × (new.places ≡ m.places)

-- how a savepoint is encoded
abbrev pub coded_mark : Coded Mark
coded_mark =
    code_by (Tree × (FinMap id_cmp Path × ℕ))
    (coded× coded_tree (coded× (finite.code coded_id coded_path) coded_ℕ))
    (λ m. (m.tree, (m.places, m.steps))) (λ p. record { tree = p.0; places = p.1.0; steps = p.1.1 })
    (λ _. refl)

-- how the view is encoded
abbrev pub coded_store_view : Coded StoreView
coded_store_view =
    code_by (Tree × (FinMap id_cmp Path × (ℕ × Option Mark)))
    (coded× coded_tree
    (coded× (finite.code coded_id coded_path) (coded× coded_ℕ (coded_option coded_mark))))
    (λ h. (h.tree, (h.places, (h.given, h.marked))))
    (λ p. record { tree = p.0; places = p.1.0; given = p.1.1.0; marked = p.1.1.1 }) (λ _. refl)
