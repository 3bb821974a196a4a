-- When a store is ready for a call, and what a call leaves of it.
use Rattle.std.specs.Prelude.{◌≡◌, ◌≢◌, true, false, Bool, List, [], ℕ, ◌+◌, ◌*◌, ◌<◌, ◌≤◌, Some}
use Rattle.ztree.specs.Room.{HasRoom}
use Rattle.ztree.specs.Lawful.{AllNodes}
use Rattle.ztree.specs.declared.limits.TheConstants.{MOST_NODES, ZXID_BOUND}
use Rattle.zstore.specs.declared.limits.TheConstants.{ID_BOUND}
use Rattle.zstore.specs.StoreView.{StoreView, Mark, Id, Ids, AreAt, path_of}
use Rattle.std.specs.FinMap as finite
use Rattle.zpath.specs.Grammar.{path_cmp}
use Rattle.ztree.specs.Tree.{Path, has_node, children}
use Rattle.ztree.specs.Sessions.{without_nodes}
use Rattle.ztree.specs.Laws.{NoneTwice}
use Rattle.std.specs.List.{AllByRecursion}
use Rattle.zcalls.specs.declared.limits.TheConstants.{MOST_PARTS, MAX_RAISES}
use Rattle.zops.specs.declared.limits.TheConstants.{MAX_APPLIED}
use Rattle.zcalls.specs.Bounds.{IsBounded, IsWithin}
use Rattle.zcalls.specs.support.Alone.{ChangesNodesAlone}
use Rattle.zops.specs.Restored.{AllDated}

-- a part can be done: each counter has room for one more, the next change has a number, and an Id is left
pub record IsReadyForPart (store : StoreView) : Type 0 where
  pub counters : AllNodes HasRoom store.tree.nodes
  pub zxid : store.tree.zxid + 1 < ZXID_BOUND
  pub given : store.given < ID_BOUND

-- between two calls: the tree's numbers are bounded, and there are Ids for a multi
pub record IsSteady (store : StoreView) : Type 0 where
  pub bounded : IsBounded store.tree
  pub given : store.given + MOST_PARTS < ID_BOUND

-- a change can be made: the next one has a number
pub record IsReady (store : StoreView) : Type 0 where
  pub steady : IsSteady store
  pub zxid : store.tree.zxid + 1 < ZXID_BOUND

-- a call leaves the tree bounded, and gives few Ids
pub record StaysBounded (old new : StoreView) : Type 0 where
  pub bounded : IsBounded new.tree
  pub given : new.given ≤ old.given + MOST_PARTS

-- the tree is as it was, and every Id names what it named; some numbers of Ids may be used up
abbrev pub IsAsItWas : StoreView → StoreView → Type 0
IsAsItWas old new = (new.tree ≡ old.tree) × (new.places ≡ old.places)

-- an Id that named a path names it still, where it has a node still
abbrev pub KeepsLeft : StoreView → StoreView → Type 0
KeepsLeft old new = (id : Id) (path : Path) → path_of old id ≡ Some path → has_node new.tree.nodes path ≡ true → path_of new id ≡ Some path

-- the Ids name nodes that can be taken away one after the other: leaves below the root, each once
pub record CanRemove (store : StoreView) (ids : Ids) : Type 0 where
  pub paths : List Path
  pub named : AreAt store.places ids paths
  pub leaves : AllByRecursion (λ path. (path ≢ []) × (children store.tree.nodes path ≡ [])) paths
  pub there : AllByRecursion (λ path. has_node store.tree.nodes path ≡ true) paths
  pub apart : NoneTwice path_cmp paths

-- the nodes that these Ids name are taken away, one after the other
abbrev pub RemovesNamed : Ids → StoreView → StoreView → Type 0
RemovesNamed ids old new =
    (paths : List Path) → AreAt old.places ids paths → new.tree ≡ without_nodes old.tree paths

-- a mark is set that remembers what this one does, with room for undoing that many parts
abbrev pub HasMark : ℕ → Mark → StoreView → Type 0
HasMark parts m store = (n : Mark) × (store.marked ≡ Some n) × (n.tree ≡ m.tree) × (n.places ≡ m.places) × (2 * parts ≤ n.steps)

-- one part uses up the room of one
abbrev pub KeepsMark : StoreView → StoreView → Type 0
KeepsMark old new = (parts : ℕ) (m : Mark) → HasMark (parts + 1) m old → HasMark parts m new

-- what all parts of a multi leave, before the change is counted: nodes that were raised once a part at most
pub record IsRun (old new : StoreView) : Type 0 where
  pub alone : ChangesNodesAlone old.tree new.tree
  pub within : AllNodes (IsWithin (MAX_RAISES * old.tree.zxid + MOST_PARTS)) new.tree.nodes

-- the invariant of a machine: bounded numbers, few entries, and few Ids for each entry beside those
-- of its first nodes. While it has memory, it has no node of a later change or tick
pub record IsSound (store : StoreView) (applied : ℕ) (is_broken : Bool) : Type 0 where
  pub bounded : IsBounded store.tree
  pub applied_few : applied ≤ MAX_APPLIED
  pub given_few : store.given ≤ MOST_PARTS * applied + MOST_NODES
  pub dated : is_broken ≡ false → AllDated store.tree

-- the invariant of a machine while it is restored: bounded numbers, few entries, one Id for each
-- node, and no node of a later change or tick
pub record IsRestoring (store : StoreView) (applied : ℕ) : Type 0 where
  pub bounded : IsBounded store.tree
  pub applied_few : applied ≤ MAX_APPLIED
  pub given_few : store.given ≤ finite.len store.tree.nodes
  pub dated : AllDated store.tree
