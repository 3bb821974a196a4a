-- The invariant of a store, and what its fields represent.
use Rattle.std.specs.Prelude.{◌≡◌, ℕ, ◌+◌, ◌≤◌, true, Option, None, Some, is_some}
use Rattle.std.specs.Option.{option_map}
use Rattle.std.specs.FinMap as finite
use Rattle.std.specs.FinMap.{get}
use Rattle.zslots.specs.declared.id.Id.{Id}
use Rattle.ztree.specs.declared.limits.TreeLimits.{TreeLimits}
use Rattle.ztree.specs.Tree.{Tree, Path, Nodes, Sessions, has_node}
use Rattle.ztree.specs.Lawful.{IsLawful, HasPaths}
use Rattle.znodes.specs.NodesView.{NodesView}
use Rattle.zstore.specs.declared.store.Store.TheInside.{Inside}
use Rattle.zstore.specs.StoreView.{StoreView, Mark}
use Rattle.zstore.specs.support.Undoing.{Places, Owners, parts_of, all_undone, FitAll, all_returning, Notes, notes_of, undos_of, room_of}

-- the tree of these nodes
abbrev pub tree_of : Nodes → Sessions → ℕ → ℕ → TreeLimits → Tree
tree_of nodes sessions time zxid limits =
    record { nodes = nodes; sessions = sessions; time = time; zxid = zxid; limits = limits }

-- the state at a mark, by what was noted since
abbrev pub mark_of : NodesView → Sessions → ℕ → ℕ → TreeLimits → Notes → Mark
mark_of v sessions time zxid limits n =
    record {
      tree = tree_of (all_undone n.undos (parts_of v)).nodes sessions time zxid limits;
      places = (all_undone n.undos (parts_of v)).places;
      steps = n.room;
    }

-- what the fields of a store represent
abbrev pub held_by : Inside → StoreView
held_by s =
    record {
      tree = tree_of s.nodes.nodes s.sessions s.time s.zxid s.limits;
      places = s.nodes.places;
      given = s.nodes.given;
      marked = option_map (mark_of s.nodes s.sessions s.time s.zxid s.limits) (notes_of s.log);
    }

-- an Id that names a path names a node that is there, and no other Id names it
pub record NamesNodes (nodes : Nodes) (places : Places) : Type 0 where
  pub there : (id : Id) (path : Path) → get places id ≡ Some path → has_node nodes path ≡ true
  pub alone : (a b : Id) (path : Path) → get places a ≡ Some path → get places b ≡ Some path → a ≡ b

-- the tree is lawful, its keys are paths, and the Ids name its nodes
pub record IsKept (nodes : Nodes) (places : Places) (sessions : Sessions) (time zxid : ℕ)
    (limits : TreeLimits) : Type 0 where
  pub lawful : IsLawful (tree_of nodes sessions time zxid limits)
  pub paths : HasPaths nodes
  pub named : NamesNodes nodes places

-- those may own nodes who have a session
abbrev pub AreOwners : Owners → Sessions → Type 0
AreOwners owners sessions = (id : ℕ) → is_some (get owners id) ≡ is_some (get sessions id)

-- the invariant of every store: where a mark is set, what was done since can be undone, and leads
-- to a tree with the invariant. Nothing is held but what was taken away since
pub record IsStored (notes : Option Notes) (v : NodesView) (sessions : Sessions)
    (time zxid : ℕ) (limits : TreeLimits) : Type 0 where
  pub kept : IsKept v.nodes v.places sessions time zxid limits
  pub owners : AreOwners v.owners sessions
  pub apart : (id : Id) (path : Path) → get v.places id ≡ Some path → get v.held id ≡ None
  pub fit : FitAll v.owners (undos_of notes) (parts_of v)
  pub before : IsKept (all_undone (undos_of notes) (parts_of v)).nodes
      (all_undone (undos_of notes) (parts_of v)).places sessions time zxid limits
  pub held : (all_undone (undos_of notes) (parts_of v)).held ≡ finite.empty
  pub room : room_of notes + all_returning (undos_of notes) ≤ v.room
