-- What undoes a change of the nodes, and what is noted while a mark is set.
use Rattle.std.specs.Prelude.{◌≡◌, ◌≢◌, ◌⊎◌, ℕ, ◌+◌, ◌-◌, ◌≤◌, true, false, List, [], ◌∷◌, ◌++◌, Option, None, Some, IsSome, if◌then◌else◌, nat_le}
use Rattle.std.specs.Option.{option_map_or}
use Rattle.std.specs.Vec.{vec_len, vec_capacity}
use Rattle.std.specs.Ordering.{nat_cmp}
use Rattle.std.specs.FinMap.{FinMap, get, insert, remove}
use Rattle.zslots.specs.declared.id.Id.{Id}
use Rattle.zslots.specs.Ids.{id_cmp}
use Rattle.ztree.specs.declared.node.Node.{Node}
use Rattle.ztree.specs.Tree.{Path, Nodes, parent_of, has_node, children, with_change_at}
use Rattle.znodes.specs.NodesView.{NodesView, Taken, node_with_marks, node_with_content}
use Rattle.zstore.specs.declared.undo.Undo.{Undo}
use Rattle.zstore.specs.declared.undo.Undo.TheVariants as undo
use Rattle.zstore.specs.declared.log.Log.{Log}

-- the paths by their Ids, what was taken away by its Id, and who may own nodes
abbrev pub Places : Type 0
Places = FinMap id_cmp Path

abbrev pub Held : Type 0
Held = FinMap id_cmp Taken

abbrev pub Owners : Type 0
Owners = FinMap nat_cmp (Unit {0})

-- what a change changes: the nodes, the paths of the live Ids, and what was taken away and can come back
pub record Parts : Type 0 where
  pub nodes : Nodes
  pub places : Places
  pub held : Held

abbrev pub parts_of : NodesView → Parts
parts_of v = record { nodes = v.nodes; places = v.places; held = v.held }

-- the node that an Id names gone
abbrev pub without_added : Id → Parts → Parts
without_added id p =
    option_map_or
    (λ path. record { nodes = remove p.nodes path; places = remove p.places id; held = p.held })
    (get p.places id) p

-- the node that was taken away under an Id back
abbrev pub with_taken : Id → Parts → Parts
with_taken id p =
    option_map_or
    (λ t. record
    { nodes = insert p.nodes t.0 t.1; places = insert p.places id t.0; held = remove p.held id })
    (get p.held id) p

-- the node that an Id names changed
abbrev pub with_change_of : Id → (Node → Node) → Parts → Parts
with_change_of id f p =
    option_map_or (λ path. record p { nodes = with_change_at p.nodes path f }) (get p.places id) p

-- the parts before a change
abbrev pub undone : Undo → Parts → Parts
undone (undo.Added id) p = without_added id p
undone (undo.Taken id parent) p = with_taken id p
undone (undo.Marked id marks) p = with_change_of id (node_with_marks marks) p
undone (undo.Written id content) p = with_change_of id (node_with_content content) p

-- an added node can go: its Id names a leaf below the root, and nothing was taken away under it
pub record CanGo (p : Parts) (id : Id) : Type 0 where
  pub path : Path
  pub node : Node
  pub named : get p.places id ≡ Some path
  pub found : get p.nodes path ≡ Some node
  pub below_root : path ≢ []
  pub leaf : children p.nodes path ≡ []
  pub unheld : get p.held id ≡ None

-- a node that was taken away can come back: its path is free, the Id names the node above, and its owner is known
pub record CanComeBack (owners : Owners) (p : Parts) (id above : Id) : Type 0 where
  pub taken : Taken
  pub held : get p.held id ≡ Some taken
  pub below_root : taken.0 ≢ []
  pub free : has_node p.nodes taken.0 ≡ false
  pub parent : has_node p.nodes (parent_of taken.0) ≡ true
  pub under : get p.places above ≡ Some (parent_of taken.0)
  pub owner : (taken.1.owner ≡ 0) ⊎ IsSome (get owners taken.1.owner)

-- the change can be undone
abbrev pub Fits : Owners → Undo → Parts → Type 0
Fits owners (undo.Added id) p = CanGo p id
Fits owners (undo.Taken id parent) p = CanComeBack owners p id parent
Fits owners (undo.Marked id marks) p = IsSome (get p.places id)
Fits owners (undo.Written id content) p = IsSome (get p.places id)

-- the parts before all changes: the last is undone first
abbrev pub all_undone : List Undo → Parts → Parts
all_undone [] p = p
all_undone (u ∷ us) p = undone u (all_undone us p)

-- all changes can be undone
abbrev pub FitAll : Owners → List Undo → Parts → Type 0
FitAll owners [] p = Unit {0}
FitAll owners (u ∷ us) p = Fits owners u (all_undone us p) × FitAll owners us p

-- how many nodes come back where a change is undone, and where all are
abbrev pub returning : Undo → ℕ
returning (undo.Added id) = 0
returning (undo.Taken id parent) = 1
returning (undo.Marked id marks) = 0
returning (undo.Written id content) = 0

abbrev pub all_returning : List Undo → ℕ
all_returning [] = 0
all_returning (u ∷ us) = returning u + all_returning us

-- what is held once a change needn't be undone any more
abbrev pub release : Undo → Held → Held
release (undo.Added id) held = held
release (undo.Taken id parent) held = remove held id
release (undo.Marked id marks) held = held
release (undo.Written id content) held = held

-- and once none needs to be
abbrev pub release_all : List Undo → Held → Held
release_all [] held = held
release_all (u ∷ us) held = release u (release_all us held)

-- what a change took away is held
abbrev pub IsHeld : Undo → Held → Type 0
IsHeld (undo.Added id) held = Unit {0}
IsHeld (undo.Taken id parent) held = IsSome (get held id)
IsHeld (undo.Marked id marks) held = Unit {0}
IsHeld (undo.Written id content) held = Unit {0}

-- what all changes took away is held, each once
abbrev pub AllHeld : List Undo → Held → Type 0
AllHeld [] held = Unit {0}
AllHeld (u ∷ us) held = IsHeld u (release_all us held) × AllHeld us held

-- what was noted since a mark, and the room for more
pub record Notes : Type 0 where
  pub undos : List Undo
  pub room : ℕ

-- the notes of a log, while a mark is set
abbrev pub notes_of : Log → Option Notes
notes_of l =
    if l.is_on then Some
    (record { undos = l.undos.items; room = vec_capacity l.undos - vec_len l.undos }) else None

-- what undoes all that was noted: nothing, where no mark is set
abbrev pub undos_of : Option Notes → List Undo
undos_of None = []
undos_of (Some n) = n.undos

-- what undoes all that a log has noted
abbrev pub undos_in : Log → List Undo
undos_in l = undos_of (notes_of l)

-- how much more can be noted
abbrev pub room_of : Option Notes → ℕ
room_of None = 0
room_of (Some n) = n.room

-- one note more, where there is room for it
abbrev pub add_note : Undo → Option Notes → Option Notes
add_note u None = None
add_note u (Some n) =
    if nat_le 1 n.room then Some (record { undos = n.undos ++ u ∷ []; room = n.room - 1 }) else None

-- what is held then: where there is no room for the note, none of the changes needs to be undone
abbrev pub held_after : Undo → Option Notes → Held → Held
held_after u None held = release u held
held_after u (Some n) held = if nat_le 1 n.room then held else release_all (n.undos ++ u ∷ []) held

-- the nodes once a change was noted
abbrev pub nodes_noted : Undo → Option Notes → NodesView → NodesView
nodes_noted u notes v = record v { held = held_after u notes v.held }

-- the nodes once none of these changes needs to be undone
abbrev pub nodes_released : List Undo → NodesView → NodesView
nodes_released us v = record v { held = release_all us v.held }

-- a mark was set, with room for that many notes, and for as many nodes
pub record StartsWith (steps : ℕ) (notes : Option Notes) (room : ℕ) : Type 0 where
  pub notes_room : ℕ
  pub on : notes ≡ Some (record { undos = []; room = notes_room })
  pub enough : steps ≤ notes_room
  pub within : notes_room ≤ room

-- nothing has changed in the nodes but what is held, and the room
abbrev pub GivesUp : List Undo → NodesView → NodesView → Type 0
GivesUp us old new = new ≡ record old { held = release_all us old.held; room = new.room }
