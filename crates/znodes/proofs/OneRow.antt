-- One row that is no live one.
use Rattle.std.proofs.Common.{◌≡◌, ◌≢◌, Some, None, IsSome, sym, ap, ◌∙◌}
use Rattle.std.specs.FinMap.{get, insert, remove}
use Rattle.zslots.specs.declared.id.Id.{Id}
use Rattle.zslots.specs.declared.list.List.{List as IdList}
use Rattle.zslots.specs.SlotsView.{Items}
use Rattle.zslots.specs.Lists.{empty_list}
use Rattle.zslots.proofs.Maps.{get-remove-here, get-insert-here, get-insert-elsewhere}
use Rattle.znodes.specs.index.IndexView.{IdsByPath}
use Rattle.ztree.proofs.Maps.{same_some, none_some}
use Rattle.znodes.specs.declared.row.Row.{Row}
use Rattle.znodes.specs.declared.nodes.Nodes.TheInside.{Inside}
use Rattle.znodes.specs.NodesView.{NodesView}
use Rattle.znodes.specs.support.Rows.{Key, KeepsKey, IsLinked, HasTimed, NamesParents, nodes_of, places_of, held_of}
use Rattle.znodes.specs.support.OwnerLists.{OwnerLists}
use Rattle.znodes.specs.support.Fields.{view_of}
use Rattle.znodes.proofs.Linked.{shown-taken}
use Rattle.znodes.proofs.Mortal.{mortal-aside}
use Rattle.znodes.proofs.Parents.{parents-aside}
use Rattle.znodes.proofs.Aside.{linked-aside, nodes-aside, places-aside, held-come}

pub held-out : (s : Inside) (v : NodesView) → view_of s ≡ v → (id : Id) → IsSome (get v.held id) → (x : Row) → get s.slots.items id ≡ Some x → x.key ≢ None
held-out s v view id held x e none =
    let shown = shown-taken s v view id x held e in
    none_some shown.0 (sym none ∙ shown.1)

-- nothing is where a row was removed
pub gone-none : {A : Type 0} (m : Items Row) (id : Id) (x : Row) → get (remove m id) id ≡ Some x → A
gone-none m id x e = absurd (none_some x (sym (get-remove-here m id) ∙ e))

-- a row that was taken away comes in, where nothing is under its Id
module _ (m : Items Row) (ids : IdsByPath) (owners : OwnerLists) (id : Id) (x : Row) (key : Key) (kept : IsLinked m ids owners)
    (absent : get m id ≡ None) (has : x.key ≡ Some key) (names : key ≡ x.path) (alone : x.children ≡ empty_list) where
  elsewhere : (q : Id) → q ≢ id → get (insert m id x) q ≡ get m q
  elsewhere q other = get-insert-elsewhere m id x q other

  out : (y : Row) → get m id ≡ Some y → y.key ≢ None
  out y e none = none_some y (sym absent ∙ e)

  itself : (y : Row) → get (insert m id x) id ≡ Some y → x ≡ y
  itself y e = same_some x y (sym (get-insert-here m id x) ∙ e)

  still : (y : Row) → get (insert m id x) id ≡ Some y → y.key ≢ None
  still y e none = none_some key (sym none ∙ ap (λ (r : Row). r.key) (sym (itself y e)) ∙ has)

  keeps : (y : Row) → get (insert m id x) id ≡ Some y → KeepsKey y
  keeps y e = λ other is.
      let same = itself y e in
      (same_some other key (sym is ∙ ap (λ (r : Row). r.key) (sym same) ∙ has) ∙ names ∙ ap (λ (r : Row). r.path) same, ap (λ (r : Row). r.children) (sym same) ∙ alone)

  pub linked-joined : IsLinked (insert m id x) ids owners
  linked-joined = linked-aside m (insert m id x) ids owners id kept elsewhere out still keeps

  pub mortal-joined : (timed : IdList 2) → HasTimed m timed → HasTimed (insert m id x) timed
  mortal-joined timed = mortal-aside m (insert m id x) ids owners timed id kept elsewhere out still

  pub parents-joined : NamesParents m ids → NamesParents (insert m id x) ids
  parents-joined = parents-aside m (insert m id x) ids id elsewhere still

  pub nodes-joined : nodes_of (insert m id x) ids ≡ nodes_of m ids
  nodes-joined = nodes-aside m (insert m id x) ids owners id kept elsewhere out still

  pub places-joined : places_of (insert m id x) ≡ places_of m
  places-joined = places-aside m (insert m id x) ids owners id kept elsewhere out still

  pub held-joined : held_of (insert m id x) ≡ insert (held_of m) id (x.path, x.node)
  held-joined = held-come m (insert m id x) ids owners id kept elsewhere out still x key (get-insert-here m id x) has
