-- The paths of an owner's list, once sorted, are those of the nodes that the owner owns; and so for
-- the nodes that a tick removes.
use Rattle.std.proofs.Common.{◌≡◌, ℕ, ◌<◌, true, false, List, [], Option, Some, None, IsSome, IfSome, refl, sym, ap, subst, ◌∙◌, arith}
use Rattle.std.specs.Prelude.{◌==◌, ◌↔◌, IsPermutation}
use Rattle.std.specs.Option.{option_map_or, option_and_then}
use Rattle.std.specs.Cmp.{unsigned_Decides}
use Rattle.std.specs.FinMap.{get}
use Rattle.zpath.specs.Grammar.{path_cmp}
use Rattle.zslots.specs.declared.id.Id.{Id}
use Rattle.zslots.specs.declared.list.List.{List as IdList}
use Rattle.zslots.specs.Ids.{Ids, IsIn}
use Rattle.zslots.specs.Lists.{IsList}
use Rattle.zslots.specs.SlotsView.{Items}
use Rattle.zslots.specs.Families.{key_at}
use Rattle.ztree.specs.declared.node.Node.{Node}
use Rattle.ztree.specs.Tree.{Path, ephemerals}
use Rattle.ztree.specs.Stale.{is_stale, stale_nodes}
use Rattle.ztree.specs.Laws.{has_path, is_owned_at}
use Rattle.ztree.proofs.Maps.{same_some, none_some}
use Rattle.ztree.proofs.Sorted.{paths_total, same_path}
use Rattle.znodes.specs.declared.row.Row.{Row}
use Rattle.znodes.specs.declared.nodes.Nodes.TheInside.{Inside}
use Rattle.znodes.specs.NodesView.{NodesView, AreStale, path_of}
use Rattle.znodes.specs.support.Rows.{IsLinked, owner_key, fellow_links, owned_by, nodes_of}
use Rattle.znodes.specs.index.IndexView.{IdsByPath}
use Rattle.znodes.specs.support.OwnerLists.{OwnerLists, list_of}
use Rattle.znodes.specs.support.Fields.{view_of}
use Rattle.znodes.specs.support.Reading.{AreSorted, AreOwnedPaths}
use Rattle.znodes.proofs.Found.{found_row, live_node}
use Rattle.znodes.proofs.InOrder.{sorted_where}
use Rattle.znodes.proofs.Keys.{owner_key-live}
use Rattle.znodes.proofs.Linked.{owner-row, owned-are}
use Rattle.znodes.proofs.OwnerMaps.{is_somebody, listed}
use Rattle.znodes.proofs.Views.{get-known}
use Rattle.znodes.proofs.Owned.{owned-list}
use Rattle.znodes.proofs.Shown.{live_row, path_of-live}
use Rattle.znodes.proofs.Siblings.{both_ways}
use Rattle.znodes.proofs.TheirPaths.{TheirPaths, their-paths, paths-read}

module _ (s : Inside) (linked : IsLinked s.slots.items s.index.ids s.owners) (v : NodesView) (shown : view_of s ≡ v) where
  -- the paths of the nodes that a tick removes, once sorted
  pub stale-sorted : (tick : ℕ) (ids : Ids) → AreStale v.nodes v.places tick ids → (paths : List Path) → AreSorted s.slots.items ids paths → paths ≡ stale_nodes v.nodes tick
  stale-sorted tick ids stale paths sorted =
      sorted_where path_cmp paths_total same_path (is_stale v.nodes tick) v.nodes stale.paths paths [] stale.once
      (subst (λ xs. IsPermutation xs paths) (paths-read s linked v shown ids stale.paths stale.named) sorted.moved) sorted.up stale.each

  module _ (owner : ℕ) (some : 0 < owner) where
    -- a row of the owner's list has a path
    owned-path : (id : Id) → key_at owner_key s.slots.items id ≡ Some owner → (path : Path) × (path_of v id ≡ Some path)
    owned-path id mine =
        let row = owner-row s.slots.items id owner mine in
        (row.0.path, path_of-live s linked v shown id (Some row.0) (live_row s.slots.items id row.0 row.1 row.2))

    module _ (ids : Ids) (members : (id : Id) → IsIn id ids ↔ (key_at owner_key s.slots.items id ≡ Some owner)) (their : TheirPaths s linked v shown ids) where
      to : (path : Path) → has_path their.paths path ≡ true → is_owned_at v.nodes owner path ≡ true
      to path e =
          let found = their.of_ids path e in
          let row = owner-row s.slots.items found.0 owner ((members found.0).0 found.1) in
          let at = path_of-live s linked v shown found.0 (Some row.0) (live_row s.slots.items found.0 row.0 row.1 row.2) in
          let same : path ≡ row.0.path = same_some path row.0.path (sym found.2 ∙ at) in
          let node = ap (λ (w : NodesView). get w.nodes path) (sym shown) ∙ ap (get (nodes_of s.slots.items s.index.ids)) same ∙ live_node s.slots.items s.index.ids s.owners linked found.0 row.0 row.1 row.2 in
          ap (λ (o : Option Node). option_map_or (λ (n : Node). n.owner == owner) o false) node ∙ (unsigned_Decides row.0.node.owner owner).1 row.3

      from : (path : Path) → is_owned_at v.nodes owner path ≡ true → has_path their.paths path ≡ true
      from path e = by (get v.nodes path) refl e
        where
          by : (o : Option Node) → get v.nodes path ≡ o → option_map_or (λ (n : Node). n.owner == owner) o false ≡ true → has_path their.paths path ≡ true
          by None none bad = cc
          by (Some n) there owned =
              let row = found_row s.slots.items s.index.ids s.owners linked path n (ap (λ (w : NodesView). get w.nodes path) shown ∙ there) in
              let mine = ap (option_and_then owner_key) row.2 ∙ owner_key-live row.1 owner some row.4 (ap (λ (x : Node). x.owner) row.5 ∙ (unsigned_Decides n.owner owner).0 owned) in
              their.all_ids row.0 ((members row.0).1 mine) path
              (path_of-live s linked v shown row.0 (Some row.1) (live_row s.slots.items row.0 row.1 row.2 row.4) ∙ ap Some row.3)

    -- the paths of the owner's list, once sorted
    family-sorted : (list : IdList 1) → owned_by s.owners owner ≡ list → (paths : List Path) → ((ids : Ids) → IsList fellow_links s.slots.items list ids → AreSorted s.slots.items ids paths) → paths ≡ ephemerals v.nodes owner
    family-sorted list is paths are =
        let family = linked.owned owner in
        let ids = family.0 in
        let their = their-paths s linked v shown ids family.1.no_two (λ id has. owned-path id ((family.2 id).0 has)) in
        let sorted = are ids (subst (λ l. IsList fellow_links s.slots.items l ids) is family.1) in
        sorted_where path_cmp paths_total same_path (λ _ (n : Node). n.owner == owner) v.nodes their.paths paths [] their.once
        (subst (λ xs. IsPermutation xs paths) (paths-read s linked v shown ids their.paths their.named) sorted.moved) sorted.up
        (λ path. both_ways _ _ (to ids family.2 their path) (from ids family.2 their path))

    pub owned-sorted : (o : Option (IdList 1)) → list_of s.owners owner ≡ o → IsSome o → (paths : List Path) → AreOwnedPaths s.slots.items o paths → paths ≡ ephemerals v.nodes owner
    owned-sorted None is has paths are = cc
    owned-sorted (Some list) is has paths are =
        family-sorted list (owned-list s.slots.items s.index.ids s.owners linked owner some (Some list) is) paths are

-- an owner's list is one of Ids
pub owned-family : (m : Items Row) (index : IdsByPath) (owners : OwnerLists) → IsLinked m index owners → (owner : ℕ) (o : Option (IdList 1)) → list_of owners owner ≡ o → IfSome o (λ list. (ids : Ids) × IsList fellow_links m list ids)
owned-family m index owners linked owner None is = tt
owned-family m index owners linked owner (Some list) is =
    let family = linked.owned owner in
    (family.0, subst (λ l. IsList fellow_links m l family.0) (owned-are m index owners linked owner list (listed owners owner list is)) family.1)

listed_owner : (o : Option (IdList 1)) → IsSome (option_and_then (λ (_ : IdList 1). Some (tt {0})) o) → IsSome o
listed_owner (Some list) some = refl
listed_owner None some = some

module _ (s : Inside) (v : NodesView) (shown : view_of s ≡ v) (owner : ℕ) where
  known : get v.owners owner ≡ option_and_then (λ (_ : IdList 1). Some (tt {0})) (get s.owners owner)
  known = ap (λ (w : NodesView). get w.owners owner) (sym shown) ∙ get-known s.owners owner

  -- one that may own nodes has a list
  pub owned-some : 0 < owner → IsSome (get v.owners owner) → IsSome (list_of s.owners owner)
  owned-some some has =
      let somebody_is = is_somebody owner (λ nobody. absurd (omega (arith, some, nobody))) in
      subst IsSome (sym (ap (option_and_then (get s.owners)) somebody_is)) (listed_owner (get s.owners owner) (subst IsSome known has))

  -- and another hasn't
  pub owned-gone : get v.owners owner ≡ None → list_of s.owners owner ≡ None
  owned-gone none = by (list_of s.owners owner) refl
    where
      by : (o : Option (IdList 1)) → list_of s.owners owner ≡ o → o ≡ None
      by None is = refl
      by (Some list) is = absurd (none_some tt (sym none ∙ known ∙ ap (option_and_then (λ (_ : IdList 1). Some (tt {0}))) (listed s.owners owner list is)))
