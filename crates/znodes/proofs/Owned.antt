-- The nodes of an owner are the rows of its list.
use Rattle.std.proofs.Common.{◌≡◌, ℕ, ◌<◌, Bool, true, false, cond, [], Option, Some, None, refl, sym, ap, ◌∙◌, arith}
use Rattle.std.specs.Prelude.{◌==◌}
use Rattle.std.specs.Option.{option_map_or, option_and_then}
use Rattle.std.specs.Cmp.{unsigned_Decides}
use Rattle.std.specs.FinMap.{get}
use Rattle.zslots.specs.declared.id.Id.{Id}
use Rattle.zslots.specs.SlotsView.{Items}
use Rattle.zslots.specs.declared.list.List.{List as IdList}
use Rattle.zslots.specs.Lists.{empty_list}
use Rattle.zslots.specs.Families.{key_at}
use Rattle.zslots.proofs.Families.{family-first, family-begins}
use Rattle.ztree.specs.declared.node.Node.{Node}
use Rattle.ztree.specs.Tree.{Path, ephemerals}
use Rattle.ztree.proofs.Sorted.{paths_total, same_path}
use Rattle.ztree.proofs.Maps.{none_some, none_of_map}
use Rattle.ztree.proofs.Ephemerals.{path_if_owned}
use Rattle.znodes.specs.declared.row.Row.{Row}
use Rattle.znodes.specs.support.Rows.{IsLinked, owner_key, fellow_links, owned_by, nodes_of}
use Rattle.znodes.specs.support.OwnerLists.{OwnerLists, list_of}
use Rattle.znodes.specs.index.IndexView.{IdsByPath}
use Rattle.znodes.proofs.Keys.{owner_key-parts, owner_key-live}
use Rattle.znodes.proofs.OwnerMaps.{is_somebody}
use Rattle.znodes.proofs.Found.{found_row}

module _ (m : Items Row) (index : IdsByPath) (owners : OwnerLists) (linked : IsLinked m index owners) (owner : ℕ) where
  -- the list that is read of an owner is the owner's
  pub owned-list : 0 < owner → (o : Option (IdList 1)) → list_of owners owner ≡ o → owned_by owners owner ≡ option_map_or (λ (list : IdList 1). list) o empty_list
  owned-list some o is =
      ap (λ l. option_map_or (λ (list : IdList 1). list) l empty_list) (sym (ap (option_and_then (get owners)) (is_somebody owner (λ nobody. absurd (omega arith)))) ∙ is)

  -- the first of an owner's list is live, and the owner's
  pub owned-first : (id : Id) → (owned_by owners owner).first ≡ Some id → (r : Row) × (get m id ≡ Some r) × (r.key ≡ None) × (r.node.owner ≡ owner)
  owned-first id first =
      by (get m id) refl (family-begins fellow_links m (key_at owner_key m) (owned_by owners owner) owner (linked.owned owner) id first)
    where
      by : (o : Option Row) → get m id ≡ o → option_and_then owner_key o ≡ Some owner → (r : Row) × (get m id ≡ Some r) × (r.key ≡ None) × (r.node.owner ≡ owner)
      by None is e = absurd (none_some owner e)
      by (Some r) is e = let parts = owner_key-parts r owner e in (r, is, parts.0, parts.1)

  -- where the list is empty, the owner has no node
  pub owned-none : 0 < owner → (owned_by owners owner).first ≡ None → ephemerals (nodes_of m index) owner ≡ []
  owned-none some none = none_of_map paths_total same_path (path_if_owned owner) (nodes_of m index) (λ q n found. by q n found (n.owner == owner) refl)
    where
      by : (q : Path) (n : Node) → get (nodes_of m index) q ≡ Some n → (t : Bool) → (n.owner == owner) ≡ t → cond t (Some q) None ≡ None
      by q n found false is = refl
      by q n found true is =
          let row = found_row m index owners linked q n found in
          let owned = ap (λ (x : Node). x.owner) row.5 ∙ (unsigned_Decides n.owner owner).0 is in
          absurd (family-first fellow_links m (key_at owner_key m) (owned_by owners owner) owner (linked.owned owner) none row.0 (ap (option_and_then owner_key) row.2 ∙ owner_key-live row.1 owner some row.4 owned))
