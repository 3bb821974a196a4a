-- An owner comes, and one that owns nothing goes.
use Rattle.std.proofs.Common.{◌≡◌, ◌≢◌, ◌⊎◌, inl, inr, ℕ, [], ◌∷◌, cond, Option, Some, None, refl, sym, ap, ◌∙◌, eqb}
use Rattle.std.specs.Option.{option_map_or, option_and_then}
use Rattle.std.specs.Cmp.{nat_cmp_total}
use Rattle.std.specs.FinMap.{get, insert, remove, nat_cmp-IsAntisymmetric}
use Rattle.std.proofs.lemmas.Bool.{eq-eqb}
use Rattle.zslots.specs.declared.id.Id.{Id}
use Rattle.zslots.specs.declared.list.List.{List as IdList}
use Rattle.zslots.specs.SlotsView.{Items}
use Rattle.zslots.specs.Ids.{Ids, IsIn}
use Rattle.zslots.specs.Lists.{IsList, empty_list}
use Rattle.zslots.specs.Families.{key_at}
use Rattle.zslots.proofs.Families.{families-kept}
use Rattle.znodes.specs.index.IndexView.{IdsByPath}
use Rattle.ztree.specs.declared.node.Node.{Node}
use Rattle.ztree.specs.Tree.{Path, ephemerals}
use Rattle.ztree.proofs.Maps as maps
use Rattle.ztree.proofs.Sorted.{paths_total, same_path}
use Rattle.znodes.specs.declared.row.Row.{Row}
use Rattle.znodes.specs.support.OwnerLists.{OwnerLists}
use Rattle.znodes.specs.support.Rows.{IsLinked, owner_key, nodes_of, known_of, owned_by, fellow_links}
use Rattle.znodes.proofs.Linked.{owner-row, node-shown, list-of-none}
use Rattle.znodes.proofs.Views.{get-known, remove-is, insert-is}

-- the lists stay where each owner's list stays
linked-with : (m : Items Row) (ids : IdsByPath) (owners later : OwnerLists) → ((k : ℕ) → owned_by later k ≡ owned_by owners k) → IsLinked m ids owners → IsLinked m ids later
linked-with m ids owners later same kept = record {
  named = kept.named;
  found = kept.found;
  keyed = kept.keyed;
  children = kept.children;
  owned = families-kept {L = 1} fellow_links m m (key_at owner_key m) (key_at owner_key m) (owned_by owners) (owned_by later) (λ q k e. refl) (λ q. refl) same kept.owned;
}

module _ (m : Items Row) (ids : IdsByPath) (owners : OwnerLists) (owner : ℕ) (kept : IsLinked m ids owners) where
  module _ (free : get (known_of owners) owner ≡ None) where
    absent : get owners owner ≡ None
    absent = by (get owners owner) (sym (get-known owners owner) ∙ free)
      where
        by : (o : Option (IdList 1)) → option_and_then (λ (_ : IdList 1). Some (tt {0})) o ≡ None → o ≡ None
        by None e = refl
        by (Some list) e = absurd (maps.none_some (tt {0}) (sym e))

    pub linked-opened : IsLinked m ids (insert owners owner empty_list)
    linked-opened = linked-with m ids owners (insert owners owner empty_list) (λ k. by k (maps.same_or_other nat_cmp_total nat_cmp-IsAntisymmetric k owner)) kept
      where
        by : (k : ℕ) → (k ≡ owner) ⊎ (k ≢ owner) → owned_by (insert owners owner empty_list) k ≡ owned_by owners k
        by k (inl is) =
            ap (λ o. option_map_or (λ (l : IdList 1). l) o empty_list) (ap (get (insert owners owner empty_list)) is ∙ maps.get-insert-here nat_cmp_total nat_cmp-IsAntisymmetric owners owner empty_list)
            ∙ sym (ap (λ o. option_map_or (λ (l : IdList 1). l) o empty_list) (ap (get owners) is ∙ absent))
        by k (inr other) = ap (λ o. option_map_or (λ (l : IdList 1). l) o empty_list) (maps.get-insert-elsewhere nat_cmp_total nat_cmp-IsAntisymmetric owners owner empty_list k other)

  abbrev known : IdList 1 → Option (Unit {0})
  known list = Some tt

  pub known-opened : known_of (insert owners owner empty_list) ≡ insert (known_of owners) owner tt
  known-opened =
      insert-is nat_cmp_total nat_cmp-IsAntisymmetric (known_of owners) (known_of (insert owners owner empty_list)) owner
      (λ q other. get-known (insert owners owner empty_list) q ∙ ap (option_and_then known) (maps.get-insert-elsewhere nat_cmp_total nat_cmp-IsAntisymmetric owners owner empty_list q other) ∙ sym (get-known owners q))
      tt (get-known (insert owners owner empty_list) owner ∙ ap (option_and_then known) (maps.get-insert-here nat_cmp_total nat_cmp-IsAntisymmetric owners owner empty_list))

  pub known-closed : known_of (remove owners owner) ≡ remove (known_of owners) owner
  known-closed =
      remove-is nat_cmp_total nat_cmp-IsAntisymmetric (known_of owners) (known_of (remove owners owner)) owner
      (λ q other. get-known (remove owners owner) q ∙ ap (option_and_then known) (maps.get-remove-elsewhere nat_cmp_total nat_cmp-IsAntisymmetric owners owner q other) ∙ sym (get-known owners q))
      (get-known (remove owners owner) owner ∙ ap (option_and_then known) (maps.get-remove-here nat_cmp_total nat_cmp-IsAntisymmetric owners owner))

  module _ (none : ephemerals (nodes_of m ids) owner ≡ []) where
    -- its list is empty
    owns_none : owned_by owners owner ≡ empty_list
    owns_none = by (kept.owned owner).0 (kept.owned owner).1 (λ q has. ((kept.owned owner).2 q).0 has)
      where
        by : (members : Ids) → IsList fellow_links m (owned_by owners owner) members → ((q : Id) → IsIn q members → key_at owner_key m q ≡ Some owner) → owned_by owners owner ≡ empty_list
        by [] is keys = list-of-none fellow_links m (owned_by owners owner) is
        by (id ∷ more) is keys =
            let row = owner-row m id owner (keys id (inl refl)) in
            let reported = maps.none_of_entries paths_total same_path (λ (e : Path × Node). cond (eqb e.1.owner owner) (Some e.0) None) (nodes_of m ids) row.0.path row.0.node none (node-shown m ids owners kept id row.0 row.1 row.2) in
            absurd (maps.none_some row.0.path (sym reported ∙ ap (λ b. cond b (Some row.0.path) None) (eq-eqb row.0.node.owner owner row.3)))

    pub linked-closed : IsLinked m ids (remove owners owner)
    linked-closed = linked-with m ids owners (remove owners owner) (λ k. by k (maps.same_or_other nat_cmp_total nat_cmp-IsAntisymmetric k owner)) kept
      where
        by : (k : ℕ) → (k ≡ owner) ⊎ (k ≢ owner) → owned_by (remove owners owner) k ≡ owned_by owners k
        by k (inl is) =
            ap (λ o. option_map_or (λ (l : IdList 1). l) o empty_list) (ap (get (remove owners owner)) is ∙ maps.get-remove-here nat_cmp_total nat_cmp-IsAntisymmetric owners owner)
            ∙ sym (ap (owned_by owners) is ∙ owns_none)
        by k (inr other) = ap (λ o. option_map_or (λ (l : IdList 1). l) o empty_list) (maps.get-remove-elsewhere nat_cmp_total nat_cmp-IsAntisymmetric owners owner k other)
