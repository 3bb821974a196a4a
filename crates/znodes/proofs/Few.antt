-- How many rows there are: each node has its own, and the calls that move rows add none.
use Rattle.std.proofs.Common.{◌≡◌, ◌≢◌, ◌⊎◌, inl, inr, suc, ◌≤◌, List, [], ◌∷◌, map, length, Option, Some, None, IsSome, is_some, refl, sym, ap, subst, ◌∙◌, arith}
use lib.Dec.{T}
use Rattle.std.specs.Option.{option_map}
use Rattle.std.specs.Cmp.{tied_itself}
use Rattle.std.specs.FinMap as finite
use Rattle.std.specs.FinMap.{get, entries, entries_sorted, get-entries, len-entries, find, is_sorted}
use Rattle.std.specs.FinMap.Entries.{below_all}
use Rattle.zpath.specs.Grammar.{path_cmp}
use Rattle.zslots.specs.declared.id.Id.{Id}
use Rattle.zslots.specs.SlotsView.{Items}
use Rattle.zslots.specs.Ids.{Ids, IsIn, NoTwo, id_cmp}
use Rattle.zslots.proofs.Listing.{same_domain}
use Rattle.zslots.proofs.Maps.{id_cmp_total, id_cmp_same, same_or_other}
use Rattle.zslots.proofs.Members.{NotIn-from, length-within}
use Rattle.znodes.specs.index.IndexView.{IdsByPath}
use Rattle.ztree.specs.Tree.{Path}
use Rattle.ztree.proofs.Maps.{none_some, found_behind, not_among}
use Rattle.ztree.proofs.Sorted.{paths_total, same_path, both_parts}
use Rattle.znodes.specs.declared.row.Row.{Row}
use Rattle.znodes.specs.support.OwnerLists.{OwnerLists}
use Rattle.znodes.specs.support.Rows.{IsLinked}
use Rattle.znodes.proofs.Faces.{Face, face}
use Rattle.znodes.proofs.Linked.{only-path}

-- the Ids of an index's entries
abbrev Named : Type 0
Named = List (Path × Id)

abbrev ids_in : Named → Ids
ids_in [] = []
ids_in (e ∷ es) = e.1 ∷ ids_in es

length-ids : (es : Named) → length (ids_in es) ≡ length es
length-ids [] = refl
length-ids (e ∷ es) = ap suc (length-ids es)

-- each of them is found at a path
found-in : (es : Named) → T (is_sorted path_cmp es) → (id : Id) → IsIn id (ids_in es) → (q : Path) × (find path_cmp q es ≡ Some id)
found-in [] s id has = absurd has
found-in (e ∷ es) s id (inl is) = (e.0, rw (tied_itself paths_total e.0) (ap Some (sym is)))
found-in (e ∷ es) s id (inr has) =
    let parts = both_parts (below_all path_cmp e.0 es) (is_sorted path_cmp es) s in
    let rest = found-in es parts.1 id has in
    (rest.0, found_behind paths_total same_path e es parts.0 rest.0 id rest.1)

module _ (m : Items Row) (ids : IdsByPath) (owners : OwnerLists) (kept : IsLinked m ids owners) where
  -- no Id is at two paths
  ids-apart : (es : Named) → T (is_sorted path_cmp es) → ((q : Path) (id : Id) → find path_cmp q es ≡ Some id → get ids q ≡ Some id) → NoTwo (ids_in es)
  ids-apart [] s all = tt
  ids-apart (e ∷ es) s all =
      let parts = both_parts (below_all path_cmp e.0 es) (is_sorted path_cmp es) s in
      let later = λ (q : Path) (id : Id) (found : find path_cmp q es ≡ Some id). all q id (found_behind paths_total same_path e es parts.0 q id found) in
      let first : get ids e.0 ≡ Some e.1 = all e.0 e.1 (rw (tied_itself paths_total e.0) refl) in (
        NotIn-from e.1 (ids_in es) (λ has.
            let other = found-in es parts.1 e.1 has in
            let same : other.0 ≡ e.0 = only-path m ids owners kept other.0 e.0 e.1 (later other.0 e.1 other.1) first in
            none_some e.1 (sym (not_among paths_total same_path e.0 es parts.0) ∙ ap (λ q. find path_cmp q es) (sym same) ∙ other.1)),
        ids-apart es parts.1 later,
      )

  -- there are no more nodes than rows
  pub ids-few : finite.len ids ≤ finite.len m
  ids-few =
      let es = entries ids in
      let all = λ (q : Path) (id : Id) (found : find path_cmp q es ≡ Some id). get-entries ids q ∙ found in
      let within =
      length-within m (ids_in es) (ids-apart es (entries_sorted ids) all) (λ id has.
      let at = found-in es (entries_sorted ids) id has in
      subst IsSome (sym (kept.named at.0 id (all at.0 id at.1)).1) refl) in
      let same = length-ids es in
      let count = len-entries ids in
      omega (arith, within, same, count)

length-map : {A B : Type 0} (f : A → B) (xs : List A) → length (map f xs) ≡ length xs
length-map f [] = refl
length-map f (x ∷ xs) = ap suc (length-map f xs)

-- rows under the same Ids are as many
as-many : (m n : Items Row) → ((q : Id) → is_some (get n q) ≡ is_some (get m q)) → finite.len n ≡ finite.len m
as-many m n alike =
    len-entries n ∙ sym (length-map _ (entries n)) ∙ ap length (same_domain id_cmp id_cmp_total id_cmp_same n m alike)
    ∙ length-map _ (entries m) ∙ sym (len-entries m)

there : {A B : Type 0} (f : A → B) (o : Option A) → is_some (option_map f o) ≡ is_some o
there f None = refl
there f (Some x) = refl

-- as are those that have some part of each row in common
pub parts-many : {X : Type 0} (part : Row → X) (m n : Items Row) → ((q : Id) → option_map part (get n q) ≡ option_map part (get m q)) → finite.len n ≡ finite.len m
parts-many part m n alike = as-many m n (λ q. sym (there part (get n q)) ∙ ap is_some (alike q) ∙ there part (get m q))

-- also where one row has another face
pub others-many : (m n : Items Row) (id : Id) (r : Row) (f : Face) → get m id ≡ Some r → option_map face (get n id) ≡ Some f → ((q : Id) → q ≢ id → option_map face (get n q) ≡ option_map face (get m q)) → finite.len n ≡ finite.len m
others-many m n id r f was here elsewhere = as-many m n (λ q. by q (same_or_other q id))
  where
    by : (q : Id) → (q ≡ id) ⊎ (q ≢ id) → is_some (get n q) ≡ is_some (get m q)
    by q (inl is) =
        ap (λ i. is_some (get n i)) is ∙ sym (there face (get n id)) ∙ ap is_some here
        ∙ sym (ap (λ i. is_some (get m i)) is ∙ ap is_some was)
    by q (inr other) = sym (there face (get n q)) ∙ ap is_some (elsewhere q other) ∙ there face (get m q)
