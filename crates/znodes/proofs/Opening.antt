-- The root alone: its row is in order, and what it shows.
use Rattle.std.proofs.Common.{◌≡◌, ◌≢◌, ◌⊎◌, ◌≤◌, inl, inr, [], Option, Some, None, refl, sym, ap, subst, ◌∙◌, arith}
use Rattle.std.specs.Global.{Global}
use Rattle.std.specs.Option.{option_map, option_map_or, option_and_then}
use Rattle.std.specs.Ordering.{nat_cmp}
use Rattle.std.specs.Cmp.{nat_cmp_total}
use Rattle.std.specs.FinMap as finite
use Rattle.std.specs.FinMap.{get, insert, get-empty, len-empty, same_map, nat_cmp-IsAntisymmetric}
use Rattle.zpath.specs.Grammar.{path_cmp}
use Rattle.zslots.specs.declared.id.Id.{Id}
use Rattle.zslots.specs.declared.limits.TheConstants.{MAX_SLOTS}
use Rattle.zslots.specs.declared.list.List.{List as IdList}
use Rattle.zslots.specs.SlotsView.{Items}
use Rattle.zslots.specs.Ids.{id_cmp}
use Rattle.zslots.specs.Lists.{empty_list}
use Rattle.zslots.specs.Families.{key_at}
use Rattle.zslots.proofs.Families.{families-none}
use Rattle.zslots.proofs.Maps.{id_cmp_total, id_cmp_same}
use Rattle.znodes.specs.index.IndexView.{IdsByPath}
use Rattle.ztree.specs.declared.node.Node.{Node}
use Rattle.ztree.specs.Tree.{Path}
use Rattle.ztree.specs.Stale.{may_end}
use Rattle.ztree.specs.declared.term.Term.TheVariants.{Unlimited}
use Rattle.ztree.proofs.Maps as maps
use Rattle.ztree.proofs.Sorted.{paths_total, same_path}
use Rattle.znodes.specs.declared.row.Row.{Row}
use Rattle.znodes.specs.support.OwnerLists.{OwnerLists, somebody}
use Rattle.znodes.specs.support.Rows.{IsLinked, HasTimed, NamesParents, above, lone_row, timed_by, timed_key, timed_links, live_path, taken_row, parent_key, owner_key, node_at, nodes_of, places_of, held_of, known_of, children_at, children_of, owned_by, sibling_links, fellow_links}
use Rattle.znodes.specs.support.Counting.{AreCounts, IsSmall, no_counts, counts_with}
use Rattle.znodes.proofs.Counted.{counts-none, counts-more}
use Rattle.znodes.proofs.Views.{get-nodes, get-places, get-held, get-known, insert-is}

-- no owner's list, and no owner
abbrev pub no_owners : OwnerLists
no_owners = finite.empty

pub known-none : known_of no_owners ≡ finite.empty
known-none =
    same_map nat_cmp_total nat_cmp-IsAntisymmetric _ _
    (λ q. get-known no_owners q ∙ ap (option_and_then (λ (_ : IdList 1). Some (tt {0}))) (get-empty nat_cmp q) ∙ sym (get-empty nat_cmp q))

module _ (alloc : Global) (root : Node) (id : Id) where
  abbrev pub row : Row
  row = lone_row alloc [] root None

  abbrev no_rows : Items Row
  no_rows = finite.empty

  abbrev no_ids : IdsByPath
  no_ids = finite.empty

  abbrev pub rows : Items Row
  rows = insert no_rows id row

  abbrev pub ids : IdsByPath
  ids = insert no_ids [] id

  here : get rows id ≡ Some row
  here = maps.get-insert-here id_cmp_total id_cmp_same no_rows id row

  elsewhere : (q : Id) → q ≢ id → get rows q ≡ None
  elsewhere q other = maps.get-insert-elsewhere id_cmp_total id_cmp_same no_rows id row q other ∙ get-empty id_cmp q

  at_root : get ids [] ≡ Some id
  at_root = maps.get-insert-here paths_total same_path no_ids [] id

  below : (q : Path) → q ≢ [] → get ids q ≡ None
  below q other = maps.get-insert-elsewhere paths_total same_path no_ids [] id q other ∙ get-empty path_cmp q

  -- what is found is the root's row, and its Id
  only_row : (q : Id) (x : Row) → get rows q ≡ Some x → (q ≡ id) × (row ≡ x)
  only_row q x e = by (maps.get-inserted id_cmp_total id_cmp_same no_rows id row q x e)
    where
      by : ((q ≡ id) × (row ≡ x)) ⊎ ((q ≢ id) × (get no_rows q ≡ Some x)) → (q ≡ id) × (row ≡ x)
      by (inl own) = own
      by (inr other) = absurd (maps.none_some x (sym (get-empty id_cmp q) ∙ other.1))

  only_id : (q : Path) (i : Id) → get ids q ≡ Some i → (q ≡ []) × (id ≡ i)
  only_id q i e = by (maps.get-inserted paths_total same_path no_ids [] id q i e)
    where
      by : ((q ≡ []) × (id ≡ i)) ⊎ ((q ≢ []) × (get no_ids q ≡ Some i)) → (q ≡ []) × (id ≡ i)
      by (inl own) = own
      by (inr other) = absurd (maps.none_some i (sym (get-empty path_cmp q) ∙ other.1))

  -- what the root's row doesn't report, no row reports
  unreported : {X : Type 0} (f : Row → Option X) → f row ≡ None → (q : Id) → option_and_then f (get rows q) ≡ None
  unreported f is q = by (maps.same_or_other id_cmp_total id_cmp_same q id)
    where
      by : (q ≡ id) ⊎ (q ≢ id) → option_and_then f (get rows q) ≡ None
      by (inl same) = ap (λ k. option_and_then f (get rows k)) same ∙ ap (option_and_then f) here ∙ is
      by (inr other) = ap (option_and_then f) (elsewhere q other)

  childless : (k : Path) → children_of rows ids k ≡ empty_list
  childless k = by (maps.same_or_other paths_total same_path k [])
    where
      by : (k ≡ []) ⊎ (k ≢ []) → children_of rows ids k ≡ empty_list
      by (inl is) =
          ap (children_of rows ids) is ∙ ap (λ o. option_map_or (children_at rows) o empty_list) at_root
          ∙ ap (λ o. option_map_or (λ (r : Row). r.children) o empty_list) here
      by (inr other) = ap (λ o. option_map_or (children_at rows) o empty_list) (below k other)

  pub linked-alone : root.owner ≡ 0 → IsLinked rows ids no_owners
  linked-alone nobody = record {
    named = λ path i e. let own = only_id path i e in (row, ap (get rows) (sym own.1) ∙ here, sym own.0, refl);
    found = λ i x e live. let own = only_row i x e in ap (λ (y : Row). get ids y.path) (sym own.1) ∙ at_root ∙ ap Some (sym own.0);
    keyed = λ i x e key has. absurd (maps.none_some key (ap (λ (y : Row). y.key) (only_row i x e).1 ∙ has));
    children = families-none {L = 0} sibling_links rows (key_at parent_key rows) (children_of rows ids) (unreported parent_key refl) childless;
    owned = families-none {L = 1} fellow_links rows (key_at owner_key rows) (owned_by no_owners) (unreported owner_key (ap somebody nobody)) (λ k. ap (λ o. option_map_or (λ (l : IdList 1). l) o empty_list) (get-empty nat_cmp k));
  }

  pub mortal-alone : root.term ≡ Unlimited → HasTimed rows empty_list
  mortal-alone stays = families-none {L = 2} timed_links rows (key_at timed_key rows) (λ _. empty_list) (unreported timed_key (ap (λ term. timed_by (may_end term)) stays)) (λ k. refl)

  pub parents-alone : NamesParents rows ids
  parents-alone i x e live =
      let own = only_row i x e in
      ap (λ (y : Row). y.parent) (sym own.1) ∙ ap (λ (y : Row). option_and_then (get ids) (above y.path)) own.1

  -- what it shows
  pub nodes-alone : nodes_of rows ids ≡ insert finite.empty [] root
  nodes-alone =
      insert-is paths_total same_path finite.empty (nodes_of rows ids) []
      (λ q other. get-nodes rows ids q ∙ ap (option_and_then (node_at rows)) (below q other) ∙ sym (get-empty path_cmp q))
      root (get-nodes rows ids [] ∙ ap (option_and_then (node_at rows)) at_root ∙ ap (option_map (λ (r : Row). r.node)) here)

  -- and what is counted of it
  pub counted-alone : IsSmall root → AreCounts (nodes_of rows ids) (counts_with no_counts root)
  counted-alone little =
      subst (λ nodes. AreCounts nodes (counts_with no_counts root)) (sym nodes-alone)
      (counts-more finite.empty no_counts counts-none [] root (get-empty path_cmp []) little)

  pub few-alone : finite.len rows ≤ MAX_SLOTS
  few-alone =
      maps.len-insert-most id_cmp_total id_cmp_same no_rows id row MAX_SLOTS (let none = len-empty id_cmp Row in omega (arith, none))

  pub places-alone : places_of rows ≡ insert finite.empty id []
  places-alone =
      insert-is id_cmp_total id_cmp_same finite.empty (places_of rows) id
      (λ q other. get-places rows q ∙ ap (option_and_then live_path) (elsewhere q other) ∙ sym (get-empty id_cmp q))
      [] (get-places rows id ∙ ap (option_and_then live_path) here)

  pub held-alone : held_of rows ≡ finite.empty
  held-alone =
      same_map id_cmp_total id_cmp_same _ _ (λ q. get-held rows q ∙ unreported taken_row refl q ∙ sym (get-empty id_cmp q))
