-- The lists' own two fields: those of the children of each path, and those of the nodes of each owner.
use Rattle.std.proofs.Common.{◌≡◌, ◌≢◌, ◌⊎◌, inl, inr, ℕ, Option, Some, None, refl, sym, ap, ◌∙◌}
use Rattle.std.specs.Option.{option_map, option_map_or, option_and_then}
use Rattle.std.specs.Cmp.{nat_cmp_total}
use Rattle.std.specs.FinMap.{get, insert, same_map, nat_cmp-IsAntisymmetric}
use Rattle.zslots.specs.declared.id.Id.{Id}
use Rattle.zslots.specs.declared.list.List.{List as IdList}
use Rattle.zslots.specs.SlotsView.{Items}
use Rattle.zslots.specs.Lists.{empty_list, list_with_front, list_without}
use Rattle.zslots.specs.Families.{ChangesHead}
use Rattle.zslots.proofs.Maps.{same_or_other}
use Rattle.znodes.specs.index.IndexView.{IdsByPath}
use Rattle.ztree.specs.Tree.{Path}
use Rattle.ztree.proofs.Maps as maps
use Rattle.ztree.proofs.Sorted.{paths_total, same_path}
use Rattle.znodes.specs.declared.row.Row.{Row}
use Rattle.znodes.specs.support.OwnerLists.{OwnerLists, list_of}
use Rattle.znodes.specs.support.Rows.{children_at, children_of, owned_by, known_of, fellow_links}
use Rattle.znodes.specs.support.Linking.{with_children, owners_with, owners_without}
use Rattle.znodes.proofs.OwnerMaps.{listed}
use Rattle.znodes.proofs.Faces.{at-here, at-elsewhere, part-there}
use Rattle.znodes.proofs.Views.{get-known}

list-part : (o t : Option Row) → option_map (λ (r : Row). r.children) o ≡ option_map (λ (r : Row). r.children) t → option_map_or (λ (r : Row). r.children) o empty_list ≡ option_map_or (λ (r : Row). r.children) t empty_list
list-part None None e = refl
list-part (Some x) (Some y) e = maps.same_some x.children y.children e
list-part None (Some y) e = cc
list-part (Some x) None e = cc

-- a list of children that stays
pub list-kept : (m n : Items Row) (q : Id) → option_map (λ (r : Row). r.children) (get n q) ≡ option_map (λ (r : Row). r.children) (get m q) → children_at n q ≡ children_at m q
list-kept m n q kept = list-part (get n q) (get m q) kept

-- one row's list of children written, over rows whose lists stayed
module _ (m w : Items Row) (p : Id) (xp : Row) (list : IdList 0) (has : get m p ≡ Some xp) (kept : (q : Id) → option_map (λ (r : Row). r.children) (get w q) ≡ option_map (λ (r : Row). r.children) (get m q)) where
  pub head-here : children_at (with_children w p list) p ≡ list
  head-here =
      let there = part-there (λ (r : Row). r.children) (get w p) (get m p) xp (kept p) has in
      ap (λ o. option_map_or (λ (r : Row). r.children) o empty_list)
      (at-here w p (λ r. record r { children = list }) ∙ ap (option_map (λ (r : Row). record r { children = list })) there.1)

  pub head-elsewhere : (q : Id) → q ≢ p → children_at (with_children w p list) q ≡ children_at m q
  head-elsewhere q other = ap (λ o. option_map_or (λ (r : Row). r.children) o empty_list) (at-elsewhere w p (λ r. record r { children = list }) q other) ∙ list-kept m w q (kept q)

-- the path k names p alone, whose list is written; at one other path the index is changed, and there no list comes or goes
module _ (m n : Items Row) (ids later : IdsByPath) (path k : Path) (p : Id) (list : IdList 0)
    (apart : path ≢ k) (above : get ids k ≡ Some p) (alone : (q : Path) → get ids q ≡ Some p → q ≡ k)
    (others : (q : Path) → q ≢ path → get later q ≡ get ids q) (at_path : children_of n later path ≡ children_of m ids path)
    (head : children_at n p ≡ list) (heads : (q : Id) → q ≢ p → children_at n q ≡ children_at m q) where
  pub heads-changed : ChangesHead (children_of m ids) (children_of n later) k list
  heads-changed q = by (maps.same_or_other paths_total same_path q path)
    where
      where_named : (i : Id) → get ids q ≡ Some i → get later q ≡ Some i → (i ≡ p) ⊎ (i ≢ p) → ((q ≡ k) × (children_of n later q ≡ list)) ⊎ ((q ≢ k) × (children_of n later q ≡ children_of m ids q))
      where_named i old new (inl same) =
          let is_k : q ≡ k = alone q (old ∙ ap Some same) in
          let now : children_of n later q ≡ list = ap (λ o. option_map_or (children_at n) o empty_list) new ∙ ap (children_at n) same ∙ head in
          inl (is_k, now)
      where_named i old new (inr differs) =
          let not_k : q ≢ k = λ is. differs (maps.same_some i p (sym old ∙ ap (get ids) is ∙ above)) in
          let now : children_of n later q ≡ children_of m ids q =
          ap (λ o. option_map_or (children_at n) o empty_list) new ∙ heads i differs
          ∙ sym (ap (λ o. option_map_or (children_at m) o empty_list) old) in
          inr (not_k, now)

      elsewhere : (o : Option Id) → get ids q ≡ o → get later q ≡ o → ((q ≡ k) × (children_of n later q ≡ list)) ⊎ ((q ≢ k) × (children_of n later q ≡ children_of m ids q))
      elsewhere None old new =
          let not_k : q ≢ k = λ is. maps.none_some p (sym old ∙ ap (get ids) is ∙ above) in
          let now : children_of n later q ≡ children_of m ids q =
          ap (λ o. option_map_or (children_at n) o empty_list) new ∙ sym (ap (λ o. option_map_or (children_at m) o empty_list) old) in
          inr (not_k, now)
      elsewhere (Some i) old new = where_named i old new (same_or_other i p)

      by : (q ≡ path) ⊎ (q ≢ path) → ((q ≡ k) × (children_of n later q ≡ list)) ⊎ ((q ≢ k) × (children_of n later q ≡ children_of m ids q))
      by (inl is) =
          let not_k : q ≢ k = λ e. apart (sym is ∙ e) in
          let now : children_of n later q ≡ children_of m ids q = ap (children_of n later) is ∙ at_path ∙ ap (children_of m ids) (sym is) in
          inr (not_k, now)
      by (inr other) = elsewhere (get ids q) refl (others q other)

-- one owner's list written
pub owned-changed : (owners : OwnerLists) (owner : ℕ) (list : IdList 1) → ChangesHead (owned_by owners) (owned_by (insert owners owner list)) owner list
owned-changed owners owner list q = by (maps.same_or_other nat_cmp_total nat_cmp-IsAntisymmetric q owner)
  where
    by : (q ≡ owner) ⊎ (q ≢ owner) → ((q ≡ owner) × (owned_by (insert owners owner list) q ≡ list)) ⊎ ((q ≢ owner) × (owned_by (insert owners owner list) q ≡ owned_by owners q))
    by (inl is) = inl (is, ap (owned_by (insert owners owner list)) is ∙ ap (λ o. option_map_or (λ (l : IdList 1). l) o empty_list) (maps.get-insert-here nat_cmp_total nat_cmp-IsAntisymmetric owners owner list))
    by (inr other) = inr (other, ap (λ o. option_map_or (λ (l : IdList 1). l) o empty_list) (maps.get-insert-elsewhere nat_cmp_total nat_cmp-IsAntisymmetric owners owner list q other))

abbrev known : IdList 1 → Option (Unit {0})
known list = Some tt

value-there : (owners : OwnerLists) (owner : ℕ) (old list : IdList 1) → get owners owner ≡ Some old → (q : ℕ) → get (known_of (insert owners owner list)) q ≡ get (known_of owners) q
value-there owners owner old list has q = get-known (insert owners owner list) q ∙ by (maps.same_or_other nat_cmp_total nat_cmp-IsAntisymmetric q owner) ∙ sym (get-known owners q)
  where
    by : (q ≡ owner) ⊎ (q ≢ owner) → option_and_then known (get (insert owners owner list) q) ≡ option_and_then known (get owners q)
    by (inl is) =
        ap (option_and_then known) (ap (get (insert owners owner list)) is ∙ maps.get-insert-here nat_cmp_total nat_cmp-IsAntisymmetric owners owner list)
        ∙ sym (ap (option_and_then known) (ap (get owners) is ∙ has))
    by (inr other) = ap (option_and_then known) (maps.get-insert-elsewhere nat_cmp_total nat_cmp-IsAntisymmetric owners owner list q other)

-- a list that is written leaves who is known
pub known-kept : (owners : OwnerLists) (owner : ℕ) (old list : IdList 1) → get owners owner ≡ Some old → known_of (insert owners owner list) ≡ known_of owners
known-kept owners owner old list has = same_map nat_cmp_total nat_cmp-IsAntisymmetric _ _ (value-there owners owner old list has)

pub known-with : (owners : OwnerLists) (owner : ℕ) (id : Id) → known_of (owners_with owners owner (list_of owners owner) id) ≡ known_of owners
known-with owners owner id = by (list_of owners owner) (λ list e. listed owners owner list e)
  where
    by : (o : Option (IdList 1)) → ((list : IdList 1) → o ≡ Some list → get owners owner ≡ Some list) → known_of (owners_with owners owner o id) ≡ known_of owners
    by None has = refl
    by (Some list) has = known-kept owners owner list (list_with_front list id) (has list refl)

pub known-without : (m : Items Row) (owners : OwnerLists) (owner : ℕ) (id : Id) → known_of (owners_without m owners owner (list_of owners owner) id) ≡ known_of owners
known-without m owners owner id = by (list_of owners owner) (λ list e. listed owners owner list e)
  where
    by : (o : Option (IdList 1)) → ((list : IdList 1) → o ≡ Some list → get owners owner ≡ Some list) → known_of (owners_without m owners owner o id) ≡ known_of owners
    by None has = refl
    by (Some list) has = known-kept owners owner list (list_without fellow_links m list id) (has list refl)
