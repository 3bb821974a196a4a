-- The children of a path are the rows of its list.
use Rattle.std.proofs.Common.{◌≡◌, ◌≢◌, ◌↔◌, inl, inr, suc, Bool, true, false, ◌||◌, List, [], ◌∷◌, ◌++◌, length, Option, Some, None, refl, sym, ap, subst, ◌∙◌}
use Rattle.std.specs.Prelude.{is_some, IsPermutation, IsSorted}
use Rattle.std.specs.Option.{option_and_then}
use Rattle.std.specs.List.{cons_option, AllByRecursion, IsDistinct}
use Rattle.std.specs.FinMap.{get}
use Rattle.std.specs.Str.{bytes_eq}
use Rattle.std.proofs.lemmas.Slice.Eq.{bytes_eq-Decides}
use Rattle.zpath.specs.Grammar.{name_cmp}
use Rattle.zslots.specs.declared.id.Id.{Id}
use Rattle.zslots.specs.Ids.{Ids, IsIn, NotIn, NoTwo}
use Rattle.zslots.specs.SlotsView.{Items}
use Rattle.zslots.specs.Lists.{IsList}
use Rattle.ztree.specs.Tree.{Name, Path, children}
use Rattle.ztree.specs.Laws.{has_name}
use Rattle.ztree.proofs.Listed.{lists_children}
use Rattle.ztree.proofs.Maps.{none_some, same_some, has_some, is_there}
use Rattle.znodes.specs.declared.row.Row.{Row}
use Rattle.znodes.specs.support.Rows.{IsLinked, parent_key, sibling_links, children_of, nodes_of}
use Rattle.znodes.specs.support.OwnerLists.{OwnerLists}
use Rattle.znodes.specs.index.IndexView.{IdsByPath}
use Rattle.znodes.specs.support.Reading.{last_name, name_at, names_at}
use Rattle.znodes.proofs.Rising.{AreDistinct, children_rise, sorted_same, same_length}
use Rattle.znodes.proofs.Keys.{last_name-appended, parent_key-parts, parent_key-live}
use Rattle.znodes.proofs.Found.{has_node-index}

pub both_ways : (a b : Bool) → (a ≡ true → b ≡ true) → (b ≡ true → a ≡ true) → a ≡ b
both_ways true b to from = sym (to refl)
both_ways false true to from = from refl
both_ways false false to from = refl

differ : (a b : Name) → a ≢ b → bytes_eq a b ≡ false
differ a b other = by (bytes_eq a b) refl
  where
    by : (t : Bool) → bytes_eq a b ≡ t → t ≡ false
    by true is = absurd (other ((bytes_eq-Decides a b).0 is))
    by false is = refl

module _ (m : Items Row) where
  named_first : (n : Name) (i : Id) (ids : Ids) → (has_name (names_at m ids) n ≡ true → (id : Id) × IsIn id ids × (name_at m id ≡ Some n)) → (o : Option Name) → name_at m i ≡ o → has_name (cons_option o (names_at m ids)) n ≡ true → (id : Id) × IsIn id (i ∷ ids) × (name_at m id ≡ Some n)
  named_first n i ids further None is e = let rest = further e in (rest.0, inr rest.1, rest.2)
  named_first n i ids further (Some k) is e = by (bytes_eq n k) refl e
    where
      by : (t : Bool) → bytes_eq n k ≡ t → (t || has_name (names_at m ids) n) ≡ true → (id : Id) × IsIn id (i ∷ ids) × (name_at m id ≡ Some n)
      by true same e = (i, inl refl, is ∙ ap Some (sym ((bytes_eq-Decides n k).0 same)))
      by false same e = let rest = further e in (rest.0, inr rest.1, rest.2)

  -- a name of the list is that of one of its rows
  named_in : (n : Name) (ids : Ids) → has_name (names_at m ids) n ≡ true → (id : Id) × IsIn id ids × (name_at m id ≡ Some n)
  named_in n [] e = cc
  named_in n (i ∷ ids) e = named_first n i ids (named_in n ids) (name_at m i) refl e

  in_more : (n : Name) (names : List Name) → has_name names n ≡ true → (o : Option Name) → has_name (cons_option o names) n ≡ true
  in_more n names e None = e
  in_more n names e (Some k) = by (bytes_eq n k)
    where
      by : (t : Bool) → (t || has_name names n) ≡ true
      by true = refl
      by false = e

  -- and the name of each of its rows is a name of the list
  in_named : (id : Id) (n : Name) (ids : Ids) → IsIn id ids → name_at m id ≡ Some n → has_name (names_at m ids) n ≡ true
  in_named id n [] at e = absurd at
  in_named id n (i ∷ ids) (inl same) e =
      ap (λ o. has_name (cons_option o (names_at m ids)) n) (ap (name_at m) (sym same) ∙ e)
      ∙ ap (λ t. t || has_name (names_at m ids) n) ((bytes_eq-Decides n n).1 refl)
  in_named id n (i ∷ ids) (inr at) e = in_more n (names_at m ids) (in_named id n ids at e) (name_at m i)

  module _ (index : IdsByPath) (p : Path) where
    -- the row has the path with one more name, and the index finds it there
    abbrev pub IsNamed : Id → Type 0
    IsNamed id = (n : Name) × (name_at m id ≡ Some n) × (get index (p ++ n ∷ []) ≡ Some id)

    other_names : (n : Name) (id : Id) → get index (p ++ n ∷ []) ≡ Some id → (ids : Ids) → NotIn id ids → ((i : Id) → IsIn i ids → IsNamed i) → AllByRecursion (λ k. bytes_eq n k ≡ false) (names_at m ids)
    other_names n id at [] free facts = tt
    other_names n id at (i ∷ ids) free facts =
        let fact = facts i (inl refl) in
        let apart : n ≢ fact.0 = λ same. free.0 (same_some id i (sym at ∙ ap (λ k. get index (p ++ k ∷ [])) same ∙ fact.2)) in
        subst (λ o. AllByRecursion (λ k. bytes_eq n k ≡ false) (cons_option o (names_at m ids))) (sym fact.1)
        (differ n fact.0 apart, other_names n id at ids free.1 (λ j w. facts j (inr w)))

    -- no name occurs twice
    pub names_apart : (ids : Ids) → NoTwo ids → ((i : Id) → IsIn i ids → IsNamed i) → AreDistinct (names_at m ids)
    unfolding IsDistinct
    names_apart [] apart facts = tt
    names_apart (i ∷ ids) apart facts =
        let fact = facts i (inl refl) in
        subst (λ o. AreDistinct (cons_option o (names_at m ids))) (sym fact.1)
        (other_names fact.0 i fact.2 ids apart.0 (λ j w. facts j (inr w)), names_apart ids apart.1 (λ j w. facts j (inr w)))

    -- each row has a name
    pub length-names : (ids : Ids) → ((i : Id) → IsIn i ids → IsNamed i) → length (names_at m ids) ≡ length ids
    length-names [] facts = refl
    length-names (i ∷ ids) facts =
        let fact = facts i (inl refl) in
        ap (λ o. length (cons_option o (names_at m ids))) fact.1 ∙ ap suc (length-names ids (λ j w. facts j (inr w)))

  module _ (index : IdsByPath) (owners : OwnerLists) (linked : IsLinked m index owners) (p : Path) where
    member_named : (id : Id) → option_and_then parent_key (get m id) ≡ Some p → IsNamed index p id
    member_named id = by (get m id) refl
      where
        by : (o : Option Row) → get m id ≡ o → option_and_then parent_key o ≡ Some p → IsNamed index p id
        by None is e = absurd (none_some p e)
        by (Some r) is e =
            let parts = parent_key-parts r p e in
            (parts.0, ap (option_and_then (λ (r : Row). last_name r.path)) is ∙ ap last_name parts.2 ∙ last_name-appended p parts.0, ap (get index) (sym parts.2) ∙ linked.found id r is parts.1)

    has_child : (n : Name) (id : Id) → get index (p ++ n ∷ []) ≡ Some id → (option_and_then parent_key (get m id) ≡ Some p) × (name_at m id ≡ Some n)
    has_child n id at =
        let row = linked.named (p ++ n ∷ []) id at in (
          ap (option_and_then parent_key) row.1 ∙ parent_key-live row.0 p n row.3 row.2,
          ap (option_and_then (λ (r : Row). last_name r.path)) row.1 ∙ ap last_name row.2 ∙ last_name-appended p n,
        )

    module _ (ids : Ids) (members : (id : Id) → IsIn id ids ↔ (option_and_then parent_key (get m id) ≡ Some p)) where
      -- the names of the list are those of the children
      names_alike : (n : Name) → has_name (names_at m ids) n ≡ has_name (children (nodes_of m index) p) n
      names_alike n = both_ways _ _ to from ∙ sym (lists_children (nodes_of m index) p n ∙ has_node-index m index owners linked (p ++ n ∷ []))
        where
          to : has_name (names_at m ids) n ≡ true → is_some (get index (p ++ n ∷ [])) ≡ true
          to e =
              let at = named_in n ids e in
              let fact = member_named at.0 ((members at.0).0 at.1) in
              let same : fact.0 ≡ n = same_some _ _ (sym fact.1 ∙ at.2) in
              is_there _ at.0 (ap (λ k. get index (p ++ k ∷ [])) (sym same) ∙ fact.2)

          from : is_some (get index (p ++ n ∷ [])) ≡ true → has_name (names_at m ids) n ≡ true
          from e =
              let at = has_some _ e in
              let child = has_child n at.0 at.1 in
              in_named at.0 n ids ((members at.0).1 child.0) child.1

    -- the list counts the children
    pub children-count : (children_of m index p).len ≡ length (children (nodes_of m index) p)
    children-count =
        let family = linked.children p in
        let facts = λ (i : Id) (w : IsIn i family.0). member_named i ((family.2 i).0 w) in
        family.1.count ∙ sym (length-names index p family.0 facts)
        ∙ same_length (names_at m family.0) (children (nodes_of m index) p) (names_apart index p family.0 family.1.no_two facts) (children_rise (nodes_of m index) p) (names_alike family.0 family.2)

    -- its names, once sorted, are the children
    pub children-sorted : (names sorted : List Name) → ((ids : Ids) → IsList sibling_links m (children_of m index p) ids → names ≡ names_at m ids) → IsPermutation names sorted → IsSorted name_cmp sorted → sorted ≡ children (nodes_of m index) p
    children-sorted names sorted are moved up =
        let family = linked.children p in
        let facts = λ (i : Id) (w : IsIn i family.0). member_named i ((family.2 i).0 w) in
        sorted_same (names_at m family.0) sorted (children (nodes_of m index) p) (names_apart index p family.0 family.1.no_two facts) (subst (λ xs. IsPermutation xs sorted) (are family.0 family.1) moved) up (children_rise (nodes_of m index) p) (names_alike family.0 family.2)
