-- A row that is in no list comes or goes.
use Rattle.std.proofs.Common.{◌≡◌, ◌≢◌, ◌⊎◌, inl, inr, false, true, cond, Option, Some, None, refl, sym, ap, ◌∙◌}
use Rattle.std.specs.Option.{option_map, option_map_or, option_and_then}
use Rattle.std.specs.FinMap.{get, insert, remove, same_map}
use Rattle.zslots.specs.declared.id.Id.{Id}
use Rattle.zslots.specs.SlotsView.{Items}
use Rattle.zslots.specs.Lists.{empty_list}
use Rattle.zslots.specs.Families.{key_at}
use Rattle.zslots.proofs.Maps.{id_cmp_total, id_cmp_same, same_or_other}
use Rattle.zslots.proofs.Families.{families-kept}
use Rattle.znodes.specs.index.IndexView.{IdsByPath}
use Rattle.ztree.specs.Tree.{Path}
use Rattle.ztree.proofs.Maps.{none_some}
use Rattle.ztree.proofs.Sorted.{paths_total, same_path}
use Rattle.znodes.specs.declared.row.Row.{Row}
use Rattle.znodes.specs.support.OwnerLists.{OwnerLists, somebody}
use Rattle.znodes.specs.support.Rows.{Key, KeepsKey, IsLinked, is_live, above, parent_key, owner_key, taken_row, node_at, nodes_of, places_of, held_of, children_at, children_of, owned_by, sibling_links, fellow_links}
use Rattle.znodes.proofs.Views.{get-nodes, get-places, get-held, through, remove-is, insert-is}

-- nothing that only live rows have
out-of : {X : Type 0} (part : Row → Option X) (o : Option Row) → ((x : Row) → o ≡ Some x → x.key ≢ None) → option_and_then (λ (r : Row). cond (is_live r) (part r) None) o ≡ None
out-of part None out = refl
out-of part (Some x) out = by x.key refl
  where
    by : (k : Option Key) → x.key ≡ k → cond (option_map_or (λ (_ : Key). false) k true) (part x) None ≡ None
    by None is = absurd (out x refl is)
    by (Some key) is = refl

module _ (m n : Items Row) (ids : IdsByPath) (owners : OwnerLists) (id : Id) (kept : IsLinked m ids owners) (elsewhere : (q : Id) → q ≢ id → get n q ≡ get m q)
    (out : (x : Row) → get m id ≡ Some x → x.key ≢ None) (still : (x : Row) → get n id ≡ Some x → x.key ≢ None) where
  -- the index doesn't name it
  named_other : (path : Path) (i : Id) → get ids path ≡ Some i → i ≢ id
  named_other path i e same = let was = kept.named path i e in out was.0 (ap (get m) (sym same) ∙ was.1) was.3

  pub alike : {X : Type 0} (part : Row → Option X) (q : Id) → option_and_then (λ (r : Row). cond (is_live r) (part r) None) (get n q) ≡ option_and_then (λ (r : Row). cond (is_live r) (part r) None) (get m q)
  alike part q = by (same_or_other q id)
    where
      none : (w : Items Row) → ((x : Row) → get w id ≡ Some x → x.key ≢ None) → q ≡ id → option_and_then (λ (r : Row). cond (is_live r) (part r) None) (get w q) ≡ None
      none w apart is = ap (λ i. option_and_then (λ (r : Row). cond (is_live r) (part r) None) (get w i)) is ∙ out-of part (get w id) apart

      by : (q ≡ id) ⊎ (q ≢ id) → option_and_then (λ (r : Row). cond (is_live r) (part r) None) (get n q) ≡ option_and_then (λ (r : Row). cond (is_live r) (part r) None) (get m q)
      by (inl is) = none n still is ∙ sym (none m out is)
      by (inr other) = ap (option_and_then (λ (r : Row). cond (is_live r) (part r) None)) (elsewhere q other)

  heads : (k : Path) → children_of n ids k ≡ children_of m ids k
  heads k = by (get ids k) (λ i e. elsewhere i (named_other k i e))
    where
      by : (o : Option Id) → ((i : Id) → o ≡ Some i → get n i ≡ get m i) → option_map_or (children_at n) o empty_list ≡ option_map_or (children_at m) o empty_list
      by None same = refl
      by (Some i) same = ap (λ o. option_map_or (λ (r : Row). r.children) o empty_list) (same i refl)

  -- who has a key is another
  pub has_key_other : {X : Type 0} (part : Row → Option X) (q : Id) (k : X) → option_and_then (λ (r : Row). cond (is_live r) (part r) None) (get m q) ≡ Some k → q ≢ id
  has_key_other part q k e same =
      none_some k (sym (ap (λ i. option_and_then (λ (r : Row). cond (is_live r) (part r) None) (get m i)) same ∙ out-of part (get m id) out) ∙ e)

  -- where the key of the row, if there is one now, is unchanged
  module _ (keeps : (x : Row) → get n id ≡ Some x → KeepsKey x) where
    before : (i : Id) (x : Row) → get n i ≡ Some x → (i ≡ id) ⊎ (i ≢ id) → x.key ≡ None → get m i ≡ Some x
    before i x e (inl is) none = absurd (still x (ap (get n) (sym is) ∙ e) none)
    before i x e (inr other) none = sym (elsewhere i other) ∙ e

    keyed-aside : (i : Id) (x : Row) → get n i ≡ Some x → (i ≡ id) ⊎ (i ≢ id) → KeepsKey x
    keyed-aside i x e (inl is) = keeps x (ap (get n) (sym is) ∙ e)
    keyed-aside i x e (inr other) = kept.keyed i x (sym (elsewhere i other) ∙ e)

    pub linked-aside : IsLinked n ids owners
    linked-aside = record {
      named = λ path i e. ((kept.named path i e).0, elsewhere i (named_other path i e) ∙ (kept.named path i e).1, (kept.named path i e).2, (kept.named path i e).3);
      found = λ i x e none. kept.found i x (before i x e (same_or_other i id) none) none;
      keyed = λ i x e. keyed-aside i x e (same_or_other i id);
      children =
          families-kept {L = 0} sibling_links m n (key_at parent_key m) (key_at parent_key n) (children_of m ids) (children_of n ids)
          (λ q k e. ap (option_map sibling_links) (elsewhere q (has_key_other (λ r. above r.path) q k e))) (alike (λ r. above r.path)) heads kept.children;
      owned =
          families-kept {L = 1} fellow_links m n (key_at owner_key m) (key_at owner_key n) (owned_by owners) (owned_by owners)
          (λ q k e. ap (option_map fellow_links) (elsewhere q (has_key_other (λ r. somebody r.node.owner) q k e))) (alike (λ r. somebody r.node.owner)) (λ k. refl) kept.owned;
    }

  pub nodes-aside : nodes_of n ids ≡ nodes_of m ids
  nodes-aside =
      same_map paths_total same_path _ _ (λ q. get-nodes n ids q
      ∙ through (node_at n) (node_at m) (get ids q) (λ i e. ap (option_map (λ (x : Row). x.node)) (elsewhere i (named_other q i e)))
      ∙ sym (get-nodes m ids q))

  pub places-aside : places_of n ≡ places_of m
  places-aside = same_map id_cmp_total id_cmp_same _ _ (λ q. get-places n q ∙ alike (λ r. Some r.path) q ∙ sym (get-places m q))

  held-elsewhere : (q : Id) → q ≢ id → get (held_of n) q ≡ get (held_of m) q
  held-elsewhere q other = get-held n q ∙ ap (option_and_then taken_row) (elsewhere q other) ∙ sym (get-held m q)

  pub held-gone : get n id ≡ None → held_of n ≡ remove (held_of m) id
  held-gone none = remove-is id_cmp_total id_cmp_same (held_of m) (held_of n) id held-elsewhere (get-held n id ∙ ap (option_and_then taken_row) none)

  pub held-come : (x : Row) (key : Key) → get n id ≡ Some x → x.key ≡ Some key → held_of n ≡ insert (held_of m) id (x.path, x.node)
  held-come x key e has =
      insert-is id_cmp_total id_cmp_same (held_of m) (held_of n) id held-elsewhere (x.path, x.node)
      (get-held n id ∙ ap (option_and_then taken_row) e ∙ ap (λ (k : Option Key). cond (option_map_or (λ (_ : Key). false) k true) None (Some (x.path, x.node))) has)
