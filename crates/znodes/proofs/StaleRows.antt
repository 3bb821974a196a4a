-- Which Ids name the nodes that a tick removes, from the list of the nodes that ticks may remove.
use Rattle.std.proofs.Common.{◌≡◌, ◌≢◌, inl, inr, ℕ, Bool, true, false, ◌&&◌, cond, [], ◌∷◌, length, Option, Some, None, refl, sym, ap, ◌∙◌}
use mathlib.Core.Path.{subst}
use Rattle.std.specs.Prelude.{◌==◌, ◌↔◌}
use mathlib.Core.Bool.{true≢false}
use Rattle.std.specs.Option.{option_map_or, option_and_then}
use Rattle.std.specs.List.{cons_option}
use Rattle.std.specs.FinMap.{get}
use Rattle.zslots.specs.declared.id.Id.{Id}
use Rattle.zslots.specs.declared.list.List.{List as IdList}
use Rattle.zslots.specs.SlotsView.{Items}
use Rattle.zslots.specs.Ids.{Ids, IsIn, NotIn, NoTwo}
use Rattle.zslots.specs.Lists.{IsList}
use Rattle.zslots.specs.Families.{key_at}
use Rattle.ztree.specs.declared.node.Node.{Node}
use Rattle.ztree.specs.Tree.{Path, children}
use Rattle.ztree.specs.Stale.{may_end, is_over, is_due, is_stale, is_stale_at}
use Rattle.ztree.specs.declared.term.Term.{Term}
use Rattle.ztree.specs.declared.term.Term.TheVariants.{Unlimited, Timed, Container}
use Rattle.ztree.specs.Laws.{has_path}
use Rattle.ztree.proofs.Maps.{same_some}
use Rattle.ztree.proofs.StaleGone.{both}
use Rattle.znodes.specs.declared.row.Row.{Row}
use Rattle.znodes.specs.declared.nodes.Nodes.TheInside.{Inside}
use Rattle.znodes.specs.NodesView.{NodesView, AreStale}
use Rattle.znodes.specs.support.Rows.{Key, IsLinked, HasTimed, timed_by, timed_key, timed_links}
use Rattle.znodes.specs.support.Fields.{view_of}
use Rattle.znodes.specs.support.Reading.{if_live, live_at, is_stale_row, IsStale, AreStaleIds, stale_of}
use Rattle.znodes.proofs.Found.{live_node, found_row}
use Rattle.znodes.proofs.Linked.{live_key, and-then}
use Rattle.znodes.proofs.Siblings.{children-count, both_ways}
use Rattle.znodes.proofs.Shown.{live_parts, path_of-live, path-same, no_path, own_list}
use Rattle.znodes.proofs.Mortal.{an_end}
use Rattle.znodes.proofs.TheirPaths.{TheirPaths, their-paths}

module _ (m : Items Row) (tick : ℕ) where
  first_or_later : (id i : Id) (ids : Ids) (b : Bool) → is_stale_row m tick i ≡ b → (IsIn id (stale_of m tick ids) → IsIn id ids × (is_stale_row m tick id ≡ true)) → IsIn id (cons_option (cond b (Some i) None) (stale_of m tick ids)) → IsIn id (i ∷ ids) × (is_stale_row m tick id ≡ true)
  first_or_later id i ids true is rest (inl same) = (inl same, ap (is_stale_row m tick) same ∙ is)
  first_or_later id i ids true is rest (inr has) = (inr (rest has).0, (rest has).1)
  first_or_later id i ids false is rest has = (inr (rest has).0, (rest has).1)

  -- what is among those that a tick removes is among all, and a tick removes it
  pub in_all : (id : Id) (ids : Ids) → IsIn id (stale_of m tick ids) → IsIn id ids × (is_stale_row m tick id ≡ true)
  in_all id [] has = absurd has
  in_all id (i ∷ ids) has = first_or_later id i ids (is_stale_row m tick i) refl (in_all id ids) has

  with_first : (id i : Id) (ids : Ids) (b : Bool) → IsIn id (stale_of m tick ids) → IsIn id (cons_option (cond b (Some i) None) (stale_of m tick ids))
  with_first id i ids true has = inr has
  with_first id i ids false has = has

  -- and the other way round
  pub in_stale : (id : Id) (ids : Ids) → IsIn id ids → is_stale_row m tick id ≡ true → IsIn id (stale_of m tick ids)
  in_stale id [] has is = absurd has
  in_stale id (i ∷ ids) (inl same) is = subst (λ b. IsIn id (cons_option (cond b (Some i) None) (stale_of m tick ids))) (sym (ap (is_stale_row m tick) (sym same) ∙ is)) (inl same)
  in_stale id (i ∷ ids) (inr has) is = with_first id i ids (is_stale_row m tick i) (in_stale id ids has is)

  not_first : (id i : Id) (ids : Ids) (b : Bool) → id ≢ i → NotIn id (stale_of m tick ids) → NotIn id (cons_option (cond b (Some i) None) (stale_of m tick ids))
  not_first id i ids true other free = (other, free)
  not_first id i ids false other free = free

  not_in : (id : Id) (ids : Ids) → NotIn id ids → NotIn id (stale_of m tick ids)
  not_in id [] free = tt
  not_in id (i ∷ ids) free = not_first id i ids (is_stale_row m tick i) free.0 (not_in id ids free.1)

  one_more : (i : Id) (ids : Ids) (b : Bool) → NotIn i (stale_of m tick ids) → NoTwo (stale_of m tick ids) → NoTwo (cons_option (cond b (Some i) None) (stale_of m tick ids))
  one_more i ids true free apart = (free, apart)
  one_more i ids false free apart = apart

  -- none occurs twice
  pub no_two : (ids : Ids) → NoTwo ids → NoTwo (stale_of m tick ids)
  no_two [] apart = tt
  no_two (i ∷ ids) apart = one_more i ids (is_stale_row m tick i) (not_in i ids apart.0) (no_two ids apart.1)

-- a live row in the list
timed-row : (m : Items Row) (id : Id) → key_at timed_key m id ≡ Some tt → (r : Row) × (get m id ≡ Some r) × (r.key ≡ None)
timed-row m id e =
    let found = and-then timed_key (get m id) tt e in
    let parts = live_key found.0.key (timed_by (may_end found.0.node.term)) tt found.2 in
    (found.0, found.1, parts.0)

-- a tick may remove a node that is due
ends-due : (tick : ℕ) (n : Node) (term : Term) → is_over tick n term ≡ true → may_end term ≡ true
ends-due tick n Unlimited due = absurd (true≢false (sym due))
ends-due tick n (Timed ttl) due = refl
ends-due tick n Container due = refl

module _ (s : Inside) (linked : IsLinked s.slots.items s.index.ids s.owners) (v : NodesView) (shown : view_of s ≡ v) (tick : ℕ) where
  -- of a live row the tree decides it
  row-stale : (id : Id) (r : Row) → live_at s.slots.items id ≡ Some r → is_stale_at v.nodes tick r.path ≡ is_stale_row s.slots.items tick id
  row-stale id r is =
      let row = live_parts s.slots.items id r is in
      let node = ap (λ (w : NodesView). get w.nodes r.path) (sym shown) ∙ live_node s.slots.items s.index.ids s.owners linked id r row.0 row.1 in
      let count = ap (λ (w : NodesView). length (children w.nodes r.path)) (sym shown)
      ∙ sym (ap (λ (l : IdList 0). l.len) (sym (own_list s linked v shown id r is)) ∙ children-count s.slots.items s.index.ids s.owners linked r.path) in
      ap (λ (o : Option Node). option_map_or (is_stale v.nodes tick r.path) o false) node
      ∙ ap (λ n. is_due tick r.node && (n == 0)) count
      ∙ sym (ap (λ (o : Option Row). option_map_or (λ (x : Row). is_due tick x.node && (x.children.len == 0)) o false) row.0)

  row-live : (id : Id) (r : Row) → get s.slots.items id ≡ Some r → r.key ≡ None → live_at s.slots.items id ≡ Some r
  row-live id r e live = ap (option_and_then if_live) e ∙ ap (λ (k : Option Key). cond (option_map_or (λ (_ : Key). false) k true) (Some r) None) live

  module _ (timed : IdList 2) (kept : HasTimed s.slots.items timed) where
    pub are-stale : (found : Ids) → ((all : Ids) → IsList timed_links s.slots.items timed all → found ≡ stale_of s.slots.items tick all) → AreStaleIds v tick found
    are-stale found is = by (kept tt).0 (kept tt).1 (kept tt).2
      where
        by : (all : Ids) → IsList timed_links s.slots.items timed all → ((id : Id) → IsIn id all ↔ (key_at timed_key s.slots.items id ≡ Some tt)) → AreStaleIds v tick found
        by all list members = subst (AreStaleIds v tick) (sym (is all list)) (record { each = each; once = no_two s.slots.items tick all list.no_two })
          where
            from : (id : Id) → IsIn id (stale_of s.slots.items tick all) → IsStale v tick id
            from id has =
                let parts = in_all s.slots.items tick id all has in
                let row = timed-row s.slots.items id ((members id).0 parts.0) in
                let live = row-live id row.0 row.1 row.2 in
                (row.0.path, path_of-live s linked v shown id (Some row.0) live, row-stale id row.0 live ∙ parts.1)

            back : (id : Id) → IsStale v tick id → IsIn id (stale_of s.slots.items tick all)
            back id (path, at, stale) = row (live_at s.slots.items id) refl
              where
                row : (o : Option Row) → live_at s.slots.items id ≡ o → IsIn id (stale_of s.slots.items tick all)
                row None none = absurd (no_path s linked v shown id none path at)
                row (Some r) live =
                    let same = path-same s linked v shown id r live path at in
                    let reported : is_stale_row s.slots.items tick id ≡ true = sym (row-stale id r live) ∙ ap (is_stale_at v.nodes tick) (sym same) ∙ stale in
                    let parts = live_parts s.slots.items id r live in
                    let due = (both (is_due tick r.node) (r.children.len == 0) (sym (ap (λ (o : Option Row). option_map_or (λ (x : Row). is_due tick x.node && (x.children.len == 0)) o false) parts.0) ∙ reported)).0 in
                    let key = ap (option_and_then timed_key) parts.0 ∙ ap (λ (k : Option Key). cond (option_map_or (λ (_ : Key). false) k true) (timed_by (may_end r.node.term)) None) parts.1
                    ∙ an_end (may_end r.node.term) (ends-due tick r.node r.node.term due) in
                    in_stale s.slots.items tick id all ((members id).1 key) reported

            each : (id : Id) → IsIn id (stale_of s.slots.items tick all) ↔ IsStale v tick id
            each id = (from id, back id)

module _ (s : Inside) (linked : IsLinked s.slots.items s.index.ids s.owners) (v : NodesView) (shown : view_of s ≡ v) (tick : ℕ) where
  -- they are the paths of all nodes that a tick removes
  pub are-stale-paths : (ids : Ids) → AreStaleIds v tick ids → AreStale v.nodes v.places tick ids
  are-stale-paths ids stale =
      let their = their-paths s linked v shown ids stale.once (λ id has. let found = (stale.each id).0 has in (found.0, found.1)) in
      record {
        paths = their.paths;
        named = their.named;
        each = λ path. both_ways _ _ (to their path) (from their path);
        once = their.once;
      }
    where
      to : (their : TheirPaths s linked v shown ids) (path : Path) → has_path their.paths path ≡ true → is_stale_at v.nodes tick path ≡ true
      to their path e =
          let found = their.of_ids path e in
          let its = (stale.each found.0).0 found.1 in
          ap (is_stale_at v.nodes tick) (same_some path its.0 (sym found.2 ∙ its.1)) ∙ its.2

      from : (their : TheirPaths s linked v shown ids) (path : Path) → is_stale_at v.nodes tick path ≡ true → has_path their.paths path ≡ true
      from their path e = by (get v.nodes path) refl
        where
          by : (o : Option Node) → get v.nodes path ≡ o → has_path their.paths path ≡ true
          by None none = let bad : false ≡ true = ap (λ (o : Option Node). option_map_or (is_stale v.nodes tick path) o false) (sym none) ∙ e in cc
          by (Some n) there =
              let row = found_row s.slots.items s.index.ids s.owners linked path n (ap (λ (w : NodesView). get w.nodes path) shown ∙ there) in
              let at = path_of-live s linked v shown row.0 (Some row.1) (row-live s linked v shown tick row.0 row.1 row.2 row.4) ∙ ap Some row.3 in
              their.all_ids row.0 ((stale.each row.0).1 (path, at, e)) path at
