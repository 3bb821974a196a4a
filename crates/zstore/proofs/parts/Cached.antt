-- The invariant of a store is preserved by a node that comes, one that goes, and one that is
-- written.
use Rattle.std.proofs.Common.{◌≡◌, ◌≢◌, ◌⊎◌, inl, inr, ℕ, ◌<◌, true, false, cond, List, [], Option, Some, None, refl, sym, ap, subst, ◌∙◌}
use Rattle.std.specs.Prelude.{is_some, IsSome}
use Rattle.std.specs.Option.{option_and_then}
use Rattle.std.specs.FinMap as finite
use Rattle.zpath.specs.Grammar.{IsPath}
use Rattle.zslots.specs.declared.id.Id.{Id}
use Rattle.zslots.proofs.Maps.{id_cmp_total, id_cmp_same}
use Rattle.ztree.specs.declared.limits.TreeLimits.{TreeLimits}
use Rattle.ztree.specs.declared.node.Node.{Node}
use Rattle.ztree.specs.Tree.{Path, Nodes, Sessions, parent_of, has_node, child_name, children, with_change_at}
use Rattle.ztree.specs.Lawful.{IsPersistent, IsOwner, HasOneEnd}
use Rattle.ztree.proofs.Sorted.{paths_total, same_path}
use Rattle.ztree.proofs.Maps.{is_there, same_some, same_or_other, get-insert-here, get-insert-elsewhere, get-remove-here, get-remove-elsewhere, get-removed, get-inserted, none_of_map}
use Rattle.ztree.proofs.Nodes.{parent_is_other}
use Rattle.ztree.proofs.Paths.{paths_inserted, paths_removed, paths_changed}
use Rattle.ztree.proofs.Lawful.{lawful_inserted, lawful_changed, lawful_removed}
use Rattle.ztree.proofs.Children.{names_of_keys, parent_of_child}
use Rattle.ztree.proofs.Ending.{has_node-changed}
use Rattle.zstore.specs.StoreView.{while_there}
use Rattle.zstore.specs.support.Undoing.{Places, Held, Owners, CanGo, CanComeBack}
use Rattle.zstore.specs.support.Stored.{tree_of, NamesNodes, IsKept, AreOwners}
use Rattle.zstore.proofs.parts.Undone.{parts_with, parts_without}

-- there is a node, or there is none
pub node_or_none : (nodes : Nodes) (q : Path) → has_node nodes q ≡ false → finite.get nodes q ≡ None
node_or_none nodes q free = by (finite.get nodes q) free
  where
    by : (o : Option Node) → is_some o ≡ false → o ≡ None
    by None e = refl
    by (Some n) e = cc

not_both : (nodes : Nodes) (q : Path) → has_node nodes q ≡ true → has_node nodes q ≡ false → ⊥
not_both nodes q there free = cc

-- an Id names no path where its position is free
pub names_none : (nodes : Nodes) (places : Places) → NamesNodes nodes places →
    (id : Id) (path : Path) → has_node nodes path ≡ false → finite.get places id ≡ Some path → ⊥
names_none nodes places named id path free is = not_both nodes path (named.there id path is) free

module _ (nodes : Nodes) (path : Path) (n : Node) where
  pub has-inserted : (q : Path) → has_node nodes q ≡ true →
      has_node (finite.insert nodes path n) q ≡ true
  has-inserted q there = by (same_or_other paths_total same_path q path)
    where
      by : (q ≡ path) ⊎ (q ≢ path) → has_node (finite.insert nodes path n) q ≡ true
      by (inl is) = ap (has_node (finite.insert nodes path n)) is
          ∙ ap is_some (get-insert-here paths_total same_path nodes path n)
      by (inr other) = ap is_some (get-insert-elsewhere paths_total same_path nodes path n q other)
          ∙ there

  module _ (places : Places) (named : NamesNodes nodes places) (id : Id) where
    Found : Id → Path → Type 0
    Found a q = ((a ≡ id) × (path ≡ q)) ⊎ ((a ≢ id) × (finite.get places a ≡ Some q))

    found : (a : Id) (q : Path) → finite.get (finite.insert places id path) a ≡ Some q → Found a q
    unfolding Found
    found a q is = get-inserted id_cmp_total id_cmp_same places id path a q is

    there_with : (a : Id) (q : Path) → Found a q → has_node (finite.insert nodes path n) q ≡ true
    unfolding Found
    there_with a q (inl new) = ap (has_node (finite.insert nodes path n)) (sym new.1)
        ∙ ap is_some (get-insert-here paths_total same_path nodes path n)
    there_with a q (inr old) = has-inserted q (named.there a q old.1)

    alone_with : has_node nodes path ≡ false → (a b : Id) (q : Path) → Found a q → Found b q → a ≡ b
    unfolding Found
    alone_with free a b q (inl x) (inl y) = x.0 ∙ sym y.0
    alone_with free a b q (inl x) (inr y) =
        absurd (names_none nodes places named b path free (y.1 ∙ ap Some (sym x.1)))
    alone_with free a b q (inr x) (inl y) =
        absurd (names_none nodes places named a path free (x.1 ∙ ap Some (sym y.1)))
    alone_with free a b q (inr x) (inr y) = named.alone a b q x.1 y.1

    pub names_with : has_node nodes path ≡ false →
        NamesNodes (finite.insert nodes path n) (finite.insert places id path)
    names_with free = record {
      there = λ a q is. there_with a q (found a q is);
      alone = λ a b q x y. alone_with free a b q (found a q x) (found b q y);
    }

module _ (nodes : Nodes) (places : Places) (named : NamesNodes nodes places) (id : Id) (path : Path)
    (is : finite.get places id ≡ Some path) where
  -- another Id names another path
  another : (a : Id) (q : Path) → (a ≢ id) → finite.get places a ≡ Some q → q ≢ path
  another a q other at same = other (named.alone a id path (at ∙ ap Some same) is)

  pub names_without : NamesNodes (finite.remove nodes path) (finite.remove places id)
  names_without = record {
    there = λ a q at.
        let old = get-removed id_cmp_total id_cmp_same places id a q at in
        ap is_some
        (get-remove-elsewhere paths_total same_path nodes path q (another a q old.0 old.1))
        ∙ named.there a q old.1;
    alone = λ a b q x y. named.alone a b q (get-removed id_cmp_total id_cmp_same places id a q x).1
        (get-removed id_cmp_total id_cmp_same places id b q y).1;
  }

  -- every other Id names what it named, and this one nothing
  pub forgets_gone : (a : Id) →
      finite.get (finite.remove places id) a ≡ option_and_then
      (while_there (finite.remove nodes path)) (finite.get places a)
  forgets_gone a = by (same_or_other id_cmp_total id_cmp_same a id)
    where
      gone : has_node (finite.remove nodes path) path ≡ false
      gone = ap is_some (get-remove-here paths_total same_path nodes path)

      still : (a ≢ id) → (o : Option Path) → finite.get places a ≡ o →
          o ≡ option_and_then (while_there (finite.remove nodes path)) o
      still other None at = refl
      still other (Some q) at =
          let there : has_node (finite.remove nodes path) q ≡ true =
          ap is_some
          (get-remove-elsewhere paths_total same_path nodes path q (another a q other at))
          ∙ named.there a q at in
          rw there refl

      by : (a ≡ id) ⊎ (a ≢ id) →
          finite.get (finite.remove places id) a ≡ option_and_then
          (while_there (finite.remove nodes path)) (finite.get places a)
      by (inl same) =
          ap (finite.get (finite.remove places id)) same
          ∙ get-remove-here id_cmp_total id_cmp_same places id
          ∙ sym (ap (λ b. cond b (Some path) None) gone)
          ∙ sym (ap (option_and_then (while_there (finite.remove nodes path)))
          (ap (finite.get places) same ∙ is))
      by (inr other) = get-remove-elsewhere id_cmp_total id_cmp_same places id a other
          ∙ still other (finite.get places a) refl

-- every Id that names a path names one that is there
pub named_still : (nodes : Nodes) (places : Places) → NamesNodes nodes places → (a : Id) →
    finite.get places a ≡ option_and_then (while_there nodes) (finite.get places a)
named_still nodes places named a = by (finite.get places a) refl
  where
    by : (o : Option Path) → finite.get places a ≡ o → o ≡ option_and_then (while_there nodes) o
    by None at = refl
    by (Some q) at = rw (named.there a q at) refl

module _ (nodes : Nodes) (places : Places) (sessions : Sessions) (time zxid : ℕ) (limits : TreeLimits)
    (kept : IsKept nodes places sessions time zxid limits) where
  -- one more node, beneath a persistent one
  pub kept_with : (id : Id) (path : Path) (n : Node) → has_node nodes path ≡ false →
      IsPersistent (finite.get nodes (parent_of path)) → IsOwner sessions n.owner →
      HasOneEnd n → finite.len nodes < limits.nodes → IsPath path →
      IsKept (finite.insert nodes path n) (finite.insert places id path) sessions time zxid limits
  kept_with id path n free parent owner one few is_path = record {
    lawful = lawful_inserted (tree_of nodes sessions time zxid limits) path n kept.lawful free parent owner
        one few;
    paths = paths_inserted nodes path n kept.paths is_path;
    named = names_with nodes path n places kept.named id free;
  }

  -- a leaf gone
  pub kept_without : (id : Id) (path : Path) → finite.get places id ≡ Some path → path ≢ [] →
      children nodes path ≡ [] →
      IsKept (finite.remove nodes path) (finite.remove places id) sessions time zxid limits
  kept_without id path is below leaf = record {
    lawful = lawful_removed (tree_of nodes sessions time zxid limits) path kept.lawful below leaf;
    paths = paths_removed nodes path kept.paths;
    named = names_without nodes places kept.named id path is;
  }

  -- a node written, by a change that leaves its owner and its term
  pub kept_changed : (path : Path) (f : Node → Node) →
      ((n : Node) → ((f n).owner ≡ n.owner) × ((f n).term ≡ n.term)) →
      IsKept (with_change_at nodes path f) places sessions time zxid limits
  kept_changed path f owner = record {
    lawful = lawful_changed (tree_of nodes sessions time zxid limits) path f owner kept.lawful;
    paths = paths_changed nodes path f kept.paths;
    named = record {
      there = λ a q is. has_node-changed nodes path f q ∙ kept.named.there a q is;
      alone = kept.named.alone;
    };
  }

  -- a node that came has no children
  new_is_leaf : (path : Path) (n : Node) → has_node nodes path ≡ false → path ≢ [] →
      children (finite.insert nodes path n) path ≡ []
  new_is_leaf path n free below =
      sym (names_of_keys path (finite.entries (finite.insert nodes path n)))
      ∙ none_of_map paths_total same_path (λ (e : Path × Node). child_name path e.0)
      (finite.insert nodes path n)
      (λ q x is. by q (get-inserted paths_total same_path nodes path n q x is) (child_name path q)
      refl)
    where
      by : (q : Path) {x : Node} →
          ((q ≡ path) × (n ≡ x)) ⊎ ((q ≢ path) × (finite.get nodes q ≡ Some x)) →
          (o : Option (List ℕ)) → child_name path q ≡ o → o ≡ None
      by q which None e = refl
      by q (inl new) (Some name) e =
          absurd (parent_is_other path below
          (ap parent_of (sym new.0) ∙ parent_of_child path q name e))
      by q {x} (inr old) (Some name) e =
          let above =
          subst (λ y. IsPersistent (finite.get nodes y)) (parent_of_child path q name e)
          (kept.lawful.parents q (is_there _ x old.1)) in
          absurd (not_both nodes path (is_there _ above.0 above.1) free)

  -- so it can go
  pub can_go : (held : Held) (id : Id) (path : Path) (n : Node) → finite.get held id ≡ None →
      has_node nodes path ≡ false → path ≢ [] →
      CanGo (parts_with (record { nodes = nodes; places = places; held = held }) id path n) id
  can_go held id path n unheld free below = record {
    path = path;
    node = n;
    named = get-insert-here id_cmp_total id_cmp_same places id path;
    found = get-insert-here paths_total same_path nodes path n;
    below_root = below;
    leaf = new_is_leaf path n free below;
    unheld = unheld;
  }

  -- a node that went can come back
  pub can_come_back : (held : Held) (owners : Owners) (id over : Id) (path : Path) (n : Node) →
      AreOwners owners sessions → finite.get nodes path ≡ Some n → path ≢ [] →
      finite.get places id ≡ Some path → finite.get places over ≡ Some (parent_of path) →
      CanComeBack owners
      (parts_without (record { nodes = nodes; places = places; held = held }) id path n) id over
  can_come_back held owners id over path n same found below named upper =
      let other : over ≢ id = λ e.
      parent_is_other path below
      (same_some (parent_of path) path (sym upper ∙ ap (finite.get places) e ∙ named)) in
      let above = kept.lawful.parents path (is_there _ n found) in
      record {
        taken = (path, n);
        held = get-insert-here id_cmp_total id_cmp_same held id (path, n);
        below_root = below;
        free = ap is_some (get-remove-here paths_total same_path nodes path);
        parent = ap is_some
            (get-remove-elsewhere paths_total same_path nodes path (parent_of path)
            (parent_is_other path below)) ∙ is_there _ above.0 above.1;
        under = get-remove-elsewhere id_cmp_total id_cmp_same places id over other ∙ upper;
        owner = by (kept.lawful.owners path n found);
      }
    where
      by : IsOwner sessions n.owner → (n.owner ≡ 0) ⊎ IsSome (finite.get owners n.owner)
      by (inl nobody) = inl nobody
      by (inr lives) = inr (same n.owner ∙ lives)

-- an Id that has a position is not held
pub apart_with : (places : Places) (held : Held) (id : Id) (path : Path) →
    finite.get held id ≡ None →
    ((a : Id) (q : Path) → finite.get places a ≡ Some q → finite.get held a ≡ None) →
    (a : Id) (q : Path) → finite.get (finite.insert places id path) a ≡ Some q →
    finite.get held a ≡ None
apart_with places held id path unheld apart a q is =
    by (get-inserted id_cmp_total id_cmp_same places id path a q is)
  where
    by : ((a ≡ id) × (path ≡ q)) ⊎ ((a ≢ id) × (finite.get places a ≡ Some q)) →
        finite.get held a ≡ None
    by (inl new) = ap (finite.get held) new.0 ∙ unheld
    by (inr old) = apart a q old.1

pub apart_without : (places : Places) (held : Held) (id : Id) (taken : Path × Node) →
    ((a : Id) (q : Path) → finite.get places a ≡ Some q → finite.get held a ≡ None) →
    (a : Id) (q : Path) → finite.get (finite.remove places id) a ≡ Some q →
    finite.get (finite.insert held id taken) a ≡ None
apart_without places held id taken apart a q is =
    let old = get-removed id_cmp_total id_cmp_same places id a q is in
    get-insert-elsewhere id_cmp_total id_cmp_same held id taken a old.0 ∙ apart a q old.1
