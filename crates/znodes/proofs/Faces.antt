-- What a row is but for its lists and its links, and what the calls leave of rows.
use Rattle.std.proofs.Common.{◌≡◌, ◌≢◌, ◌⊎◌, inl, inr, ℕ, true, false, cond, Option, Some, None, refl, sym, ap, ◌∙◌}
use Rattle.std.specs.Option.{option_map, option_map_or, option_and_then}
use Rattle.std.specs.FinMap.{get, insert}
use Rattle.zslots.specs.declared.id.Id.{Id}
use Rattle.zslots.specs.declared.linked.Links.{Links}
use Rattle.zslots.specs.declared.list.List.{List as IdList}
use Rattle.zslots.specs.SlotsView.{Items}
use Rattle.zslots.specs.Links.{with_front, without}
use Rattle.zslots.specs.Lists.{first_id, list_with_front, list_without}
use Rattle.zslots.proofs.Maps.{same_or_other, get-insert-here, get-insert-elsewhere}
use Rattle.zslots.proofs.ListMoves.{parts-kept}
use Rattle.ztree.specs.declared.node.Node.{Node}
use Rattle.ztree.specs.Tree.{Path}
use Rattle.ztree.proofs.Maps.{same_some}
use Rattle.znodes.specs.declared.row.Row.{Row}
use Rattle.znodes.specs.support.OwnerLists.{somebody}
use Rattle.znodes.specs.support.Rows.{Key, above, sibling_links, fellow_links}
use Rattle.znodes.specs.support.Linking.{with_siblings, with_fellows, with_row_at, with_children, with_child, without_child, with_owned, without_owned}

abbrev pub Face : Type 0
Face = Path × (Node × Option Key)

abbrev pub face : Row → Face
face r = (r.path, (r.node, r.key))

-- in whose lists a row of this face is
abbrev pub parent_face : Face → Option Path
parent_face f = cond (option_map_or (λ (_ : Key). false) f.1.1 true) (above f.0) None

abbrev pub owner_face : Face → Option ℕ
owner_face f = cond (option_map_or (λ (_ : Key). false) f.1.1 true) (somebody f.1.0.owner) None

-- what a part alone determines
pub by-part : {F X : Type 0} (part : Row → F) (h : F → Option X) (o t : Option Row) → option_map part o ≡ option_map part t → option_and_then (λ r. h (part r)) o ≡ option_and_then (λ r. h (part r)) t
by-part part h None None e = refl
by-part part h (Some x) (Some y) e = ap h (same_some (part x) (part y) e)
by-part part h None (Some y) e = cc
by-part part h (Some x) None e = cc

-- what a face alone determines
pub by-face : {X : Type 0} (h : Face → Option X) (o t : Option Row) → option_map face o ≡ option_map face t → option_and_then (λ r. h (face r)) o ≡ option_and_then (λ r. h (face r)) t
by-face h o t e = by-part face h o t e

pub face-at : {X : Type 0} (h : Face → Option X) (o : Option Row) (f : Face) → option_map face o ≡ Some f → option_and_then (λ r. h (face r)) o ≡ h f
face-at h None f e = cc
face-at h (Some x) f e = ap h (same_some (face x) f e)

-- a row with a face
pub row-with : (o : Option Row) (f : Face) → option_map face o ≡ Some f → (r : Row) × (o ≡ Some r) × (r.path ≡ f.0) × (r.node ≡ f.1.0) × (r.key ≡ f.1.1)
row-with None f e = cc
row-with (Some r) f e =
    let same = same_some (face r) f e in
    (r, refl, ap (λ (g : Face). g.0) same, ap (λ (g : Face). g.1.0) same, ap (λ (g : Face). g.1.1) same)

pub part-there : {X : Type 0} (part : Row → X) (o t : Option Row) (x : Row) → option_map part o ≡ option_map part t → t ≡ Some x → (y : Row) × (o ≡ Some y) × (part y ≡ part x)
part-there part None t x e is = let bad : None ≡ Some (part x) = e ∙ ap (option_map part) is in cc
part-there part (Some y) t x e is = (y, refl, same_some (part y) (part x) (e ∙ ap (option_map part) is))

-- one row changed
module _ (m : Items Row) (id : Id) (f : Row → Row) where
  pub at-here : get (with_row_at m id f) id ≡ option_map f (get m id)
  at-here = by (get m id) refl
    where
      by : (o : Option Row) → get m id ≡ o → get (option_map_or (λ r. insert m id (f r)) o m) id ≡ option_map f o
      by None e = e
      by (Some r) e = get-insert-here m id (f r)

  pub at-elsewhere : (q : Id) → q ≢ id → get (with_row_at m id f) q ≡ get m q
  at-elsewhere q other = by (get m id)
    where
      by : (o : Option Row) → get (option_map_or (λ r. insert m id (f r)) o m) q ≡ get m q
      by None = refl
      by (Some r) = get-insert-elsewhere m id (f r) q other

  -- leaves each part that the change leaves
  pub at-kept : {X : Type 0} (part : Row → X) → ((r : Row) → part (f r) ≡ part r) → (q : Id) → option_map part (get (with_row_at m id f) q) ≡ option_map part (get m q)
  at-kept part leaves q = by (same_or_other q id)
    where
      same : (o : Option Row) → option_map part (option_map f o) ≡ option_map part o
      same None = refl
      same (Some r) = ap Some (leaves r)

      by : (q ≡ id) ⊎ (q ≢ id) → option_map part (get (with_row_at m id f) q) ≡ option_map part (get m q)
      by (inl is) =
          ap (λ k. option_map part (get (with_row_at m id f) k)) is ∙ ap (option_map part) at-here ∙ same (get m id)
          ∙ ap (λ k. option_map part (get m k)) (sym is)
      by (inr other) = ap (option_map part) (at-elsewhere q other)

-- a part that neither the links among siblings nor the list of children is of
module _ {X : Type 0} (part : Row → X) (links : (r : Row) (to : Links) → part (with_siblings r to) ≡ part r) (lists : (r : Row) (list : IdList 0) → part (record r { children = list }) ≡ part r) where
  pub child-kept : (m : Items Row) (parent : Option Id) (id q : Id) → option_map part (get (with_child m parent id) q) ≡ option_map part (get m q)
  child-kept m None id q = refl
  child-kept m (Some p) id q = by (get m p)
    where
      by : (o : Option Row) → option_map part (get (option_map_or (λ r. with_children (with_front sibling_links with_siblings m (first_id r.children) id) p (list_with_front r.children id)) o m) q) ≡ option_map part (get m q)
      by None = refl
      by (Some r) =
          at-kept (with_front sibling_links with_siblings m (first_id r.children) id) p (λ x. record x { children = list_with_front r.children id }) part (λ x. lists x (list_with_front r.children id)) q
          ∙ (parts-kept sibling_links with_siblings (λ _ _. refl) part links m (first_id r.children) id q).0

  pub unchild-kept : (m : Items Row) (parent : Option Id) (id q : Id) → option_map part (get (without_child m parent id) q) ≡ option_map part (get m q)
  unchild-kept m None id q = refl
  unchild-kept m (Some p) id q = by (get m p)
    where
      by : (o : Option Row) → option_map part (get (option_map_or (λ r. with_children (without sibling_links with_siblings m id) p (list_without sibling_links m r.children id)) o m) q) ≡ option_map part (get m q)
      by None = refl
      by (Some r) =
          at-kept (without sibling_links with_siblings m id) p (λ x. record x { children = list_without sibling_links m r.children id }) part (λ x. lists x (list_without sibling_links m r.children id)) q
          ∙ (parts-kept sibling_links with_siblings (λ _ _. refl) part links m None id q).1

-- a part that the links among an owner's nodes are not of
module _ {X : Type 0} (part : Row → X) (links : (r : Row) (to : Links) → part (with_fellows r to) ≡ part r) where
  pub owned-kept : (m : Items Row) (list : Option (IdList 1)) (id q : Id) → option_map part (get (with_owned m list id) q) ≡ option_map part (get m q)
  owned-kept m None id q = refl
  owned-kept m (Some list) id q = (parts-kept fellow_links with_fellows (λ _ _. refl) part links m (first_id list) id q).0

  pub unowned-kept : (m : Items Row) (list : Option (IdList 1)) (id q : Id) → option_map part (get (without_owned m list id) q) ≡ option_map part (get m q)
  unowned-kept m None id q = refl
  unowned-kept m (Some list) id q = (parts-kept fellow_links with_fellows (λ _ _. refl) part links m None id q).1
