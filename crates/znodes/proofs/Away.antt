-- The rows once one is taken out of its lists, with its key in it and its path out of the index.
use Rattle.std.proofs.Common.{◌≡◌, ◌≢◌, ◌⊎◌, inl, inr, Option, Some, None, refl, sym, ap, ◌∙◌}
use mathlib.Core.Path.{subst}
use Rattle.std.specs.Option.{option_map}
use Rattle.std.specs.FinMap as finite
use Rattle.std.specs.FinMap.{get, remove}
use Rattle.zslots.specs.declared.id.Id.{Id}
use Rattle.zslots.specs.declared.list.List.{List as IdList}
use Rattle.zslots.specs.SlotsView.{Items}
use Rattle.zslots.specs.Lists.{list_without}
use Rattle.zslots.specs.Families.{HasFamilies, ChangesHead, key_at}
use Rattle.zslots.proofs.Maps.{same_or_other}
use Rattle.zslots.proofs.Families.{families-kept, families-unlinked}
use Rattle.znodes.specs.index.IndexView.{IdsByPath}
use Rattle.ztree.specs.Tree.{parent_of}
use Rattle.znodes.specs.declared.row.Row.{Row}
use Rattle.znodes.specs.support.OwnerLists.{OwnerLists, list_of}
use Rattle.znodes.specs.support.Rows.{Key, IsLinked, parent_key, owner_key, owned_by, fellow_links}
use Rattle.znodes.specs.support.Linking.{with_fellows, with_key, without_child, without_owned, owners_without}
use Rattle.znodes.proofs.Faces.{Face, face, parent_face, owner_face, by-face, face-at, at-here, at-elsewhere, at-kept, unchild-kept, unowned-kept}
use Rattle.znodes.proofs.Few.{others-many}
use Rattle.znodes.proofs.Heads.{owned-changed}
use Rattle.znodes.proofs.Linked.{owner-list, owned-are}

module _ (m : Items Row) (ids : IdsByPath) (owners : OwnerLists) (id : Id) (r : Row) (key : Key) where
  -- out of the children of the node above
  abbrev pub cut : Items Row
  cut = without_child m (get ids (parent_of r.path)) id

  abbrev pub away_with : Option (IdList 1) → Items Row
  away_with list = with_key (without_owned cut list id) id (Some key)

  -- out of the owner's list too
  abbrev pub away : Items Row
  away = away_with (list_of owners r.node.owner)

  abbrev pub fewer : IdsByPath
  fewer = remove ids r.path

  abbrev pub owners_with_list : Option (IdList 1) → OwnerLists
  owners_with_list list = owners_without cut owners r.node.owner list id

  abbrev pub owners_after : OwnerLists
  owners_after = owners_with_list (list_of owners r.node.owner)

  abbrev pub after : Face
  after = (r.path, (r.node, Some key))

  module _ (there : get m id ≡ Some r) (list : Option (IdList 1)) where
    reported : (o : Option Row) → option_map face (option_map (λ (x : Row). record x { key = Some key }) o) ≡ option_map (λ (x : Row). (x.path, (x.node, Some key))) o
    reported None = refl
    reported (Some x) = refl

    pub face-here : option_map face (get (away_with list) id) ≡ Some after
    face-here =
        let part : Row → Face = λ x. (x.path, (x.node, Some key)) in
        ap (option_map face) (at-here (without_owned cut list id) id (λ x. record x { key = Some key })) ∙ reported (get (without_owned cut list id) id)
        ∙ unowned-kept part (λ _ _. refl) cut list id id ∙ unchild-kept part (λ _ _. refl) (λ _ _. refl) m (get ids (parent_of r.path)) id id
        ∙ ap (option_map part) there

    pub face-elsewhere : (q : Id) → q ≢ id → option_map face (get (away_with list) q) ≡ option_map face (get m q)
    face-elsewhere q other =
        ap (option_map face) (at-elsewhere (without_owned cut list id) id (λ x. record x { key = Some key }) q other)
        ∙ unowned-kept face (λ _ _. refl) cut list id q ∙ unchild-kept face (λ _ _. refl) (λ _ _. refl) m (get ids (parent_of r.path)) id q

    -- there are as many rows
    pub rows-away : finite.len (away_with list) ≡ finite.len m
    rows-away = others-many m (away_with list) id r after there face-here face-elsewhere

    pub parent-none : key_at parent_key (away_with list) id ≡ None
    parent-none = face-at parent_face (get (away_with list) id) after face-here

    pub parent-elsewhere : (q : Id) → q ≢ id → key_at parent_key (away_with list) q ≡ key_at parent_key m q
    parent-elsewhere q other = by-face parent_face (get (away_with list) q) (get m q) (face-elsewhere q other)

    owner-none : key_at owner_key (away_with list) id ≡ None
    owner-none = face-at owner_face (get (away_with list) id) after face-here

    owner-elsewhere : (q : Id) → q ≢ id → key_at owner_key (away_with list) q ≡ key_at owner_key m q
    owner-elsewhere q other = by-face owner_face (get (away_with list) q) (get m q) (face-elsewhere q other)

    fellows-kept : (q : Id) → option_map fellow_links (get (away_with list) q) ≡ option_map fellow_links (get (without_owned cut list id) q)
    fellows-kept q = at-kept (without_owned cut list id) id (λ x. record x { key = Some key }) fellow_links (λ _. refl) q

    fellows-cut : (q : Id) → option_map fellow_links (get cut q) ≡ option_map fellow_links (get m q)
    fellows-cut q = unchild-kept fellow_links (λ _ _. refl) (λ _ _. refl) m (get ids (parent_of r.path)) id q

  -- the owner's list
  module _ (kept : IsLinked m ids owners) (there : get m id ≡ Some r) (live : r.key ≡ None) where
    owned-nobody : key_at owner_key m id ≡ None → HasFamilies {L = 1} fellow_links owner_key (away_with None) (owned_by owners)
    owned-nobody nobody =
        families-kept {L = 1} fellow_links m (away_with None) (key_at owner_key m) (key_at owner_key (away_with None)) (owned_by owners) (owned_by owners)
        (λ q k e. fellows-kept there None q ∙ fellows-cut there None q) (λ q. by q (same_or_other q id)) (λ k. refl) kept.owned
      where
        by : (q : Id) → (q ≡ id) ⊎ (q ≢ id) → key_at owner_key (away_with None) q ≡ key_at owner_key m q
        by q (inl is) = ap (key_at owner_key (away_with None)) is ∙ owner-none there None ∙ sym nobody ∙ ap (key_at owner_key m) (sym is)
        by q (inr other) = owner-elsewhere there None q other

    owned-some : (list : IdList 1) → get owners r.node.owner ≡ Some list → key_at owner_key m id ≡ Some r.node.owner → HasFamilies {L = 1} fellow_links owner_key (away_with (Some list)) (owned_by (owners_with_list (Some list)))
    owned-some list has mine =
        let old = families-kept {L = 1} fellow_links m cut (key_at owner_key m) (key_at owner_key m) (owned_by owners) (owned_by owners) (λ q k e. fellows-cut there None q) (λ q. refl) (λ k. refl) kept.owned in
        let are = owned-are m ids owners kept r.node.owner list has in
        let changes = subst (λ l. ChangesHead (owned_by owners) (owned_by (owners_with_list (Some list))) r.node.owner (list_without fellow_links cut l id)) (sym are) (owned-changed owners r.node.owner (list_without fellow_links cut list id)) in
        families-unlinked {L = 1} fellow_links with_fellows (λ _ _. refl) cut (away_with (Some list)) (key_at owner_key m) (key_at owner_key (away_with (Some list))) (owned_by owners) (owned_by (owners_with_list (Some list))) r.node.owner id mine
        (owner-none there (Some list)) (owner-elsewhere there (Some list)) (fellows-kept there (Some list)) changes old

    pub owned-away : HasFamilies {L = 1} fellow_links owner_key away (owned_by owners_after)
    owned-away = by (owner-list m ids owners kept id r there live)
      where
        by : ((list_of owners r.node.owner ≡ None) × (key_at owner_key m id ≡ None)) ⊎ ((list : IdList 1) × (list_of owners r.node.owner ≡ Some list) × (get owners r.node.owner ≡ Some list) × (key_at owner_key m id ≡ Some r.node.owner)) → HasFamilies {L = 1} fellow_links owner_key away (owned_by owners_after)
        by (inl n) = subst (λ l. HasFamilies {L = 1} fellow_links owner_key (away_with l) (owned_by (owners_with_list l))) (sym n.0) (owned-nobody n.1)
        by (inr s) = subst (λ l. HasFamilies {L = 1} fellow_links owner_key (away_with l) (owned_by (owners_with_list l))) (sym s.1) (owned-some s.0 s.2 s.3)
