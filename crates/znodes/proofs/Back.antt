-- The rows once one is put back into its lists, with its key out of it and its path in the index.
use Rattle.std.proofs.Common.{◌≡◌, ◌≢◌, ◌⊎◌, inl, inr, ℕ, false, true, cond, [], Option, Some, None, IsSome, refl, sym, ap, ◌∙◌}
use mathlib.Core.Path.{subst}
use Rattle.std.specs.Option.{option_map, option_map_or, option_and_then}
use Rattle.std.specs.FinMap as finite
use Rattle.std.specs.FinMap.{get, insert}
use Rattle.zslots.specs.declared.id.Id.{Id}
use Rattle.zslots.specs.declared.list.List.{List as IdList}
use Rattle.zslots.specs.SlotsView.{Items}
use Rattle.zslots.specs.Links.{with_front}
use Rattle.zslots.specs.Lists.{list_with_front}
use Rattle.zslots.specs.Families.{HasFamilies, ChangesHead, key_at}
use Rattle.zslots.proofs.Items.{some_there}
use Rattle.zslots.proofs.Maps.{same_or_other}
use Rattle.zslots.proofs.Families.{families-kept, families-pushed}
use Rattle.znodes.specs.index.IndexView.{IdsByPath}
use Rattle.ztree.specs.Tree.{parent_of}
use Rattle.ztree.proofs.Maps.{none_some}
use Rattle.znodes.specs.declared.row.Row.{Row}
use Rattle.znodes.specs.support.OwnerLists.{OwnerLists, somebody, list_of}
use Rattle.znodes.specs.support.Rows.{Key, IsLinked, above, parent_key, owner_key, owned_by, fellow_links}
use Rattle.znodes.specs.support.Linking.{with_fellows, with_key, with_child, with_owned, owners_with}
use Rattle.znodes.proofs.OwnerMaps.{nobody_is_none, somebody-same}
use Rattle.znodes.proofs.Faces.{Face, face, parent_face, owner_face, by-face, face-at, part-there, at-here, at-elsewhere, at-kept, child-kept, owned-kept}
use Rattle.znodes.proofs.Few.{others-many}
use Rattle.znodes.proofs.Heads.{owned-changed}
use Rattle.znodes.proofs.Linked.{above-path, owned-are}

-- the list of an owner that is no one, or is known
pub known-list : (owners : OwnerLists) (owner : ℕ) → (owner ≡ 0) ⊎ IsSome (get owners owner) → ((list_of owners owner ≡ None) × (somebody owner ≡ None)) ⊎ ((list : IdList 1) × (list_of owners owner ≡ Some list) × (get owners owner ≡ Some list) × (somebody owner ≡ Some owner))
known-list owners owner known = by (somebody owner) refl known
  where
    by : (o : Option ℕ) → somebody owner ≡ o → (owner ≡ 0) ⊎ IsSome (get owners owner) → ((list_of owners owner ≡ None) × (somebody owner ≡ None)) ⊎ ((list : IdList 1) × (list_of owners owner ≡ Some list) × (get owners owner ≡ Some list) × (somebody owner ≡ Some owner))
    by None is k = inl (ap (option_and_then (get owners)) is, is)
    by (Some o) is (inl zero_owner) = absurd (none_some o (sym (nobody_is_none owner zero_owner) ∙ is))
    by (Some o) is (inr some) =
        let list = some_there (get owners owner) some in
        let own = is ∙ ap Some (sym (somebody-same owner o is)) in
        inr (list.0, ap (option_and_then (get owners)) own ∙ list.1, list.1, own)

module _ (m : Items Row) (ids : IdsByPath) (owners : OwnerLists) (id : Id) (r : Row) where
  -- before the children of the node above
  abbrev pub put : Items Row
  put = with_child m (get ids (parent_of r.path)) id

  abbrev pub back_with : Option (IdList 1) → Items Row
  back_with list = with_key (with_owned put list id) id None

  -- before the others of its owner too
  abbrev pub back : Items Row
  back = back_with (list_of owners r.node.owner)

  abbrev pub more : IdsByPath
  more = insert ids r.path id

  abbrev pub owners_with_list : Option (IdList 1) → OwnerLists
  owners_with_list list = owners_with owners r.node.owner list id

  abbrev pub owners_back : OwnerLists
  owners_back = owners_with_list (list_of owners r.node.owner)

  abbrev pub after : Face
  after = (r.path, (r.node, None))

  module _ (key : Key) (there : get m id ≡ Some r) (gone : r.key ≡ Some key) where
    pub parent-before : key_at parent_key m id ≡ None
    parent-before = ap (option_and_then parent_key) there ∙ ap (λ (k : Option Key). cond (option_map_or (λ (_ : Key). false) k true) (above r.path) None) gone

    pub owner-before : key_at owner_key m id ≡ None
    owner-before = ap (option_and_then owner_key) there ∙ ap (λ (k : Option Key). cond (option_map_or (λ (_ : Key). false) k true) (somebody r.node.owner) None) gone

  module _ (there : get m id ≡ Some r) (list : Option (IdList 1)) where
    reported : (o : Option Row) → option_map face (option_map (λ (x : Row). record x { key = None }) o) ≡ option_map (λ (x : Row). (x.path, (x.node, None))) o
    reported None = refl
    reported (Some x) = refl

    pub face-here : option_map face (get (back_with list) id) ≡ Some after
    face-here =
        let part : Row → Face = λ x. (x.path, (x.node, None)) in
        ap (option_map face) (at-here (with_owned put list id) id (λ x. record x { key = None })) ∙ reported (get (with_owned put list id) id)
        ∙ owned-kept part (λ _ _. refl) put list id id ∙ child-kept part (λ _ _. refl) (λ _ _. refl) m (get ids (parent_of r.path)) id id
        ∙ ap (option_map part) there

    pub face-elsewhere : (q : Id) → q ≢ id → option_map face (get (back_with list) q) ≡ option_map face (get m q)
    face-elsewhere q other =
        ap (option_map face) (at-elsewhere (with_owned put list id) id (λ x. record x { key = None }) q other)
        ∙ owned-kept face (λ _ _. refl) put list id q ∙ child-kept face (λ _ _. refl) (λ _ _. refl) m (get ids (parent_of r.path)) id q

    -- there are as many rows
    pub rows-back : finite.len (back_with list) ≡ finite.len m
    rows-back = others-many m (back_with list) id r after there face-here face-elsewhere

    pub parent-now : r.path ≢ [] → key_at parent_key (back_with list) id ≡ Some (parent_of r.path)
    parent-now below = face-at parent_face (get (back_with list) id) after face-here ∙ above-path r.path below

    pub parent-elsewhere : (q : Id) → q ≢ id → key_at parent_key (back_with list) q ≡ key_at parent_key m q
    parent-elsewhere q other = by-face parent_face (get (back_with list) q) (get m q) (face-elsewhere q other)

    owner-now : key_at owner_key (back_with list) id ≡ somebody r.node.owner
    owner-now = face-at owner_face (get (back_with list) id) after face-here

    owner-elsewhere : (q : Id) → q ≢ id → key_at owner_key (back_with list) q ≡ key_at owner_key m q
    owner-elsewhere q other = by-face owner_face (get (back_with list) q) (get m q) (face-elsewhere q other)

    fellows-kept : (q : Id) → option_map fellow_links (get (back_with list) q) ≡ option_map fellow_links (get (with_owned put list id) q)
    fellows-kept q = at-kept (with_owned put list id) id (λ x. record x { key = None }) fellow_links (λ _. refl) q

    fellows-put : (q : Id) → option_map fellow_links (get put q) ≡ option_map fellow_links (get m q)
    fellows-put q = child-kept fellow_links (λ _ _. refl) (λ _ _. refl) m (get ids (parent_of r.path)) id q

    -- the key that it stored, when it is in its lists
    pub key-kept : option_and_then (λ (x : Row). x.key) (get (with_owned put list id) id) ≡ r.key
    key-kept =
        let same = owned-kept face (λ _ _. refl) put list id id ∙ child-kept face (λ _ _. refl) (λ _ _. refl) m (get ids (parent_of r.path)) id id in
        by-face (λ f. f.1.1) (get (with_owned put list id) id) (get m id) same ∙ ap (option_and_then (λ (x : Row). x.key)) there

  -- the owner's list
  module _ (key : Key) (kept : IsLinked m ids owners) (there : get m id ≡ Some r) (gone : r.key ≡ Some key) where
    owned-nobody : somebody r.node.owner ≡ None → HasFamilies {L = 1} fellow_links owner_key (back_with None) (owned_by owners)
    owned-nobody nobody =
        families-kept {L = 1} fellow_links m (back_with None) (key_at owner_key m) (key_at owner_key (back_with None)) (owned_by owners) (owned_by owners)
        (λ q k e. fellows-kept there None q ∙ fellows-put there None q) (λ q. by q (same_or_other q id)) (λ k. refl) kept.owned
      where
        by : (q : Id) → (q ≡ id) ⊎ (q ≢ id) → key_at owner_key (back_with None) q ≡ key_at owner_key m q
        by q (inl is) = ap (key_at owner_key (back_with None)) is ∙ owner-now there None ∙ nobody ∙ sym (owner-before key there gone) ∙ ap (key_at owner_key m) (sym is)
        by q (inr other) = owner-elsewhere there None q other

    put-there : IsSome (get put id)
    put-there =
        let row = part-there face (get put id) (get m id) r (child-kept face (λ _ _. refl) (λ _ _. refl) m (get ids (parent_of r.path)) id id) there in
        subst IsSome (sym row.1) refl

    owned-some : (list : IdList 1) → get owners r.node.owner ≡ Some list → somebody r.node.owner ≡ Some r.node.owner → HasFamilies {L = 1} fellow_links owner_key (back_with (Some list)) (owned_by (owners_with_list (Some list)))
    owned-some list has own =
        let old = families-kept {L = 1} fellow_links m put (key_at owner_key m) (key_at owner_key m) (owned_by owners) (owned_by owners) (λ q k e. fellows-put there None q) (λ q. refl) (λ k. refl) kept.owned in
        let are = owned-are m ids owners kept r.node.owner list has in
        let changes = subst (λ l. ChangesHead (owned_by owners) (owned_by (owners_with_list (Some list))) r.node.owner (list_with_front l id)) (sym are) (owned-changed owners r.node.owner (list_with_front list id)) in
        let written = subst (λ (l : IdList 1). (q : Id) → option_map fellow_links (get (back_with (Some list)) q) ≡ option_map fellow_links (get (with_front fellow_links with_fellows put l.first id) q)) (sym are) (fellows-kept there (Some list)) in
        families-pushed {L = 1} fellow_links with_fellows (λ _ _. refl) put (back_with (Some list)) (key_at owner_key m) (key_at owner_key (back_with (Some list))) (owned_by owners) (owned_by (owners_with_list (Some list))) r.node.owner id put-there (owner-before key there gone)
        (owner-now there (Some list) ∙ own) (owner-elsewhere there (Some list)) written changes old

    pub owned-back : (r.node.owner ≡ 0) ⊎ IsSome (get owners r.node.owner) → HasFamilies {L = 1} fellow_links owner_key back (owned_by owners_back)
    owned-back known = by (known-list owners r.node.owner known)
      where
        by : ((list_of owners r.node.owner ≡ None) × (somebody r.node.owner ≡ None)) ⊎ ((list : IdList 1) × (list_of owners r.node.owner ≡ Some list) × (get owners r.node.owner ≡ Some list) × (somebody r.node.owner ≡ Some r.node.owner)) → HasFamilies {L = 1} fellow_links owner_key back (owned_by owners_back)
        by (inl n) = subst (λ l. HasFamilies {L = 1} fellow_links owner_key (back_with l) (owned_by (owners_with_list l))) (sym n.0) (owned-nobody n.1)
        by (inr s) = subst (λ l. HasFamilies {L = 1} fellow_links owner_key (back_with l) (owned_by (owners_with_list l))) (sym s.1) (owned-some s.0 s.2 s.3)
