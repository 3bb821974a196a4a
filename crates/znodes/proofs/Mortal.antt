-- The list of the nodes that ticks may remove: what each call leaves of it, and that no other list is changed with it.
use Rattle.std.proofs.Common.{◌≡◌, ◌≢◌, ◌⊎◌, inl, inr, ℕ, ◌<◌, ◌≤◌, Bool, true, false, cond, Option, Some, None, IsSome, refl, sym, ap, ◌∙◌, arith}
use mathlib.Core.Path.{subst}
use Rattle.std.specs.Option.{option_map, option_map_or, option_and_then}
use Rattle.std.specs.FinMap as finite
use Rattle.std.specs.FinMap.{get, same_map}
use Rattle.zslots.specs.declared.id.Id.{Id}
use Rattle.zslots.specs.declared.linked.Links.{Links}
use Rattle.zslots.specs.declared.list.List.{List as IdList}
use Rattle.zslots.specs.SlotsView.{Items}
use Rattle.zslots.specs.Links.{with_front, without}
use Rattle.zslots.specs.Lists.{empty_list, first_id, list_with_front, list_without}
use Rattle.zslots.specs.Families.{ChangesHead, key_at}
use Rattle.zslots.proofs.Maps.{id_cmp_total, id_cmp_same, same_or_other}
use Rattle.zslots.proofs.ListMoves.{parts-kept}
use Rattle.zslots.proofs.Families.{families-kept, families-pushed, families-unlinked, family-room}
use Rattle.znodes.specs.index.IndexView.{IdsByPath}
use Rattle.ztree.specs.declared.term.Term.{Term}
use Rattle.ztree.specs.declared.node.Node.{Node}
use Rattle.ztree.specs.Tree.{Path, parent_of}
use Rattle.ztree.specs.Stale.{may_end}
use Rattle.ztree.proofs.Maps.{none_some}
use Rattle.ztree.proofs.Sorted.{paths_total, same_path}
use Rattle.znodes.specs.declared.row.Row.{Row}
use Rattle.znodes.specs.support.OwnerLists.{OwnerLists, list_of}
use Rattle.znodes.specs.support.Rows.{Key, KeepsKey, IsLinked, HasTimed, parent_key, owner_key, timed_by, timed_key, nodes_of, places_of, held_of, children_at, children_of, owned_by, sibling_links, fellow_links, timed_links, node_at}
use Rattle.znodes.specs.support.Linking.{with_timed_links, with_timed, without_timed, timed_with, timed_without, with_node_at}
use Rattle.znodes.proofs.Faces.{Face, face, parent_face, owner_face, by-part, by-face, face-at, part-there, row-with, at-kept, child-kept, unchild-kept, owned-kept, unowned-kept}
use Rattle.znodes.proofs.Views.{get-nodes, places-alike, held-alike, node-alike, through}
use Rattle.znodes.proofs.Heads.{list-kept}
use Rattle.znodes.proofs.Linked.{family-filled}
use Rattle.znodes.proofs.Away as out
use Rattle.znodes.proofs.Back as back
use Rattle.znodes.proofs.Aside.{alike, has_key_other}

-- rows that differ in the links of this list alone show the same
module _ (m n : Items Row) (ids : IdsByPath) (faces : (q : Id) → option_map face (get n q) ≡ option_map face (get m q)) where
  pub nodes-same : nodes_of n ids ≡ nodes_of m ids
  nodes-same =
      same_map paths_total same_path _ _ (λ q. get-nodes n ids q ∙ through (node_at n) (node_at m) (get ids q) (λ i e. node-alike m n i (faces i)) ∙ sym (get-nodes m ids q))

  pub places-same : places_of n ≡ places_of m
  places-same = same_map id_cmp_total id_cmp_same _ _ (λ q. places-alike m n q (faces q))

  pub held-same : held_of n ≡ held_of m
  held-same = same_map id_cmp_total id_cmp_same _ _ (λ q. held-alike m n q (faces q))

  -- and the other lists are as they were
  module _ (owners : OwnerLists) (kept : IsLinked m ids owners) (children : (q : Id) → option_map (λ (x : Row). x.children) (get n q) ≡ option_map (λ (x : Row). x.children) (get m q)) (siblings : (q : Id) → option_map sibling_links (get n q) ≡ option_map sibling_links (get m q)) (fellows : (q : Id) → option_map fellow_links (get n q) ≡ option_map fellow_links (get m q)) where
    lists : (q : Id) → children_at n q ≡ children_at m q
    lists q = list-kept m n q (children q)

    heads : (k : Path) → children_of n ids k ≡ children_of m ids k
    heads k = by (get ids k)
      where
        by : (o : Option Id) → option_map_or (children_at n) o empty_list ≡ option_map_or (children_at m) o empty_list
        by None = refl
        by (Some i) = lists i

    before : (i : Id) (x : Row) → get n i ≡ Some x → (y : Row) × (get m i ≡ Some y) × (face y ≡ face x)
    before i x e = part-there face (get m i) (get n i) x (sym (faces i)) e

    list-at : (w : Items Row) (i : Id) (x : Row) → get w i ≡ Some x → children_at w i ≡ x.children
    list-at w i x e = ap (λ o. option_map_or (λ (y : Row). y.children) o empty_list) e

    named-same : (path : Path) (i : Id) → get ids path ≡ Some i → (x : Row) × (get n i ≡ Some x) × (x.path ≡ path) × (x.key ≡ None)
    named-same path i e =
        let was = kept.named path i e in
        let now = row-with (get n i) (face was.0) (faces i ∙ ap (option_map face) was.1) in
        (now.0, now.1, now.2 ∙ was.2, now.4 ∙ was.3)

    keyed-same : (i : Id) (x : Row) → get n i ≡ Some x → KeepsKey x
    keyed-same i x e = λ key has.
        let was = before i x e in
        let keys = kept.keyed i was.0 was.1 key (ap (λ (f : Face). f.1.1) was.2 ∙ has) in
        (keys.0 ∙ ap (λ (f : Face). f.0) was.2, sym (list-at n i x e) ∙ lists i ∙ list-at m i was.0 was.1 ∙ keys.1)

    pub linked-same : IsLinked n ids owners
    linked-same = record {
      named = named-same;
      found = λ i x e none.
          let was = before i x e in
          ap (get ids) (ap (λ (f : Face). f.0) (sym was.2)) ∙ kept.found i was.0 was.1 (ap (λ (f : Face). f.1.1) was.2 ∙ none);
      keyed = keyed-same;
      children =
          families-kept {L = 0} sibling_links m n (key_at parent_key m) (key_at parent_key n) (children_of m ids) (children_of n ids)
          (λ q k e. siblings q) (λ q. by-face parent_face (get n q) (get m q) (faces q)) heads kept.children;
      owned =
          families-kept {L = 1} fellow_links m n (key_at owner_key m) (key_at owner_key n) (owned_by owners) (owned_by owners)
          (λ q k e. fellows q) (λ q. by-face owner_face (get n q) (get m q) (faces q)) (λ k. refl) kept.owned;
    }

-- a part that the links of this list are not of
module _ {X : Type 0} (part : Row → X) (leaves : (r : Row) (to : Links) → part (with_timed_links r to) ≡ part r) where
  pub timed-kept : (m : Items Row) (list : IdList 2) (ends : Bool) (id q : Id) → option_map part (get (with_timed m list ends id) q) ≡ option_map part (get m q)
  timed-kept m list ends id q = by ends
    where
      by : (b : Bool) → option_map part (get (cond b (with_front timed_links with_timed_links m (first_id list) id) m) q) ≡ option_map part (get m q)
      by false = refl
      by true = (parts-kept timed_links with_timed_links (λ _ _. refl) part leaves m (first_id list) id q).0

  pub untimed-kept : (m : Items Row) (ends : Bool) (id q : Id) → option_map part (get (without_timed m ends id) q) ≡ option_map part (get m q)
  untimed-kept m ends id q = by ends
    where
      by : (b : Bool) → option_map part (get (cond b (without timed_links with_timed_links m id) m) q) ≡ option_map part (get m q)
      by false = refl
      by true = (parts-kept timed_links with_timed_links (λ _ _. refl) part leaves m None id q).1

-- the list's key, as faces report it
abbrev pub timed_face : Face → Option (Unit {0})
timed_face f = cond (option_map_or (λ (_ : Key). false) f.1.1 true) (timed_by (may_end f.1.0.term)) None

one_list : (list to : IdList 2) → ChangesHead {K = Unit {0}} (λ _. list) (λ _. to) tt to
one_list list to q = inl (refl, refl)

pub no_end : (ends : Bool) → ends ≡ false → timed_by ends ≡ None
no_end ends e = ap timed_by e

pub an_end : (ends : Bool) → ends ≡ true → timed_by ends ≡ Some tt
an_end ends e = ap timed_by e

-- a live row is taken away
module _ (m : Items Row) (ids : IdsByPath) (owners : OwnerLists) (timed : IdList 2) (id : Id) (r : Row) (key : Key) (kept : HasTimed m timed) (there : get m id ≡ Some r) (live : r.key ≡ None) where
  abbrev gone : Items Row
  gone = out.away m ids owners id r key

  abbrev list : Option (IdList 1)
  list = list_of owners r.node.owner

  gone-links : (q : Id) → option_map timed_links (get gone q) ≡ option_map timed_links (get m q)
  gone-links q =
      at-kept _ id (λ x. record x { key = Some key }) timed_links (λ _. refl) q
      ∙ unowned-kept timed_links (λ _ _. refl) (out.cut m ids owners id r key) list id q
      ∙ unchild-kept timed_links (λ _ _. refl) (λ _ _. refl) m (get ids (parent_of r.path)) id q

  its : key_at timed_key m id ≡ timed_by (may_end r.node.term)
  its = ap (option_and_then timed_key) there ∙ ap (λ (k : Option Key). cond (option_map_or (λ (_ : Key). false) k true) (timed_by (may_end r.node.term)) None) live

  gone-none : key_at timed_key gone id ≡ None
  gone-none = face-at timed_face (get gone id) (out.after m ids owners id r key) (out.face-here m ids owners id r key there list)

  gone-others : (q : Id) → q ≢ id → key_at timed_key gone q ≡ key_at timed_key m q
  gone-others q other = by-face timed_face (get gone q) (get m q) (out.face-elsewhere m ids owners id r key there list q other)

  abbrev unlisted : Items Row
  unlisted = without timed_links with_timed_links gone id

  unlisted-keys : (q : Id) → key_at timed_key unlisted q ≡ key_at timed_key gone q
  unlisted-keys q = by-face timed_face (get unlisted q) (get gone q) (parts-kept timed_links with_timed_links (λ _ _. refl) face (λ _ _. refl) gone None id q).1

  away-by : (b : Bool) → may_end r.node.term ≡ b → HasTimed (cond b unlisted gone) (cond b (list_without timed_links gone timed id) timed)
  away-by false none =
      families-kept {L = 2} timed_links m gone (key_at timed_key m) (key_at timed_key gone) (λ _. timed) (λ _. timed) (λ q k e. gone-links q) (λ q. same q (same_or_other q id)) (λ k. refl) kept
    where
      same : (q : Id) → (q ≡ id) ⊎ (q ≢ id) → key_at timed_key gone q ≡ key_at timed_key m q
      same q (inl is) = ap (key_at timed_key gone) is ∙ gone-none ∙ sym (its ∙ no_end (may_end r.node.term) none) ∙ ap (key_at timed_key m) (sym is)
      same q (inr other) = gone-others q other
  away-by true some =
      let between =
      families-kept {L = 2} timed_links m gone (key_at timed_key m) (key_at timed_key m) (λ _. timed) (λ _. timed) (λ q k e. gone-links q) (λ q. refl) (λ k. refl) kept in
      families-unlinked {L = 2} timed_links with_timed_links (λ _ _. refl) gone unlisted (key_at timed_key m) (key_at timed_key unlisted) (λ _. timed) (λ _. list_without timed_links gone timed id) tt id
      (its ∙ an_end (may_end r.node.term) some) (unlisted-keys id ∙ gone-none) (λ q other. unlisted-keys q ∙ gone-others q other) (λ q. refl) (one_list timed (list_without timed_links gone timed id)) between

  pub mortal-away : HasTimed (without_timed gone (may_end r.node.term) id) (timed_without gone timed (may_end r.node.term) id)
  mortal-away = away-by (may_end r.node.term) refl

  -- it is in the list
  pub timed-counted : may_end r.node.term ≡ true → 0 < timed.len
  timed-counted some = family-filled {L = 2} timed_links m (key_at timed_key m) timed tt (kept tt) id (its ∙ an_end (may_end r.node.term) some)

-- a row that was taken away comes back
module _ (m : Items Row) (ids : IdsByPath) (owners : OwnerLists) (timed : IdList 2) (id : Id) (r : Row) (key : Key) (kept : HasTimed m timed) (there : get m id ≡ Some r) (taken : r.key ≡ Some key) where
  abbrev here : Items Row
  here = back.back m ids owners id r

  abbrev its_list : Option (IdList 1)
  its_list = list_of owners r.node.owner

  here-links : (q : Id) → option_map timed_links (get here q) ≡ option_map timed_links (get m q)
  here-links q =
      at-kept _ id (λ x. record x { key = None }) timed_links (λ _. refl) q
      ∙ owned-kept timed_links (λ _ _. refl) (back.put m ids owners id r) its_list id q
      ∙ child-kept timed_links (λ _ _. refl) (λ _ _. refl) m (get ids (parent_of r.path)) id q

  none-yet : key_at timed_key m id ≡ None
  none-yet = ap (option_and_then timed_key) there ∙ ap (λ (k : Option Key). cond (option_map_or (λ (_ : Key). false) k true) (timed_by (may_end r.node.term)) None) taken

  here-its : key_at timed_key here id ≡ timed_by (may_end r.node.term)
  here-its = face-at timed_face (get here id) (back.after m ids owners id r) (back.face-here m ids owners id r there its_list)

  here-others : (q : Id) → q ≢ id → key_at timed_key here q ≡ key_at timed_key m q
  here-others q other = by-face timed_face (get here q) (get m q) (back.face-elsewhere m ids owners id r there its_list q other)

  here-there : IsSome (get here id)
  here-there =
      let row = row-with (get here id) (back.after m ids owners id r) (back.face-here m ids owners id r there its_list) in
      subst IsSome (sym row.1) refl

  abbrev listed : Items Row
  listed = with_front timed_links with_timed_links here (first_id timed) id

  listed-keys : (q : Id) → key_at timed_key listed q ≡ key_at timed_key here q
  listed-keys q = by-face timed_face (get listed q) (get here q) (parts-kept timed_links with_timed_links (λ _ _. refl) face (λ _ _. refl) here (first_id timed) id q).0

  back-by : (b : Bool) → may_end r.node.term ≡ b → HasTimed (cond b listed here) (cond b (list_with_front timed id) timed)
  back-by false none =
      families-kept {L = 2} timed_links m here (key_at timed_key m) (key_at timed_key here) (λ _. timed) (λ _. timed) (λ q k e. here-links q) (λ q. same q (same_or_other q id)) (λ k. refl) kept
    where
      same : (q : Id) → (q ≡ id) ⊎ (q ≢ id) → key_at timed_key here q ≡ key_at timed_key m q
      same q (inl is) = ap (key_at timed_key here) is ∙ here-its ∙ no_end (may_end r.node.term) none ∙ sym none-yet ∙ ap (key_at timed_key m) (sym is)
      same q (inr other) = here-others q other
  back-by true some =
      let between =
      families-kept {L = 2} timed_links m here (key_at timed_key m) (key_at timed_key m) (λ _. timed) (λ _. timed) (λ q k e. here-links q) (λ q. refl) (λ k. refl) kept in
      families-pushed {L = 2} timed_links with_timed_links (λ _ _. refl) here listed (key_at timed_key m) (key_at timed_key listed) (λ _. timed) (λ _. list_with_front timed id) tt id
      here-there none-yet (listed-keys id ∙ here-its ∙ an_end (may_end r.node.term) some) (λ q other. listed-keys q ∙ here-others q other) (λ q. refl) (one_list timed (list_with_front timed id)) between

  pub mortal-back : HasTimed (with_timed here timed (may_end r.node.term) id) (timed_with timed (may_end r.node.term) id)
  mortal-back = back-by (may_end r.node.term) refl

  -- the list has room for it
  pub timed-room : (bound : ℕ) → finite.len m ≤ bound → timed.len < bound
  timed-room bound few =
      let room = family-room {L = 2} timed_links m (key_at timed_key m) timed tt (kept tt) id (subst IsSome (sym there) refl) (λ mine. none_some tt (sym none-yet ∙ mine)) in
      omega (arith, room, few)

-- a node is written, but for its term
module _ (m : Items Row) (timed : IdList 2) (id : Id) (f : Node → Node) (same : (n : Node) → (f n).term ≡ n.term) (kept : HasTimed m timed) where
  pub mortal-written : HasTimed (with_node_at m id f) timed
  mortal-written =
      families-kept {L = 2} timed_links m (with_node_at m id f) (key_at timed_key m) (key_at timed_key (with_node_at m id f)) (λ _. timed) (λ _. timed)
      (λ q k e. at-kept m id (λ x. record x { node = f x.node }) timed_links (λ _. refl) q) keys (λ k. refl) kept
    where
      keys : (q : Id) → key_at timed_key (with_node_at m id f) q ≡ key_at timed_key m q
      keys q =
          by-part (λ (r : Row). (r.node.term, r.key)) (λ (s : Term × Option Key). cond (option_map_or (λ (_ : Key). false) s.1 true) (timed_by (may_end s.0)) None) (get (with_node_at m id f) q) (get m q)
          (at-kept m id (λ x. record x { node = f x.node }) (λ (r : Row). (r.node.term, r.key)) (λ x i. (same x.node i, x.key)) q)

-- a row that is in no list comes or goes
module _ (m n : Items Row) (ids : IdsByPath) (owners : OwnerLists) (timed : IdList 2) (id : Id) (linked : IsLinked m ids owners) (elsewhere : (q : Id) → q ≢ id → get n q ≡ get m q)
    (away : (x : Row) → get m id ≡ Some x → x.key ≢ None) (still : (x : Row) → get n id ≡ Some x → x.key ≢ None) (kept : HasTimed m timed) where
  pub mortal-aside : HasTimed n timed
  mortal-aside =
      families-kept {L = 2} timed_links m n (key_at timed_key m) (key_at timed_key n) (λ _. timed) (λ _. timed)
      (λ q k e. ap (option_map timed_links) (elsewhere q (has_key_other m n ids owners id linked elsewhere away still (λ r. timed_by (may_end r.node.term)) q k e)))
      (alike m n ids owners id linked elsewhere away still (λ r. timed_by (may_end r.node.term))) (λ k. refl) kept

-- the other lists and what is shown, where a row goes into this list
module _ (m : Items Row) (ids : IdsByPath) (owners : OwnerLists) (list : IdList 2) (ends : Bool) (id : Id) where
  pub listed-faces : (q : Id) → option_map face (get (with_timed m list ends id) q) ≡ option_map face (get m q)
  listed-faces = timed-kept face (λ _ _. refl) m list ends id

  pub linked-listed : IsLinked m ids owners → IsLinked (with_timed m list ends id) ids owners
  linked-listed kept =
      linked-same m (with_timed m list ends id) ids listed-faces owners kept (timed-kept (λ (x : Row). x.children) (λ _ _. refl) m list ends id)
      (timed-kept sibling_links (λ _ _. refl) m list ends id) (timed-kept fellow_links (λ _ _. refl) m list ends id)

-- and out of it
module _ (m : Items Row) (ids : IdsByPath) (owners : OwnerLists) (ends : Bool) (id : Id) where
  pub unlisted-faces : (q : Id) → option_map face (get (without_timed m ends id) q) ≡ option_map face (get m q)
  unlisted-faces = untimed-kept face (λ _ _. refl) m ends id

  pub linked-unlisted : IsLinked m ids owners → IsLinked (without_timed m ends id) ids owners
  linked-unlisted kept =
      linked-same m (without_timed m ends id) ids unlisted-faces owners kept (untimed-kept (λ (x : Row). x.children) (λ _ _. refl) m ends id)
      (untimed-kept sibling_links (λ _ _. refl) m ends id) (untimed-kept fellow_links (λ _ _. refl) m ends id)
