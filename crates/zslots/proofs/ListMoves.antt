-- What push_front, unlink and relink make of a list.
use Rattle.std.proofs.Common.{◌≡◌, ℕ, ◌+◌, ◌-◌, List, [], ◌∷◌, ◌++◌, length, Option, Some, None, IsSome, refl, sym, ap, ◌∙◌, arith, length-append}
use mathlib.Core.Path.{subst}
use Rattle.std.specs.Option.{option_map, option_map_or}
use Rattle.std.specs.FinMap.{get}
use Rattle.zslots.specs.declared.id.Id.{Id}
use Rattle.zslots.specs.declared.linked.Links.{Links}
use Rattle.zslots.specs.declared.list.List.{List as IdList}
use Rattle.zslots.specs.SlotsView.{Items}
use Rattle.zslots.specs.Lists.{IsList, list_without, list_with_between}
use Rattle.zslots.specs.Links.{links_at, no_links, with_front, without, with_between}
use Rattle.zslots.specs.support.Walk.{walk}
use Rattle.zslots.specs.Ids.{Ids, NotIn, last_or, first_of, first_if}
use Rattle.zslots.specs.Chains.{Chain, IsBetween}
use Rattle.zslots.proofs.Items.{some_there, some_same}
use Rattle.zslots.proofs.Surgery.{HasLinks, chain-rest, chain-alike, NotIn-parts, NoTwo-parts, NoTwo-both, NoneShared-rest, NoneShared-cons, chain-first}
use Rattle.zslots.proofs.Moves.{kept-with_front, kept-with_ends, own-without, with_between-without, chain-with_front, chain-without, chain-with_between, chain-at, links_at-between}

some_last : (b : Option Id) (i : Id) (is : List Id) (d : Option Id) → option_map_or (λ _. b) (last_or (Some i) is) d ≡ b
some_last b i [] d = refl
some_last b i (j ∷ js) d = some_last b j js d

-- the first of a list from whose middle an item was taken
first-out : (front back : List Id) (id : Id) → option_map_or (λ _. first_of (front ++ id ∷ back)) (last_or None front) (first_of back) ≡ first_of (front ++ back)
first-out [] back id = refl
first-out (i ∷ is) back id = some_last (Some i) i is (first_of back)

-- the first of a list into whose middle an item was put
first-in : (front back : List Id) (id : Id) → option_map_or (λ _. first_of (front ++ back)) (last_or None front) (Some id) ≡ first_of (front ++ id ∷ back)
first-in [] back id = refl
first-in (i ∷ is) back id = some_last (Some i) i is (Some id)

module _ {L : ℕ} {T : Type 0} (links : T → Links) (with_links : T → Links → T) (reads : (x : T) (to : Links) → links (with_links x to) ≡ to) where
  pub list-with_front : (m : Items T) (l : IdList L) (id : Id) (ids : List Id) → IsList links m l ids → NotIn id ids → IsSome (get m id) → IsList {L = L} links (with_front links with_links m l.first id) (record { first = Some id; len = l.len + 1 }) (id ∷ ids)
  list-with_front m l id ids is free live =
      let x = some_there _ live in
      record { chain = chain-with_front links with_links reads m l.first id ids x.0 x.1 is.no_two free is.chain; no_two = (free, is.no_two); count = omega (arith, is.count) }

  pub list-without : (m : Items T) (l : IdList L) (id : Id) (front back : List Id) → IsList links m l (front ++ id ∷ back) → IsList {L = L} links (without links with_links m id) (record { first = option_map_or (λ _. l.first) (links_at links m id).prev (links_at links m id).next; len = l.len - 1 }) (front ++ back)
  list-without m l id front back is =
      let parts = NoTwo-parts front (id ∷ back) is.no_two in
      let own = links_at-between links with_links reads m id front back (chain-at links with_links reads m l.first front id back is.chain).0 in
      let begins = chain-first links m None l.first (front ++ id ∷ back) is.chain in
      let first : option_map_or (λ _. l.first) (links_at links m id).prev (links_at links m id).next ≡ first_of (front ++ back) = rw (own, begins) (first-out front back id) in
      record {
        chain = subst (λ o. Chain links (without links with_links m id) None o (front ++ back)) (sym first) (chain-without links with_links reads m l.first front id back is.no_two is.chain);
        no_two = NoTwo-both front back parts.0 parts.1.1 (NoneShared-rest front id back parts.2);
        count = omega (arith, is.count, length-append front back, length-append front (id ∷ back));
      }

  pub list-with_between : (m : Items T) (l : IdList L) (id : Id) (front back : List Id) → IsList links m l (front ++ back) → NotIn id (front ++ back) → IsBetween links m id front back → IsList {L = L} links (with_between links with_links m id) (record { first = option_map_or (λ _. l.first) (links_at links m id).prev (Some id); len = l.len + 1 }) (front ++ id ∷ back)
  list-with_between m l id front back is free between =
      let parts = NoTwo-parts front back is.no_two in
      let none = NotIn-parts id front back free in
      let own = links_at-between links with_links reads m id front back between in
      let begins = chain-first links m None l.first (front ++ back) is.chain in
      let first : option_map_or (λ _. l.first) (links_at links m id).prev (Some id) ≡ first_of (front ++ id ∷ back) = rw (own, begins) (first-in front back id) in
      record {
        chain = subst (λ o. Chain links (with_between links with_links m id) None o (front ++ id ∷ back)) (sym first) (chain-with_between links with_links reads m l.first front id back is.no_two free between is.chain);
        no_two = NoTwo-both front (id ∷ back) parts.0 (none.1, parts.1) (NoneShared-cons front id back none.0 parts.2);
        count = omega (arith, is.count, length-append front back, length-append front (id ∷ back));
      }

module _ {T : Type 0} (links : T → Links) where
  -- a walk goes through the chain
  pub walk-chain : (m : Items T) (before first : Option Id) (ids : List Id) → Chain links m before first ids → walk links (length ids) m first ≡ ids
  walk-chain m before first [] ch = refl
  walk-chain m before first (id ∷ ids) ch =
      ap (walk links (length (id ∷ ids)) m) ch.0
      ∙ ap (λ next. id ∷ walk links (length ids) m next) (ap (λ o. (option_map_or links o no_links).next) ch.2)
      ∙ ap (λ more. id ∷ more) (walk-chain m (Some id) (links ch.1).next ids ch.4)

module _ {L : ℕ} {T : Type 0} (links : T → Links) where
  -- a list is one list of Ids alone
  pub list-one : (m : Items T) (l : IdList L) (a b : Ids) → IsList links m l a → IsList links m l b → a ≡ b
  list-one m l a b is_a is_b =
      sym (walk-chain links m None l.first a is_a.chain)
      ∙ ap (λ n. walk links n m l.first) (sym is_a.count ∙ is_b.count)
      ∙ walk-chain links m None l.first b is_b.chain

  -- what follows an item of a list
  pub list-next : (m : Items T) (l : IdList L) (id : Id) (front back : Ids) → IsList links m l (front ++ id ∷ back) → (links_at links m id).next ≡ first_of back
  list-next m l id front back is =
      let rest = (chain-rest links m None l.first front (id ∷ back) is.chain).1 in
      ap (λ o. (option_map_or links o no_links).next) rest.2 ∙ chain-first links m (Some id) (links rest.1).next back rest.4

  -- a list begins with the first of its Ids
  pub list-first : (m : Items T) (l : IdList L) (ids : Ids) → IsList links m l ids → l.first ≡ first_of ids
  list-first m l ids is = chain-first links m None l.first ids is.chain

-- what a list began with, from which an item was taken and put back
first-in-out : (front back : Ids) (id : Id) (d : Option Id) → first_if (last_or None front) (first_if (last_or None front) (first_of (front ++ id ∷ back)) d) (Some id) ≡ first_of (front ++ id ∷ back)
first-in-out [] back id d = refl
first-in-out (i ∷ is) back id d = some_last _ i is (Some id) ∙ some_last (Some i) i is d

-- to put an item back where it was taken out leaves all as it was
module _ {L : ℕ} {T : Type 0} (links : T → Links) (with_links : T → Links → T) (reads : (x : T) (to : Links) → links (with_links x to) ≡ to) (same : (x : T) → with_links x (links x) ≡ x) (twice : (x : T) (a b : Links) → with_links (with_links x a) b ≡ with_links x b) where
  pub list_with_between-without : (m : Items T) (l : IdList L) (front back : Ids) (id : Id) → IsList links m l (front ++ id ∷ back) → (with_between links with_links (without links with_links m id) id ≡ m) × (list_with_between links (without links with_links m id) (list_without links m l id) id ≡ l)
  list_with_between-without m l front back id is =
      let n = without links with_links m id in
      let own = own-without links with_links reads same twice m l.first front id back is.no_two is.chain in
      let between = links_at-between links with_links reads m id front back (chain-at links with_links reads m l.first front id back is.chain).0 in
      let begins = chain-first links m None l.first (front ++ id ∷ back) is.chain in
      let first : (list_with_between links n (list_without links m l id) id).first ≡ l.first =
      rw (own, between, begins) (first-in-out front back id (first_of back)) in
      let len : l.len - 1 + 1 ≡ l.len = omega (arith, is.count, length-append front (id ∷ back)) in
      (with_between-without links with_links reads same twice m l.first front id back is.no_two is.chain, λ i. record { first = first i; len = len i })

module _ {T : Type 0} (links : T → Links) (with_links : T → Links → T) (reads : (x : T) (to : Links) → links (with_links x to) ≡ to) where
  -- no call changes another part of an item
  pub parts-kept : {X : Type 0} (part : T → X) → ((x : T) (to : Links) → part (with_links x to) ≡ part x) → (m : Items T) (first : Option Id) (id q : Id) → (option_map part (get (with_front links with_links m first id) q) ≡ option_map part (get m q)) × (option_map part (get (without links with_links m id) q) ≡ option_map part (get m q)) × (option_map part (get (with_between links with_links m id) q) ≡ option_map part (get m q))
  parts-kept part leaves m first id q = (
    kept-with_front links with_links reads part leaves m first id q,
    kept-with_ends links with_links reads part leaves m _ _ _ _ q,
    kept-with_ends links with_links reads part leaves m _ _ _ _ q,
  )

  -- an item with the same links as before has these links
  has_links : (other : T → Links) (m n : Items T) → ((q : Id) → option_map other (get n q) ≡ option_map other (get m q)) → (q : Id) (x : T) → get m q ≡ Some x → HasLinks other n q (other x)
  has_links other m n kept q x e = by (get n q) refl
    where
      by : (o : Option T) → get n q ≡ o → HasLinks other n q (other x)
      by None f = let bad : None ≡ Some (other x) = sym (ap (option_map other) f) ∙ kept q ∙ ap (option_map other) e in cc
      by (Some y) f = (y, f, some_same (other y) (other x) (sym (ap (option_map other) f) ∙ kept q ∙ ap (option_map other) e))

  -- a list stays where each item's links of it stay
  pub list-alike : {K : ℕ} (other : T → Links) (m n : Items T) (l : IdList K) (ids : Ids) → ((q : Id) → option_map other (get n q) ≡ option_map other (get m q)) → IsList other m l ids → IsList other n l ids
  list-alike other m n l ids kept is =
      record { chain = chain-alike other m n None l.first ids (has_links other m n kept) is.chain; no_two = is.no_two; count = is.count }

  -- no call changes another list
  pub lists-kept : {K : ℕ} (other : T → Links) → ((x : T) (to : Links) → other (with_links x to) ≡ other x) → (m : Items T) (l : IdList K) (ids : Ids) → IsList other m l ids → (first : Option Id) (id : Id) → IsList other (with_front links with_links m first id) l ids × IsList other (without links with_links m id) l ids × IsList other (with_between links with_links m id) l ids
  lists-kept other leaves m l ids is first id = (
    list-alike other m _ l ids (λ q. (parts-kept other leaves m first id q).0) is,
    list-alike other m _ l ids (λ q. (parts-kept other leaves m first id q).1) is,
    list-alike other m _ l ids (λ q. (parts-kept other leaves m first id q).2) is,
  )
