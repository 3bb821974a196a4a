-- What push_front, unlink and relink make of a chain; what they leave; and that relink undoes unlink.
use Rattle.std.proofs.Common.{◌≡◌, ◌≢◌, ◌⊎◌, inl, inr, List, [], ◌∷◌, ◌++◌, Option, Some, None, refl, sym, ap, ◌∙◌}
use mathlib.Core.Path.{subst}
use Rattle.std.specs.Option.{option_map, option_map_or}
use Rattle.std.specs.FinMap.{get, insert}
use Rattle.zslots.specs.declared.id.Id.{Id}
use Rattle.zslots.specs.declared.linked.Links.{Links}
use Rattle.zslots.specs.SlotsView.{Items}
use Rattle.zslots.specs.Links.{links_at, no_links, with_next_at, with_prev_at, with_ends, with_front, without, with_between}
use Rattle.zslots.specs.Ids.{NotIn, NoTwo, last_or, first_of}
use Rattle.zslots.specs.Chains.{Chain, IsBetween}
use Rattle.zslots.proofs.Maps.{same_or_other, get-insert-here, get-insert-elsewhere, same_items}
use Rattle.zslots.proofs.Surgery.{NoneIn, NoneShared, NotIn-parts, NoTwo-parts, last-none_shared, first-none_shared, NoneShared-rest, NoneShared-head, NoneShared-cons, HasLinks, SameBut, chain-from, chain-swap, chain-rest, chain-first, with_ends-same, with_ends-left, with_ends-right, get-with_prev_at-elsewhere, get-with_prev_at-here}

NoneShared-nil : (xs : List Id) → NoneShared xs []
NoneShared-nil [] = tt
NoneShared-nil (x ∷ xs) = (tt, NoneShared-nil xs)

-- an end that is in neither list differs from what is in the first
pub end_other : (q : Id) (at : Option Id) → NoneIn at (q ∷ []) → Some q ≢ at
end_other q None n e = cc
end_other q (Some p) n e = n.0 (cc)

-- a first of one list is no last of another
pub ends_differ : (xs ys : List Id) (q : Id) → NoneShared xs ys → Some q ≡ last_or None xs → Some q ≢ first_of ys
ends_differ xs [] q c e f = cc
ends_differ xs (y ∷ ys) q c e f = by (last_or None xs) (last-none_shared None xs (y ∷ ys) tt c) e
  where
    by : (o : Option Id) → NoneIn o (y ∷ ys) → Some q ≡ o → ⊥
    by None n e = cc
    by (Some p) n e = n.0 (cc)

module _ {T : Type 0} (links : T → Links) (with_links : T → Links → T) (reads : (x : T) (to : Links) → links (with_links x to) ≡ to) where
  -- a join over what is between two fronts of a chain
  with_ends-front : (m : Items T) (front back : List Id) (next prev : Option Id) → NoneShared front back → (q : Id) (x : T) → Some q ≡ last_or None front → get m q ≡ Some x → HasLinks links (with_ends links with_links m (last_or None front) next (first_of back) prev) q (record { next = next; prev = (links x).prev })
  with_ends-front m front back next prev c q x is e =
      (with_links x (record { next = next; prev = (links x).prev }), with_ends-left links with_links reads m _ next (first_of back) prev q x (ends_differ front back q c is) is e, reads _ _)

  with_ends-back : (m : Items T) (front back : List Id) (next prev : Option Id) → NoneShared front back → (q : Id) (x : T) → Some q ≡ first_of back → get m q ≡ Some x → HasLinks links (with_ends links with_links m (last_or None front) next (first_of back) prev) q (record { next = (links x).next; prev = prev })
  with_ends-back m front back next prev c q x is e =
      (with_links x (record { next = (links x).next; prev = prev }), with_ends-right links with_links reads m _ next (first_of back) prev q x (λ l. ends_differ front back q c l is) is e, reads _ _)

  -- the item at a position in a chain, and what follows it
  pub chain-at : (m : Items T) (first : Option Id) (front : List Id) (id : Id) (back : List Id) → Chain links m None first (front ++ id ∷ back) → IsBetween links m id front back × Chain links m (Some id) (first_of back) back
  chain-at m first front id back ch =
      let rest = chain-rest links m None first front (id ∷ back) ch in
      let r = rest.1 in
      let next = chain-first links m (Some id) (links r.1).next back r.4 in
      ((r.1, r.2, λ i. record { next = next i; prev = r.3 i }), subst (λ o. Chain links m (Some id) o back) next r.4)

  -- the join that takes an item out of a chain
  pub chain-out : (m : Items T) (first : Option Id) (front : List Id) (id : Id) (back : List Id) → NoTwo (front ++ id ∷ back) → Chain links m None first (front ++ id ∷ back) → Chain links (with_ends links with_links m (last_or None front) (first_of back) (first_of back) (last_or None front)) None (first_of (front ++ back)) (front ++ back)
  chain-out m first front id back a ch =
      let parts = NoTwo-parts front (id ∷ back) a in
      let c = NoneShared-rest front id back parts.2 in
      let n = with_ends links with_links m (last_or None front) (first_of back) (first_of back) (last_or None front) in
      let same = with_ends-same links with_links reads m (last_or None front) (first_of back) (first_of back) (last_or None front) in
      let rest = chain-from links m n (last_or None front) (Some id) (last_or None front) (first_of back) back same (last-none_shared None front back tt c) parts.1.1 (chain-at m first front id back ch).1 (with_ends-back m front back _ _ c) in
      chain-swap links m n (first_of back) None first (first_of back) front (id ∷ back) back same (first-none_shared front back c) parts.0 ch (with_ends-front m front back _ _ c) rest

  -- the join that puts an item into a chain
  pub chain-in : (m : Items T) (first : Option Id) (front : List Id) (id : Id) (back : List Id) → NoTwo (front ++ back) → NotIn id (front ++ back) → IsBetween links m id front back → Chain links m None first (front ++ back) → Chain links (with_ends links with_links m (last_or None front) (Some id) (first_of back) (Some id)) None (first_of (front ++ id ∷ back)) (front ++ id ∷ back)
  chain-in m first front id back a free between ch =
      let parts = NoTwo-parts front back a in
      let none = NotIn-parts id front back free in
      let c = parts.2 in
      let n = with_ends links with_links m (last_or None front) (Some id) (first_of back) (Some id) in
      let same = with_ends-same links with_links reads m (last_or None front) (Some id) (first_of back) (Some id) in
      let behind = chain-rest links m None first front back ch in
      let start = subst (λ o. Chain links m (last_or None front) o back) (chain-first links m _ _ back behind.1) behind.1 in
      let rest = chain-from links m n (last_or None front) (last_or None front) (Some id) (first_of back) back same (last-none_shared None front back tt c) parts.1 start (with_ends-back m front back _ _ c) in
      let left = end_other id _ (last-none_shared None front (id ∷ []) tt (NoneShared-cons front id [] none.0 (NoneShared-nil front))) in
      let right = end_other id _ (first-none_shared (id ∷ []) back (none.1, tt)) in
      let found = same id left right ∙ between.1 in
      let middle : Chain links n (last_or None front) (Some id) (id ∷ back) = (refl, between.0, found, ap (λ k. k.prev) between.2, subst (λ o. Chain links n (Some id) o back) (sym (ap (λ k. k.next) between.2)) rest) in
      chain-swap links m n (first_of back) None first (Some id) front back (id ∷ back) same (first-none_shared front back c) parts.0 ch (with_ends-front m front back _ _ c) middle

  pub links_at-between : (m : Items T) (id : Id) (front back : List Id) → IsBetween links m id front back → links_at links m id ≡ record { next = first_of back; prev = last_or None front }
  links_at-between m id front back b = ap (λ o. option_map_or links o no_links) b.1 ∙ b.2

  -- an item taken out
  pub chain-without : (m : Items T) (first : Option Id) (front : List Id) (id : Id) (back : List Id) → NoTwo (front ++ id ∷ back) → Chain links m None first (front ++ id ∷ back) → Chain links (without links with_links m id) None (first_of (front ++ back)) (front ++ back)
  chain-without m first front id back a ch =
      let is = links_at-between m id front back (chain-at m first front id back ch).0 in
      subst (λ k. Chain links (with_ends links with_links m k.prev k.next k.next k.prev) None (first_of (front ++ back)) (front ++ back)) (sym is) (chain-out m first front id back a ch)

  -- an item put back
  pub chain-with_between : (m : Items T) (first : Option Id) (front : List Id) (id : Id) (back : List Id) → NoTwo (front ++ back) → NotIn id (front ++ back) → IsBetween links m id front back → Chain links m None first (front ++ back) → Chain links (with_between links with_links m id) None (first_of (front ++ id ∷ back)) (front ++ id ∷ back)
  chain-with_between m first front id back a free between ch =
      let is = links_at-between m id front back between in
      subst (λ k. Chain links (with_ends links with_links m k.prev (Some id) k.next (Some id)) None (first_of (front ++ id ∷ back)) (front ++ id ∷ back)) (sym is) (chain-in m first front id back a free between ch)

  -- an item put before the first
  pub chain-with_front : (m : Items T) (first : Option Id) (id : Id) (ids : List Id) (x : T) → get m id ≡ Some x → NoTwo ids → NotIn id ids → Chain links m None first ids → Chain links (with_front links with_links m first id) None (Some id) (id ∷ ids)
  chain-with_front m first id ids x e a free ch =
      let m1 = with_prev_at links with_links m first (Some id) in
      let y = with_links x (record { next = first; prev = None }) in
      let n = insert m1 id y in
      let start = chain-first links m None first ids ch in
      let apart : Some id ≢ first = end_other id first (subst (λ o. NoneIn o (id ∷ [])) (sym start) (first-none_shared (id ∷ []) ids (free, tt))) in
      let before = get-with_prev_at-elsewhere links with_links reads m first (Some id) id apart ∙ e in
      let made : with_front links with_links m first id ≡ n = ap (λ o. option_map_or (λ x. insert m1 id (with_links x (record { next = first; prev = None }))) o m1) before in
      let same : SameBut links m n (Some id) first = λ q l r. get-insert-elsewhere m1 id y q (λ w. l (ap Some w)) ∙ get-with_prev_at-elsewhere links with_links reads m first (Some id) q r in
      let written = λ (q : Id) (z : T) (is : Some q ≡ first) (f : get m q ≡ Some z).
      let other : q ≢ id = λ w. apart (ap Some (sym w) ∙ is) in
      let found : get n q ≡ Some (with_links z (record { next = (links z).next; prev = Some id })) =
      get-insert-elsewhere m1 id y q other ∙ ap (λ at. get (with_prev_at links with_links m at (Some id)) q) (sym is) ∙ get-with_prev_at-here links with_links reads m q (Some id) z f in
      let has : HasLinks links n q (record { next = (links z).next; prev = Some id }) = (with_links z (record { next = (links z).next; prev = Some id }), found, reads _ _) in
      has in
      let rest = chain-from links m n (Some id) None (Some id) first ids same free a ch written in
      let whole : Chain links n None (Some id) (id ∷ ids) = (refl, y, get-insert-here m1 id y, ap (λ k. k.prev) (reads x _), subst (λ o. Chain links n (Some id) o ids) (sym (ap (λ k. k.next) (reads x _))) rest) in
      subst (λ k. Chain links k None (Some id) (id ∷ ids)) (sym made) whole

  -- a push writes the first item and the new one alone
  pub with_front-same : (m : Items T) (first : Option Id) (id : Id) → SameBut links m (with_front links with_links m first id) first (Some id)
  with_front-same m first id = λ q l r. by q r (get k id) ∙ get-with_prev_at-elsewhere links with_links reads m first (Some id) q l
    where
      k : Items T
      k = with_prev_at links with_links m first (Some id)

      by : (q : Id) → Some q ≢ Some id → (o : Option T) → get (option_map_or (λ x. insert k id (with_links x (record { next = first; prev = None }))) o k) q ≡ get k q
      by q other None = refl
      by q other (Some x) = get-insert-elsewhere k id _ q (λ e. other (ap Some e))

  -- what a write of links leaves in each item is left by a join
  module _ {X : Type 0} (f : T → X) (leaves : (x : T) (to : Links) → f (with_links x to) ≡ f x) where
    kept-insert : (m : Items T) (id : Id) (x : T) (to : Links) (q : Id) → get m id ≡ Some x → option_map f (get (insert m id (with_links x to)) q) ≡ option_map f (get m q)
    kept-insert m id x to q e = by (same_or_other q id)
      where
        by : (q ≡ id) ⊎ (q ≢ id) → option_map f (get (insert m id (with_links x to)) q) ≡ option_map f (get m q)
        by (inl is) =
            ap (λ k. option_map f (get (insert m id (with_links x to)) k)) is ∙ ap (option_map f) (get-insert-here m id _)
            ∙ ap Some (leaves x to) ∙ sym (ap (λ k. option_map f (get m k)) is ∙ ap (option_map f) e)
        by (inr other) = ap (option_map f) (get-insert-elsewhere m id _ q other)

    pub kept-with_next_at : (m : Items T) (at next : Option Id) (q : Id) → option_map f (get (with_next_at links with_links m at next) q) ≡ option_map f (get m q)
    kept-with_next_at m None next q = refl
    kept-with_next_at m (Some id) next q = by (get m id) refl
      where
        by : (o : Option T) → get m id ≡ o → option_map f (get (option_map_or (λ x. insert m id (with_links x (record { next = next; prev = (links x).prev }))) o m) q) ≡ option_map f (get m q)
        by None e = refl
        by (Some x) e = kept-insert m id x _ q e

    pub kept-with_prev_at : (m : Items T) (at prev : Option Id) (q : Id) → option_map f (get (with_prev_at links with_links m at prev) q) ≡ option_map f (get m q)
    kept-with_prev_at m None prev q = refl
    kept-with_prev_at m (Some id) prev q = by (get m id) refl
      where
        by : (o : Option T) → get m id ≡ o → option_map f (get (option_map_or (λ x. insert m id (with_links x (record { next = (links x).next; prev = prev }))) o m) q) ≡ option_map f (get m q)
        by None e = refl
        by (Some x) e = kept-insert m id x _ q e

    pub kept-with_front : (m : Items T) (first : Option Id) (id q : Id) → option_map f (get (with_front links with_links m first id) q) ≡ option_map f (get m q)
    kept-with_front m first id q = by (get k id) refl ∙ kept-with_prev_at m first (Some id) q
      where
        k : Items T
        k = with_prev_at links with_links m first (Some id)

        by : (o : Option T) → get k id ≡ o → option_map f (get (option_map_or (λ x. insert k id (with_links x (record { next = first; prev = None }))) o k) q) ≡ option_map f (get k q)
        by None e = refl
        by (Some x) e = kept-insert k id x _ q e

    pub kept-with_ends : (m : Items T) (left next right prev : Option Id) (q : Id) → option_map f (get (with_ends links with_links m left next right prev) q) ≡ option_map f (get m q)
    kept-with_ends m left next right prev q = kept-with_prev_at _ right prev q ∙ kept-with_next_at m left next q

-- an Id is this end, or another one
pub is_end : (q : Id) (at : Option Id) → (Some q ≡ at) ⊎ (Some q ≢ at)
is_end q None = inr (λ e. cc)
is_end q (Some p) = by (same_or_other q p)
  where
    by : (q ≡ p) ⊎ (q ≢ p) → (Some q ≡ Some p) ⊎ (Some q ≢ Some p)
    by (inl is) = inl (ap Some is)
    by (inr other) = inr (λ e. other (cc))

module _ {T : Type 0} (links : T → Links) (with_links : T → Links → T) (reads : (x : T) (to : Links) → links (with_links x to) ≡ to) (same : (x : T) → with_links x (links x) ≡ x) (twice : (x : T) (a b : Links) → with_links (with_links x a) b ≡ with_links x b) where
  -- a second join undoes the first, where it writes what was there
  with_ends-twice : (m : Items T) (left right n1 p1 n2 p2 : Option Id) → ((q : Id) → Some q ≡ left → Some q ≢ right) → ((q : Id) → Some q ≡ left → (x : T) × (get m q ≡ Some x) × ((links x).next ≡ n2)) → ((q : Id) → Some q ≡ right → (x : T) × (get m q ≡ Some x) × ((links x).prev ≡ p2)) → with_ends links with_links (with_ends links with_links m left n1 right p1) left n2 right p2 ≡ m
  with_ends-twice m left right n1 p1 n2 p2 differ was_left was_right = same_items _ _ (λ q. by q (is_end q left) (is_end q right))
    where
      k : Items T
      k = with_ends links with_links m left n1 right p1

      restored : (x : T) (a b : Links) → b ≡ links x → with_links (with_links x a) b ≡ x
      restored x a b e = twice x a b ∙ ap (with_links x) e ∙ same x

      by : (q : Id) → (Some q ≡ left) ⊎ (Some q ≢ left) → (Some q ≡ right) ⊎ (Some q ≢ right) → get (with_ends links with_links k left n2 right p2) q ≡ get m q
      by q (inl l) _ =
          let w = was_left q l in
          let first = with_ends-left links with_links reads m left n1 right p1 q w.0 (differ q l) l w.1 in
          let second = with_ends-left links with_links reads k left n2 right p2 q _ (differ q l) l first in
          second ∙ ap Some (restored w.0 _ _ (λ i. record { next = sym w.2 i; prev = (ap (λ o. o.prev) (reads w.0 (record { next = n1; prev = (links w.0).prev }))) i })) ∙ sym w.1
      by q (inr l) (inl r) =
          let w = was_right q r in
          let first = with_ends-right links with_links reads m left n1 right p1 q w.0 l r w.1 in
          let second = with_ends-right links with_links reads k left n2 right p2 q _ l r first in
          second ∙ ap Some (restored w.0 _ _ (λ i. record { next = (ap (λ o. o.next) (reads w.0 (record { next = (links w.0).next; prev = p1 }))) i; prev = sym w.2 i })) ∙ sym w.1
      by q (inr l) (inr r) = with_ends-same links with_links reads k left n2 right p2 q l r ∙ with_ends-same links with_links reads m left n1 right p1 q l r

  -- the last of a front is there, and its next is what follows
  chain-last : (m : Items T) (before first : Option Id) (front : List Id) (id : Id) (back : List Id) → Chain links m before first (front ++ id ∷ back) → ((q : Id) → Some q ≡ before → (x : T) × (get m q ≡ Some x) × ((links x).next ≡ first)) → (q : Id) → Some q ≡ last_or before front → (x : T) × (get m q ≡ Some x) × ((links x).next ≡ Some id)
  chain-last m before first [] id back ch was q is = let w = was q is in (w.0, w.1, w.2 ∙ ch.0)
  chain-last m before first (i ∷ front) id back ch was q is =
      chain-last m (Some i) (links ch.1).next front id back ch.4 (λ p e. let same_id : p ≡ i = cc in (ch.1, ap (get m) same_id ∙ ch.2, refl)) q is

  -- the first of a chain is there, and is after what is before
  chain-start : (m : Items T) (before first : Option Id) (ids : List Id) → Chain links m before first ids → (q : Id) → Some q ≡ first_of ids → (x : T) × (get m q ≡ Some x) × ((links x).prev ≡ before)
  chain-start m before first [] ch q is = cc
  chain-start m before first (i ∷ ids) ch q is = let same_id : q ≡ i = cc in (ch.1, ap (get m) same_id ∙ ch.2, ch.3)

  -- the own links of an item that is taken out are unchanged
  pub own-without : (m : Items T) (first : Option Id) (front : List Id) (id : Id) (back : List Id) → NoTwo (front ++ id ∷ back) → Chain links m None first (front ++ id ∷ back) → links_at links (without links with_links m id) id ≡ links_at links m id
  own-without m first front id back a ch =
      let at = chain-at links with_links reads m first front id back ch in
      let parts = NoTwo-parts front (id ∷ back) a in
      let l = links_at links m id in
      let is : l ≡ record { next = first_of back; prev = last_or None front } = links_at-between links with_links reads m id front back at.0 in
      let left = subst (λ o. Some id ≢ o.prev) (sym is) (end_other id _ (last-none_shared None front (id ∷ []) tt (NoneShared-cons front id [] (NoneShared-head front id back parts.2) (NoneShared-nil front)))) in
      let right = subst (λ o. Some id ≢ o.next) (sym is) (end_other id _ (first-none_shared (id ∷ []) back (parts.1.0, tt))) in
      ap (λ o. option_map_or links o no_links) (with_ends-same links with_links reads m l.prev l.next l.next l.prev id left right)

  -- to put an item back where it was taken out leaves all as it was
  pub with_between-without : (m : Items T) (first : Option Id) (front : List Id) (id : Id) (back : List Id) → NoTwo (front ++ id ∷ back) → Chain links m None first (front ++ id ∷ back) → with_between links with_links (without links with_links m id) id ≡ m
  with_between-without m first front id back a ch =
      let at = chain-at links with_links reads m first front id back ch in
      let parts = NoTwo-parts front (id ∷ back) a in
      let c = NoneShared-rest front id back parts.2 in
      let l = links_at links m id in
      let is : l ≡ record { next = first_of back; prev = last_or None front } = links_at-between links with_links reads m id front back at.0 in
      let n = without links with_links m id in
      let own = own-without m first front id back a ch in
      ap (λ k. with_ends links with_links n k.prev (Some id) k.next (Some id)) own
      ∙ with_ends-twice m l.prev l.next l.next l.prev (Some id) (Some id)
      (λ q e. subst (λ o. Some q ≢ o.next) (sym is) (ends_differ front back q c (e ∙ ap (λ o. o.prev) is)))
      (λ q e. chain-last m None first front id back ch (λ p w. cc) q (e ∙ ap (λ o. o.prev) is))
      (λ q e. chain-start m (Some id) (first_of back) back at.1 q (e ∙ ap (λ o. o.next) is))
