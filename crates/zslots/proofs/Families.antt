-- Lists by keys: what preserves them, what a push and an unlink make of them, and how long they
-- are.
use Rattle.std.proofs.Common.{length, ◌≡◌, ◌≢◌, ◌⊎◌, ◌↔◌, inl, inr, ℕ, ◌<◌, ◌≤◌, [], ◌∷◌, ◌++◌, Option, Some, None, IsSome, refl, sym, ap, ◌∙◌, arith}
use mathlib.Core.Path.{subst}
use Rattle.std.specs.Option.{option_map}
use Rattle.std.specs.FinMap as finite
use Rattle.std.specs.FinMap.{get}
use Rattle.zslots.specs.declared.id.Id.{Id}
use Rattle.zslots.specs.declared.linked.Links.{Links}
use Rattle.zslots.specs.declared.list.List.{List as IdList}
use Rattle.zslots.specs.SlotsView.{Items}
use Rattle.zslots.specs.Ids.{Ids, IsIn, NotIn, last_or, first_of}
use Rattle.zslots.specs.Links.{links_at, with_front, without}
use Rattle.zslots.specs.Chains.{Chain}
use Rattle.zslots.specs.Lists.{IsList, empty_list, list_with_front, list_without}
use Rattle.zslots.specs.Families.{IsFamily, IsListedBy, ChangesHead}
use Rattle.zslots.proofs.Items.{some_same}
use Rattle.zslots.proofs.Maps.{same_or_other}
use Rattle.zslots.proofs.Surgery.{HasLinks, SameBut, chain-kept, NoTwo-parts, NoneShared-head, NotIn-both, with_ends-same}
use Rattle.zslots.proofs.Moves.{with_front-same, chain-at, links_at-between}
use Rattle.zslots.proofs.ListMoves.{list-first, list-alike, list-with_front as front_list, list-without as list_out}
use Rattle.zslots.proofs.Members.{never_both, NotIn-from, NoneIn-from, IsIn-front, IsIn-back, IsIn-parts, IsIn-split, first-IsIn, last-IsIn, length-within}

none_some : {A B : Type 0} (o : Option A) (x : A) → o ≡ None → o ≡ Some x → B
none_some None x none some = cc
none_some (Some y) x none some = cc

module _ {T : Type 0} (links : T → Links) where
  -- the items of a chain are there
  pub chain-IsSome : (m : Items T) (before first : Option Id) (ids : Ids) → Chain links m before first ids → (q : Id) → IsIn q ids → IsSome (get m q)
  chain-IsSome m before first [] ch q has = absurd has
  chain-IsSome m before first (id ∷ ids) ch q (inl is) = subst IsSome (sym (ap (get m) is ∙ ch.2)) refl
  chain-IsSome m before first (id ∷ ids) ch q (inr has) = chain-IsSome m (Some id) (links ch.1).next ids ch.4 q has

  links_kept : (m n : Items T) (q : Id) (x : T) → option_map links (get n q) ≡ option_map links (get m q) → get m q ≡ Some x → HasLinks links n q (links x)
  links_kept m n q x kept e = by (get n q) refl
    where
      by : (o : Option T) → get n q ≡ o → HasLinks links n q (links x)
      by None f = let bad : None ≡ Some (links x) = sym (ap (option_map links) f) ∙ kept ∙ ap (option_map links) e in cc
      by (Some y) f = (y, f, some_same (links y) (links x) (sym (ap (option_map links) f) ∙ kept ∙ ap (option_map links) e))

  -- a chain reads the links of its own items alone
  pub chain-members : (m n : Items T) (before first : Option Id) (ids : Ids) → ((q : Id) → IsIn q ids → option_map links (get n q) ≡ option_map links (get m q)) → Chain links m before first ids → Chain links n before first ids
  chain-members m n before first [] kept ch = ch
  chain-members m n before first (q ∷ ids) kept ch =
      let y = links_kept m n q ch.1 (kept q (inl refl)) ch.2 in
      (ch.0, y.0, y.1, ap (λ k. k.prev) y.2 ∙ ch.3, subst (λ o. Chain links n (Some q) o ids) (sym (ap (λ k. k.next) y.2)) (chain-members m n (Some q) (links ch.1).next ids (λ p i. kept p (inr i)) ch.4))

module _ {L : ℕ} {T K : Type 0} (links : T → Links) where
  -- the family of a list and key that are equal to these
  family-same : (m : Items T) (key : Id → Option K) (list other : IdList L) (k q : K) → other ≡ list → q ≡ k → IsFamily links m key list k → IsFamily links m key other q
  family-same m key list other k q lists keys is =
      subst (λ l. IsFamily links m key l q) (sym lists) (subst (λ t. IsFamily links m key list t) (sym keys) is)

  -- no item has a key, and all lists are empty
  pub families-none : (m : Items T) (key : Id → Option K) (heads : K → IdList L) → ((q : Id) → key q ≡ None) → ((k : K) → heads k ≡ empty_list) → IsListedBy links m key heads
  families-none m key heads none empty k =
      let family : IsFamily {L = L} links m key empty_list k = ([], record { chain = refl; no_two = tt; count = refl }, λ q. ((λ has. absurd has), (λ e. none_some (key q) k (none q) e))) in
      family-same m key empty_list (heads k) k k (empty k) refl family

  -- lists stay where the links of all items with keys, the keys and the lists' own fields stay
  pub families-kept : (m n : Items T) (key after : Id → Option K) (heads later : K → IdList L) → ((q : Id) (k : K) → key q ≡ Some k → option_map links (get n q) ≡ option_map links (get m q)) → ((q : Id) → after q ≡ key q) → ((k : K) → later k ≡ heads k) → IsListedBy links m key heads → IsListedBy links n after later
  families-kept m n key after heads later kept keys lists is k =
      let old = is k in
      let list : IsList links n (heads k) old.0 = record {
        chain = chain-members links m n None (heads k).first old.0 (λ q i. kept q k ((old.2 q).0 i)) old.1.chain;
        no_two = old.1.no_two;
        count = old.1.count;
      } in
      let family : IsFamily links n after (heads k) k = (old.0, list, λ q. ((λ i. keys q ∙ (old.2 q).0 i), (λ e. (old.2 q).1 (sym (keys q) ∙ e)))) in
      family-same n after (heads k) (later k) k k (lists k) refl family

  -- a list without a first has no item
  pub family-first : (m : Items T) (key : Id → Option K) (list : IdList L) (k : K) → IsFamily links m key list k → list.first ≡ None → (q : Id) → key q ≢ Some k
  family-first m key list k is none q e = by is.0 ((is.2 q).1 e) (sym none ∙ list-first links m list is.0 is.1)
    where
      by : (ids : Ids) → IsIn q ids → None ≡ first_of ids → ⊥
      by [] has end = has
      by (id ∷ ids) has end = cc

  -- the first of a list has its key
  pub family-begins : (m : Items T) (key : Id → Option K) (list : IdList L) (k : K) → IsFamily links m key list k → (q : Id) → list.first ≡ Some q → key q ≡ Some k
  family-begins m key list k is q e = (is.2 q).0 (first-IsIn is.0 q (sym e ∙ list-first links m list is.0 is.1))

  -- the list of a key that an item has isn't empty
  pub family-some : (m : Items T) (key : Id → Option K) (list : IdList L) (k : K) → IsFamily links m key list k → (q : Id) → key q ≡ Some k → 0 < list.len
  family-some m key list k is q e = by is.0 ((is.2 q).1 e) is.1.count
    where
      by : (ids : Ids) → IsIn q ids → list.len ≡ length ids → 0 < list.len
      by [] has count = absurd has
      by (id ∷ ids) has count = omega (arith, count)

  -- an item with a key is there
  pub family-IsSome : (m : Items T) (key : Id → Option K) (list : IdList L) (k : K) → IsFamily links m key list k → (q : Id) → key q ≡ Some k → IsSome (get m q)
  family-IsSome m key list k is q e = chain-IsSome links m None list.first is.0 is.1.chain q ((is.2 q).1 e)

  -- a list is no longer than there are items
  pub family-length : (m : Items T) (key : Id → Option K) (list : IdList L) (k : K) → IsFamily links m key list k → list.len ≤ finite.len m
  family-length m key list k is =
      let short = length-within m is.0 is.1.no_two (chain-IsSome links m None list.first is.0 is.1.chain) in
      omega (arith, is.1.count, short)

  -- and shorter where an item isn't in it
  pub family-room : (m : Items T) (key : Id → Option K) (list : IdList L) (k : K) → IsFamily links m key list k → (j : Id) → IsSome (get m j) → key j ≢ Some k → list.len < finite.len m
  family-room m key list k is j live other =
      let free = NotIn-from j is.0 (λ has. other ((is.2 j).0 has)) in
      let short = length-within m (j ∷ is.0) (free, is.1.no_two) (λ q. by q) in
      omega (arith, is.1.count, short)
    where
      by : (q : Id) → (q ≡ j) ⊎ IsIn q is.0 → IsSome (get m q)
      by q (inl e) = subst (λ i. IsSome (get m i)) (sym e) live
      by q (inr has) = chain-IsSome links m None list.first is.0 is.1.chain q has

  module _ (with_links : T → Links → T) (reads : (x : T) (to : Links) → links (with_links x to) ≡ to) where
    -- a list whose chain is untouched
    family-untouched : (m n between : Items T) (key after : Id → Option K) (list : IdList L) (q : K) (left right : Option Id) → SameBut links m between left right → ((p : Id) → Some p ≡ left → key p ≢ Some q) → ((p : Id) → Some p ≡ right → key p ≢ Some q) → ((p : Id) → option_map links (get n p) ≡ option_map links (get between p)) → ((p : Id) → (key p ≡ Some q) ↔ (after p ≡ Some q)) → IsFamily links m key list q → IsFamily links n after list q
    family-untouched m n between key after list q left right same lefts rights written keys is =
        let list_between : IsList links between list is.0 = record {
          chain = chain-kept links m between left right None list.first is.0 same (NoneIn-from left is.0 (λ p e has. lefts p e ((is.2 p).0 has))) (NoneIn-from right is.0 (λ p e has. rights p e ((is.2 p).0 has))) is.1.chain;
          no_two = is.1.no_two;
          count = is.1.count;
        } in
        (is.0, list-alike links with_links reads links between n list is.0 written list_between, λ p. ((λ has. (keys p).0 ((is.2 p).0 has)), (λ e. (is.2 p).1 ((keys p).1 e))))

    -- an item with no key, put before the first of a key's list
    pub families-pushed : (m n : Items T) (key after : Id → Option K) (heads later : K → IdList L) (k : K) (j : Id) → IsSome (get m j) → key j ≡ None → after j ≡ Some k → ((q : Id) → q ≢ j → after q ≡ key q) → ((q : Id) → option_map links (get n q) ≡ option_map links (get (with_front links with_links m (heads k).first j) q)) → ChangesHead heads later k (list_with_front (heads k) j) → IsListedBy links m key heads → IsListedBy links n after later
    families-pushed m n key after heads later k j live none mine others written changes is q = by (changes q)
      where
        between : Items T
        between = with_front links with_links m (heads k).first j

        not_mine : (p : Id) (t : K) → key p ≡ Some t → p ≢ j
        not_mine p t e same = none_some (key j) t none (ap key (sym same) ∙ e)

        here : IsFamily links n after (list_with_front (heads k) j) k
        here =
            let old = is k in
            let free = NotIn-from j old.0 (λ has. not_mine j k ((old.2 j).0 has) refl) in
            let list = front_list {L = L} links with_links reads m (heads k) j old.0 old.1 free live in
            (j ∷ old.0, list-alike links with_links reads links between n _ (j ∷ old.0) written list, λ p. (there p old.0 (λ i. (old.2 p).0 i), back p old.0 (λ e. (old.2 p).1 e) (same_or_other p j)))
          where
            there : (p : Id) (ids : Ids) → (IsIn p ids → key p ≡ Some k) → (p ≡ j) ⊎ IsIn p ids → after p ≡ Some k
            there p ids has (inl e) = ap after e ∙ mine
            there p ids has (inr i) = others p (not_mine p k (has i)) ∙ has i

            back : (p : Id) (ids : Ids) → (key p ≡ Some k → IsIn p ids) → (p ≡ j) ⊎ (p ≢ j) → after p ≡ Some k → (p ≡ j) ⊎ IsIn p ids
            back p ids has (inl e) is_k = inl e
            back p ids has (inr other) is_k = inr (has (sym (others p other) ∙ is_k))

        by : ((q ≡ k) × (later q ≡ list_with_front (heads k) j)) ⊎ ((q ≢ k) × (later q ≡ heads q)) → IsFamily links n after (later q) q
        by (inl (e, list)) = family-same n after (list_with_front (heads k) j) (later q) k q list e here
        by (inr (other, list)) =
            let first_key : (p : Id) → Some p ≡ (heads k).first → key p ≡ Some k = λ p e. family-begins m key (heads k) k (is k) p (sym e) in
            let family = family-untouched m n between key after (heads q) q (heads k).first (Some j) (with_front-same links with_links reads m (heads k).first j)
            (λ p e has. other (some_same q k (sym has ∙ first_key p e)))
            (λ p e has. not_mine p q has (some_same p j e))
            written (λ p. (keys p)) (is q) in
            family-same n after (heads q) (later q) q q list refl family
          where
            keys : (p : Id) → (key p ≡ Some q) ↔ (after p ≡ Some q)
            keys p = ((λ e. others p (not_mine p q e) ∙ e), back (same_or_other p j))
              where
                back : (p ≡ j) ⊎ (p ≢ j) → after p ≡ Some q → key p ≡ Some q
                back (inl e) has = absurd (other (some_same q k (sym has ∙ ap after e ∙ mine)))
                back (inr away) has = sym (others p away) ∙ has

    -- an item taken out of its key's list
    pub families-unlinked : (m n : Items T) (key after : Id → Option K) (heads later : K → IdList L) (k : K) (j : Id) → key j ≡ Some k → after j ≡ None → ((q : Id) → q ≢ j → after q ≡ key q) → ((q : Id) → option_map links (get n q) ≡ option_map links (get (without links with_links m j) q)) → ChangesHead heads later k (list_without links m (heads k) j) → IsListedBy links m key heads → IsListedBy links n after later
    families-unlinked m n key after heads later k j mine none others written changes is q = by (changes q)
      where
        between : Items T
        between = without links with_links m j

        split : (front : Ids) × (back : Ids) × ((is k).0 ≡ front ++ j ∷ back)
        split = IsIn-split j (is k).0 (((is k).2 j).1 mine)

        whole : IsList links m (heads k) (split.0 ++ j ∷ split.1)
        whole = subst (IsList links m (heads k)) split.2 (is k).1

        members : (p : Id) → IsIn p (split.0 ++ j ∷ split.1) ↔ (key p ≡ Some k)
        members p = subst (λ ids. IsIn p ids ↔ (key p ≡ Some k)) split.2 ((is k).2 p)

        not_after : (p : Id) (t : K) → after p ≡ Some t → p ≢ j
        not_after p t e same = none_some (after j) t none (ap after (sym same) ∙ e)

        out : NotIn j (split.0 ++ split.1)
        out =
            let parts = NoTwo-parts split.0 (j ∷ split.1) whole.no_two in
            NotIn-both j split.0 split.1 (NoneShared-head split.0 j split.1 parts.2) parts.1.0

        here : IsFamily links n after (list_without links m (heads k) j) k
        here =
            let list = list_out {L = L} links with_links reads m (heads k) j split.0 split.1 whole in
            (split.0 ++ split.1, list-alike links with_links reads links between n _ (split.0 ++ split.1) written list, λ p. ((λ has. there p has (IsIn-parts p split.0 split.1 has)), back p))
          where
            there : (p : Id) → IsIn p (split.0 ++ split.1) → IsIn p split.0 ⊎ IsIn p split.1 → after p ≡ Some k
            there p has (inl i) = others p (λ e. never_both j (split.0 ++ split.1) (subst (λ t. IsIn t (split.0 ++ split.1)) e has) out) ∙ (members p).0 (IsIn-front p split.0 (j ∷ split.1) i)
            there p has (inr i) = others p (λ e. never_both j (split.0 ++ split.1) (subst (λ t. IsIn t (split.0 ++ split.1)) e has) out) ∙ (members p).0 (IsIn-back p split.0 (j ∷ split.1) (inr i))

            back : (p : Id) → after p ≡ Some k → IsIn p (split.0 ++ split.1)
            back p e = from (IsIn-parts p split.0 (j ∷ split.1) ((members p).1 (sym (others p (not_after p k e)) ∙ e)))
              where
                from : IsIn p split.0 ⊎ ((p ≡ j) ⊎ IsIn p split.1) → IsIn p (split.0 ++ split.1)
                from (inl i) = IsIn-front p split.0 split.1 i
                from (inr (inl same)) = absurd (not_after p k e same)
                from (inr (inr i)) = IsIn-back p split.0 split.1 i

        own : links_at links m j ≡ record { next = first_of split.1; prev = last_or None split.0 }
        own = links_at-between links with_links reads m j split.0 split.1 (chain-at links with_links reads m (heads k).first split.0 j split.1 whole.chain).0

        prev_key : (p : Id) → Some p ≡ (links_at links m j).prev → key p ≡ Some k
        prev_key p e = (members p).0 (IsIn-front p split.0 (j ∷ split.1) (last-IsIn split.0 p (e ∙ ap (λ l. l.prev) own)))

        next_key : (p : Id) → Some p ≡ (links_at links m j).next → key p ≡ Some k
        next_key p e = (members p).0 (IsIn-back p split.0 (j ∷ split.1) (inr (first-IsIn split.1 p (e ∙ ap (λ l. l.next) own))))

        by : ((q ≡ k) × (later q ≡ list_without links m (heads k) j)) ⊎ ((q ≢ k) × (later q ≡ heads q)) → IsFamily links n after (later q) q
        by (inl (e, list)) = family-same n after (list_without links m (heads k) j) (later q) k q list e here
        by (inr (other, list)) =
            let family = family-untouched m n between key after (heads q) q (links_at links m j).prev (links_at links m j).next
            (with_ends-same links with_links reads m (links_at links m j).prev (links_at links m j).next (links_at links m j).next (links_at links m j).prev)
            (λ p e has. other (some_same q k (sym has ∙ prev_key p e)))
            (λ p e has. other (some_same q k (sym has ∙ next_key p e)))
            written (λ p. (keys p)) (is q) in
            family-same n after (heads q) (later q) q q list refl family
          where
            keys : (p : Id) → (key p ≡ Some q) ↔ (after p ≡ Some q)
            keys p = ((λ e. others p (λ same. other (some_same q k (sym e ∙ ap key same ∙ mine))) ∙ e), (λ e. sym (others p (not_after p q e)) ∙ e))
