-- Sent in order: where a search ends, and channels that are put in, taken out or left.
use Rattle.std.proofs.Common.{◌≡◌, ℕ, suc, ◌-◌, ◌<◌, ◌≤◌, Bool, true, false, List, [], ◌∷◌, ◌++◌, refl, sym, ap, subst, ◌∙◌, arith, inl, inr}
use Rattle.std.proofs.Common.{length, get_or, take, drop, set, filter, take-append-drop, length-take-le, take-suc, drop-cons, get_or-take}
use Rattle.std.proofs.Common.{drop-set-lt}
use Rattle.std.proofs.lemmas.List.{get_or_default, set_split, set-get_or, take-set}
use Rattle.std.specs.List.{AllByRecursion, remove}
use Rattle.zcalls.proofs.Among.{test}
use Rattle.zworld.specs.links.Places.{Channel, Sent, is_between}
use Rattle.zworld.specs.links.support.Order.{IsBefore, IsBehind, IsFrom, AreSorted, IsCountFrom, IsAround, IsFound, IsGap}
use Rattle.zworld.proofs.links_lemmas.Order.{behind_next, from_behind, between_places, behind_from}

module _ {X : Type 0} where
  -- what is true of each, of others too, of all but one, and of one
  pub each : {P Q : X → Type 0} → ((x : X) → P x → Q x) → (xs : List X) → AllByRecursion P xs → AllByRecursion Q xs
  each to [] all = tt
  each to (x ∷ xs) all = (to x all.0, each to xs all.1)

  all_with : (P : X → Type 0) (front back : List X) (x : X) → P x → AllByRecursion P (front ++ back) → AllByRecursion P (front ++ x ∷ back)
  all_with P [] back x is all = (is, all)
  all_with P (y ∷ front) back x is all = (all.0, all_with P front back x is all.1)

  all_without : (P : X → Type 0) (front back : List X) (x : X) → AllByRecursion P (front ++ x ∷ back) → AllByRecursion P (front ++ back)
  all_without P [] back x all = all.1
  all_without P (y ∷ front) back x all = (all.0, all_without P front back x all.1)

  all_middle : (P : X → Type 0) (front back : List X) (x : X) → AllByRecursion P (front ++ x ∷ back) → P x
  all_middle P [] back x all = all.0
  all_middle P (y ∷ front) back x all = all_middle P front back x all.1

  all_last : (P : X → Type 0) (front : List X) (x : X) → AllByRecursion P front → P x → AllByRecursion P (front ++ x ∷ [])
  all_last P [] x all is = (is, tt)
  all_last P (y ∷ front) x all is = (all.0, all_last P front x all.1 is)

  all_left : (P : X → Type 0) (p : X → Bool) (xs : List X) → AllByRecursion P xs → AllByRecursion P (filter p xs)
  all_left P p [] all = tt
  all_left P p (x ∷ xs) all = elim (test (p x)) [
    | inl passes ↦ rw passes (all.0, all_left P p xs all.1)
    | inr fails ↦ rw fails (all_left P p xs all.1)
  ]

  -- a list around one of its items
  pub around_item : (xs : List X) (at : ℕ) (x : X) → at < length xs → x ≡ get_or xs at x → xs ≡ take at xs ++ x ∷ drop (suc at) xs
  around_item xs at x within read = sym (set-get_or xs at x) ∙ ap (λ y. set xs at y) (sym read) ∙ set_split xs at x within

  -- and without it, whatever was written there
  pub removed_set : (xs : List X) (at : ℕ) (x : X) → take at (set xs at x) ++ drop (suc at) (set xs at x) ≡ take at xs ++ drop (suc at) xs
  removed_set xs at x = rw (take-set xs at x, drop-set-lt (suc at) xs at x (omega arith)) refl

  -- a list without its last one
  pub remove_last : (xs : List X) (x : X) (at : ℕ) → length xs ≡ at → remove (xs ++ x ∷ []) at ≡ xs
  remove_last xs x at is = ap (λ i. remove (xs ++ x ∷ []) i) (sym is) ∙ last_gone xs where
    last_gone : (ys : List X) → remove (ys ++ x ∷ []) (length ys) ≡ ys
    last_gone [] = refl
    last_gone (y ∷ ys) = ap (λ zs. y ∷ zs) (last_gone ys)

module _ {T : Type 0} where
  -- one that is put in, and one that is taken out
  sorted_with : (front back : Sent T) (c : Channel T) → AllByRecursion (λ other. IsBehind other c.from c.to) front
      → AllByRecursion (λ other. IsBefore other c.from c.to) back → AreSorted (front ++ back) → AreSorted (front ++ c ∷ back)
  sorted_with [] back c behind before sorted = (before, sorted)
  sorted_with (d ∷ front) back c behind before sorted =
      (all_with (λ other. IsBehind d other.from other.to) front back c behind.0 sorted.0, sorted_with front back c behind.1 before sorted.1)

  sorted_without : (front back : Sent T) (c : Channel T) → AreSorted (front ++ c ∷ back) → AreSorted (front ++ back)
  sorted_without [] back c sorted = sorted.1
  sorted_without (d ∷ front) back c sorted =
      (all_without (λ other. IsBehind d other.from other.to) front back c sorted.0, sorted_without front back c sorted.1)

  -- those in front of one come after it in the order
  sorted_front : (front back : Sent T) (c : Channel T) → AreSorted (front ++ c ∷ back)
      → AllByRecursion (λ other. IsBehind other c.from c.to) front
  sorted_front [] back c sorted = tt
  sorted_front (d ∷ front) back c sorted =
      (all_middle (λ other. IsBehind d other.from other.to) front back c sorted.0, sorted_front front back c sorted.1)

  -- the last of that many channels
  module _ (channels : Sent T) (c : Channel T) (n count : ℕ) (is : suc n ≡ count) (inside : count ≤ length channels) (read : c ≡ get_or channels n c)
      (from to : ℕ) where
    within : n < length channels
    within = omega (arith, is, inside)

    -- where it is from these positions on, all are
    pub sorted_from : AreSorted channels → IsFrom c from to → AllByRecursion (λ other. IsFrom other from to) (take count channels)
    sorted_from sorted here =
        let whole : AreSorted (take n channels ++ c ∷ drop (suc n) channels) =
        subst (λ cs. AreSorted cs) (around_item channels n c within read) sorted in
        let counted : take count channels ≡ take n channels ++ c ∷ [] =
        ap (λ m. take m channels) (sym is) ∙ take-suc channels n c within ∙ ap (λ d. take n channels ++ d ∷ []) (sym read) in
        subst (λ cs. AllByRecursion (λ other. IsFrom other from to) cs) (sym counted)
        (all_last (λ other. IsFrom other from to) (take n channels) c
        (each (λ other behind. from_behind other from to (behind_next other c from to behind here)) (take n channels)
        (sorted_front (take n channels) (drop (suc n) channels) c whole))
        here)

    -- where it comes before them, with all others after it in the list, these are one more
    pub one_more : IsBefore c from to → AllByRecursion (λ other. IsBefore other from to) (drop count channels)
        → AllByRecursion (λ other. IsBefore other from to) (drop n channels)
    one_more before all =
        subst (λ cs. AllByRecursion (λ other. IsBefore other from to) cs)
        (sym (drop-cons channels n c within ∙ ap (λ d. d ∷ drop (suc n) channels) (sym read)))
        (before, subst (λ m. AllByRecursion (λ other. IsBefore other from to) (drop m channels)) (sym is) all)

  pub sorted_left : (p : Channel T → Bool) (channels : Sent T) → AreSorted channels → AreSorted (filter p channels)
  sorted_left p [] sorted = tt
  sorted_left p (c ∷ cs) sorted = elim (test (p c)) [
    | inl passes ↦ rw passes (all_left (λ other. IsBehind c other.from other.to) p cs sorted.0, sorted_left p cs sorted.1)
    | inr fails ↦ rw fails (sorted_left p cs sorted.1)
  ]

  -- what is between these positions is put there, or nothing
  pub sorted_at : (front back : Sent T) (from to : ℕ) (c : Channel T) → IsAround front back from to → c.from ≡ from → c.to ≡ to
      → AreSorted (front ++ c ∷ back)
  sorted_at front back from to c around here there =
      sorted_with front back c
      (each (λ other behind. rw (here, there) behind) front around.behind)
      (each (λ other before. rw (here, there) before) back around.before)
      around.sorted

  -- the front of a list, where its last one isn't between these positions
  front_behind : (front back : Sent T) (from to : ℕ) → AreSorted (front ++ back) → AllByRecursion (λ c. IsFrom c from to) front
      → ((c : Channel T) (n : ℕ) → suc n ≡ length front → c ≡ get_or front n c → is_between c from to ≡ false)
      → AllByRecursion (λ c. IsBehind c from to) front
  front_behind [] back from to sorted are last = tt
  front_behind (c ∷ []) back from to sorted are last = (behind_from c from to are.0 (last c 0 (omega arith) refl), tt)
  front_behind (c ∷ d ∷ front) back from to sorted are last = (
    behind_next c d from to sorted.0.0 are.1.0,
    front_behind (d ∷ front) back from to sorted.1 are.1 (λ e n is read. last e (suc n) (omega (arith, is)) read),
  )

  module _ (channels : Sent T) (from to count : ℕ) (sorted : AreSorted channels) (searched : IsCountFrom channels from to count) where
    -- no channel is there
    pub gap_at : ((c : Channel T) → 0 < count → c ≡ get_or channels (count - 1) c → is_between c from to ≡ false) → IsGap channels from to count
    gap_at other =
        let whole : AreSorted (take count channels ++ drop count channels) =
        subst (λ cs. AreSorted cs) (sym (take-append-drop count channels)) sorted in
        record {
          within = searched.within;
          around = record {
            behind = front_behind (take count channels) (drop count channels) from to whole searched.counted (λ c n is read.
                let here : suc n ≡ count = is ∙ length-take-le count channels searched.within in
                let last : n ≡ count - 1 = omega (arith, here) in
                other c (omega (arith, here))
                (read ∙ get_or-take count channels n c (omega (arith, here)) ∙ ap (λ m. get_or channels m c) last));
            before = searched.before;
            sorted = whole;
          };
        }

    -- or one does
    pub found_at : (c : Channel T) (n : ℕ) → suc n ≡ count → c ≡ get_or channels n c → is_between c from to ≡ true → IsFound channels from to n
    found_at c n is read between =
        let within : n < length channels = omega (arith, is, searched.within) in
        let places = between_places c from to between in
        let whole : AreSorted (take n channels ++ c ∷ drop (suc n) channels) =
        subst (λ cs. AreSorted cs) (around_item channels n c within read) sorted in
        record {
          within = within;
          places = λ d same.
              let one : c ≡ d = read ∙ get_or_default channels n c d within ∙ sym same in
              subst (λ (e : Channel T). (e.from ≡ from) × (e.to ≡ to)) one places;
          around = record {
            behind = each (λ other next. rw (← places.0, ← places.1) next) (take n channels)
                (sorted_front (take n channels) (drop (suc n) channels) c whole);
            before = subst (λ m. AllByRecursion (λ other. IsBefore other from to) (drop m channels)) (sym is) searched.before;
            sorted = sorted_without (take n channels) (drop (suc n) channels) c whole;
          };
        }
