-- A chain from which a member is taken out: who is left, at which positions, and what is sent to
-- its servers. Lists only.
use Rattle.std.specs.List.{last_or}
use Rattle.std.proofs.Common.{◌≡◌, ◌⊎◌, ℕ, true, false, ◌==◌, List, [], ◌∷◌, ◌++◌, map, Option, Some, None, refl, ap, ◌∙◌, inl, inr, eqb-true, eq-eqb}
use Rattle.zcalls.specs.declared.call.Entry.{Entry}
use Rattle.zcalls.specs.Lists.{Among, ComesBefore, NoTwo}
use Rattle.zcalls.proofs.Among.{test}
use Rattle.zprotocol.specs.server.View.{Post, Neighbour, Transfer}
use Rattle.zprotocol.specs.master.Table as master
use Rattle.zlinearizability.proofs.legal_lemmas.lists.Members.{among_right}
use Rattle.zlinearizability.specs.chain.Chain.{Place, place_behind, place_from}

-- the members of a chain
abbrev pub ids : List Neighbour → List ℕ
ids chain = map (λ (m : Neighbour). m.0) chain

-- of two chains one after the other
pub ids_append : (front rest : List Neighbour) → ids (front ++ rest) ≡ ids front ++ ids rest
ids_append [] rest = refl
ids_append (a ∷ front) rest = ap (λ l. a.0 ∷ l) (ids_append front rest)

-- a member, and who is before and after it
pub record Stands (chain : List Neighbour) (x : ℕ) : Type 0 where
  pub front : List Neighbour
  pub epoch : ℕ
  pub rest : List Neighbour
  pub is : chain ≡ front ++ (x, epoch) ∷ rest
  pub first : Among x (ids front) → ⊥

-- each member is somewhere
pub stands : (chain : List Neighbour) (x : ℕ) → Among x (ids chain) → Stands chain x
stands [] x h = absurd h
stands (a ∷ chain) x h = elim (test (a.0 == x)) [
  | inl t ↦ let same : a.0 ≡ x = eqb-true _ _ t in record { front = []; epoch = a.1; rest = chain; is = λ i. (same i, a.1) ∷ chain; first = λ b. b }
  | inr f ↦ let more = stands chain x (there f h) in
      record {
        front = a ∷ more.front;
        epoch = more.epoch;
        rest = more.rest;
        is = ap (λ l. a ∷ l) more.is;
        first = λ b.
            apart f more.front more.first b;
      }
]
  where
    there : (a.0 == x) ≡ false → Among x (ids (a ∷ chain)) → Among x (ids chain)
    there f (inl e) = let t : (a.0 == x) ≡ true = eq-eqb a.0 x e in absurd (cc (f, t))
    there f (inr b) = b

    apart : (a.0 == x) ≡ false → (front : List Neighbour) → (Among x (ids front) → ⊥) → Among x (ids (a ∷ front)) → ⊥
    apart f front none (inl e) = let t : (a.0 == x) ≡ true = eq-eqb a.0 x e in absurd (cc (f, t))
    apart f front none (inr b) = none b

-- who is left after one, or as the first, and which orders are sent
abbrev pub repair : Option ℕ → ℕ → List Neighbour → List Neighbour × List (Post (List Entry))
repair None epoch rest = master.without_first epoch rest
repair (Some p) epoch rest = master.without_next epoch p rest

-- the table, by who is before the member that is taken out
mended_behind_is : (epoch x p k : ℕ) (front rest : List Neighbour) → (Among x (ids front) → ⊥)
    → master.mended_chain_behind {T = Transfer (List Entry)} epoch x p (front ++ (x, k) ∷ rest)
    ≡ (front ++ (repair (last_or (Some p) (ids front)) epoch rest).0, (repair (last_or (Some p) (ids front)) epoch rest).1)
mended_behind_is epoch x p k [] rest apart = let own : (x == x) ≡ true = eq-eqb x x refl in rw own refl
mended_behind_is epoch x p k (a ∷ front) rest apart = elim (test (a.0 == x)) [
  | inl t ↦ absurd (apart (inl (eqb-true _ _ t)))
  | inr f ↦ rw f (ap (λ (l : List Neighbour × List (Post (List Entry))). (a ∷ l.0, l.1))
      (mended_behind_is epoch x a.0 k front rest (λ b. apart (inr b))))
]

-- the chain without a member is its front, and the repair after it
pub mended_is : (epoch x k : ℕ) (front rest : List Neighbour) → (Among x (ids front) → ⊥)
    → master.mended_chain {T = Transfer (List Entry)} epoch x (front ++ (x, k) ∷ rest)
    ≡ (front ++ (repair (last_or None (ids front)) epoch rest).0, (repair (last_or None (ids front)) epoch rest).1)
mended_is epoch x k [] rest apart = let own : (x == x) ≡ true = eq-eqb x x refl in rw own refl
mended_is epoch x k (a ∷ front) rest apart = elim (test (a.0 == x)) [
  | inl t ↦ absurd (apart (inl (eqb-true _ _ t)))
  | inr f ↦ rw f (ap (λ (l : List Neighbour × List (Post (List Entry))). (a ∷ l.0, l.1))
      (mended_behind_is epoch x a.0 k front rest (λ b. apart (inr b))))
]

-- the members that are left
repair_ids : (before : Option ℕ) (epoch : ℕ) (rest : List Neighbour) → ids (repair before epoch rest).0 ≡ ids rest
repair_ids None epoch [] = refl
repair_ids None epoch (r ∷ rest) = refl
repair_ids (Some p) epoch [] = refl
repair_ids (Some p) epoch (r ∷ rest) = refl

-- its members are all others
pub mended_ids : (before : Option ℕ) (epoch : ℕ) (front rest : List Neighbour) → ids (front ++ (repair before epoch rest).0) ≡ ids front ++ ids rest
mended_ids before epoch front rest = ids_append front (repair before epoch rest).0 ∙ ap (λ l. ids front ++ l) (repair_ids before epoch rest)

-- a position in a chain is among its front, whatever follows, or among what follows
pub place_cases : (before : Option ℕ) (front : List Neighbour) (z : ℕ)
    → ((place : Place) × Among z (ids front) × ((l : List Neighbour) → place_from before (front ++ l) z ≡ Some place))
    ⊎ ((l : List Neighbour) → place_from before (front ++ l) z ≡ place_from (last_or before (ids front)) l z)
place_cases before [] z = inr (λ l. refl)
place_cases before (a ∷ front) z = elim (test (a.0 == z)) [
  | inl t ↦ inl (place_behind before a.1, inl (eqb-true _ _ t), λ l. rw t refl)
  | inr f ↦ elim (place_cases (Some a.0) front z) [
    | inl h ↦ inl (h.0, inr h.1, λ l. rw f (h.2 l))
    | inr h ↦ inr (λ l. rw f (h l))
  ]
]

-- who has a position is a member
pub place_in : (before : Option ℕ) (chain : List Neighbour) (z : ℕ) (place : Place) → place_from before chain z ≡ Some place → Among z (ids chain)
place_in before [] z place h = absurd (cc h)
place_in before (a ∷ chain) z place h = elim (test (a.0 == z)) [
  | inl t ↦ inl (eqb-true _ _ t)
  | inr f ↦ inr (place_in (Some a.0) chain z place (rw f at h))
]

-- members that are distinct
pub apart_of : (xs ys : List ℕ) (x : ℕ) → NoTwo (λ (a b : ℕ). a ≡ b) (xs ++ ys) → Among x xs → Among x ys → ⊥
apart_of [] ys x h a b = a
apart_of (z ∷ xs) ys x h (inl e) b = h.0 x (among_right x xs ys b) e
apart_of (z ∷ xs) ys x h (inr a) b = apart_of xs ys x h.1 a b

-- who is taken out is no member any more
pub gone_of : (xs ys : List ℕ) (m : ℕ) → NoTwo (λ (a b : ℕ). a ≡ b) (xs ++ m ∷ ys) → Among m (xs ++ ys) → ⊥
gone_of [] ys m h a = h.0 m a refl
gone_of (x ∷ xs) ys m h (inl e) = h.0 m (among_right m xs (m ∷ ys) (inl refl)) e
gone_of (x ∷ xs) ys m h (inr a) = gone_of xs ys m h.1 a

-- the last of a list is a member, and no one is after it
pub last_in : (before : Option ℕ) (xs : List ℕ) (p : ℕ) → last_or before xs ≡ Some p → (before ≡ Some p) ⊎ Among p xs
last_in before [] p h = inl h
last_in before (x ∷ xs) p h = elim (last_in (Some x) xs p h) [ inl e ↦ inr (inl (cc e)) | inr a ↦ inr (inr a) ]

last_there : (x : ℕ) (xs : List ℕ) (p y : ℕ) → last_or (Some x) xs ≡ Some p → Among y xs → Among p xs
last_there x [] p y h a = absurd a
last_there x (z ∷ xs) p y h a = elim (last_in (Some z) xs p h) [ inl e ↦ inl (cc e) | inr b ↦ inr b ]

-- no one is after the last
pub nobody_behind : (before : Option ℕ) (xs : List ℕ) (p y : ℕ) → last_or before xs ≡ Some p → NoTwo (λ (a b : ℕ). a ≡ b) xs → ComesBefore p y xs → ⊥
nobody_behind before [] p y h apart b = b
nobody_behind before (x ∷ xs) p y h apart (inl b) = apart.0 p (last_there x xs p y h b.1) b.0
nobody_behind before (x ∷ xs) p y h apart (inr b) = nobody_behind (Some x) xs p y h apart.1 b
