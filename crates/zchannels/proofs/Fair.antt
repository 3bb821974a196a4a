-- Each step preserves the rule of the ticket word.
use Rattle.std.proofs.Common.{◌≡◌, ℕ, zero, suc, ◌+◌, ◌*◌, ◌-◌, ◌%◌, ◌^◌, ◌<◌, ◌≤◌, List, [], ◌∷◌, ◌++◌, length, set, eq-eqb, ne_eqb, sym, refl, ap, ◌∙◌, subst, ⊎_elim, length-append, append-nil, append_assoc, All, slice_index, mod-eq_of_lt, arith}
use mathlib.Core.Option.{some, some-injective, some-ne-none}
use mathlib.Core.Logic.{dite}
use native.Mathlib.Decide.{ℕ_discrete}
use lib.ListN.{get_elem?}
use Rattle.atomic_table.specs.Table.{State, Allows, Splits, Joins, Final, Seen, keeps}
use Rattle.atomic_table.proofs.Lists.{at_set, at_snoc}
use Rattle.zchannels.specs.declared.hand.Hand.{Hand}
use Rattle.zchannels.specs.Given.{hand, one_if, same, times, total, EachOnce, Fits, Given}
use Rattle.zchannels.specs.declared.tickets.Pass.{Pass}
use Rattle.atomic_table.specs.Seated.{TableId}
use Rattle.zchannels.specs.Passes.{tickets_of, tickets_of_all}

total_set : (f : Hand → ℕ) (views : List Hand) (seat : ℕ) (v w : Hand) → get_elem? views seat ≡ some v → total f (set views seat w) + f v ≡ total f views + f w
total_set f [] seat v w at = absurd (some-ne-none v (sym at))
total_set f (u ∷ us) zero v w at = let e : f u ≡ f v = ap f (some-injective u v at) in omega arith
total_set f (u ∷ us) (suc seat) v w at = let r = total_set f us seat v w at in omega arith

total_snoc : (f : Hand → ℕ) (views : List Hand) (w : Hand) → total f (views ++ w ∷ []) ≡ total f views + f w
total_snoc f [] w = omega arith
total_snoc f (u ∷ us) w = let r = total_snoc f us w in omega arith

times_append : (x : ℕ) (xs ys : List ℕ) → times x (xs ++ ys) ≡ times x xs + times x ys
times_append x [] ys = omega arith
times_append x (y ∷ xs) ys = let r = times_append x xs ys in omega arith

times_empty : (x : ℕ) (xs : List ℕ) → length xs ≤ 0 → times x xs ≡ 0
times_empty x [] h = refl
times_empty x (y ∷ ys) h = absurd (omega arith)

bounded : (views : List Hand) → Fits views → total (λ v. length v.drawn) views ≤ 2 ^ 32 * total (λ v. v.parts) views
bounded [] fits = omega arith
bounded (v ∷ vs) fits =
    let a = fits 0 v refl in
    let r = bounded vs (λ seat u at. fits (suc seat) u at) in
    omega arith

fits_set : (views : List Hand) (seat : ℕ) (w : Hand) → Fits views → length w.drawn ≤ 2 ^ 32 * w.parts → Fits (set views seat w)
fits_set views seat w fits mine j u at =
    ⊎_elim (λ h. subst (λ (y : Hand). length y.drawn ≤ 2 ^ 32 * y.parts) h.1 mine) (λ h. fits j u h.1) (at_set views seat j w u at)

fits_snoc : (views : List Hand) (w : Hand) → Fits views → length w.drawn ≤ 2 ^ 32 * w.parts → Fits (views ++ w ∷ [])
fits_snoc views w fits mine j u at =
    ⊎_elim (λ h. fits j u h) (λ h. subst (λ (y : Hand). length y.drawn ≤ 2 ^ 32 * y.parts) h mine) (at_snoc views w u j at)

-- a new number is counted once more
once_more : (n : ℕ) (count count' : ℕ → ℕ) → EachOnce n count → ((x : ℕ) → count' x ≡ count x + same n x) → EachOnce (n + 1) count'
once_more n count count' once more x =
    dite (ℕ_discrete n x)
    (λ e. let one : same n x ≡ 1 = ap one_if (eq-eqb n x e) in let a = (once x).1 in let b = more x in ((λ h. omega arith), (λ h. omega arith)))
    (λ ne. let none : same n x ≡ 0 = ap one_if (ne_eqb n x ne) in let a = once x in let b = more x in ((λ h. let c = a.0 (omega arith) in omega arith), (λ h. let c = a.1 (omega arith) in omega arith)))

word_set : (ws : List ℕ) (y : ℕ) → length ws ≡ 1 → (length (set ws 0 y) ≡ 1) × (slice_index (set ws 0 y) 0 ≡ y)
word_set [] y one = absurd (omega arith)
word_set (x ∷ ws) y one = (one, refl)

-- a draw
pub draws : (n slots id : ℕ) (v : Hand) (c : List (ℕ × Unit {0})) → n ≤ 32 → v.parts ≡ 1 → length v.drawn < 2 ^ 32
    → Allows (Given n) slots id (v, c) 0 (λ m. (m + 1) % 2 ^ 64) (λ found w. w ≡ (hand v.parts (v.drawn ++ found ∷ []), c))
draws n slots id v c few one room s rule homes at small =
    let m = slice_index s.words 0 in
    let w = hand v.parts (v.drawn ++ m ∷ []) in
    let long : length (v.drawn ++ m ∷ []) ≡ length v.drawn + 1 = omega (arith, length-append v.drawn (m ∷ [])) in
    let most = bounded s.views rule.4 in
    let parts = rule.1 in
    let lens = rule.2 in
    let next : (m + 1) % 2 ^ 64 ≡ m + 1 = mod-eq_of_lt (omega arith) in
    let words = word_set s.words ((m + 1) % 2 ^ 64) rule.0 in
    let word : slice_index (set s.words 0 ((m + 1) % 2 ^ 64)) 0 ≡ m + 1 = words.1 ∙ next in
    let p = total_set (λ u. u.parts) s.views id v w at in
    let l = total_set (λ u. length u.drawn) s.views id v w at in (
      w,
      keeps,
      tt,
      (
        words.0,
        omega arith,
        omega arith,
        subst (λ k. EachOnce k (λ x. total (λ u. times x u.drawn) (set s.views id w))) (sym word)
            (once_more m (λ x. total (λ u. times x u.drawn) s.views) (λ x. total (λ u. times x u.drawn) (set s.views id w)) rule.3
            (λ x. let t = total_set (λ u. times x u.drawn) s.views id v w at in omega (arith, times_append x v.drawn (m ∷ [])))),
        fits_set s.views id w rule.4 (omega arith),
      ),
      refl,
    )

-- one part is dealt out
pub deals : (n id : ℕ) (v : Hand) → 0 < v.parts → v.drawn ≡ [] → Splits (Given n) id v (hand (v.parts - 1) v.drawn) (hand 1 [])
deals n id v some_part none s rule at =
    let l = hand (v.parts - 1) v.drawn in
    let empty : length v.drawn ≡ 0 = ap length none in
    let parts = rule.1 in
    let lens = rule.2 in
    let p = total_set (λ u. u.parts) s.views id v l at in
    let q = total_snoc (λ u. u.parts) (set s.views id l) (hand 1 []) in
    let p' = total_set (λ u. length u.drawn) s.views id v l at in
    let q' = total_snoc (λ u. length u.drawn) (set s.views id l) (hand 1 []) in (
      rule.0,
      omega arith,
      omega arith,
      λ x.
          let t = total_set (λ u. times x u.drawn) s.views id v l at in
          let t' = total_snoc (λ u. times x u.drawn) (set s.views id l) (hand 1 []) in
          let r = rule.3 x in
          ((λ h. let c = r.0 h in omega arith), (λ h. let c = r.1 h in omega arith)),
      fits_snoc (set s.views id l) (hand 1 []) (fits_set s.views id l rule.4 (omega arith)) (omega arith),
    )

-- two passes become one
pub merges : (n id : ℕ) (v : Hand) (other : ℕ) (u : Hand) → Joins (Given n) id v other u (hand (v.parts + u.parts) (u.drawn ++ v.drawn)) (hand 0 [])
merges n id v other u s rule at apart at' =
    let b = hand (v.parts + u.parts) (u.drawn ++ v.drawn) in
    let z = hand 0 [] in
    let views = set s.views id b in
    let was : get_elem? s.views other ≡ some u = ⊎_elim (λ h. absurd (apart h.0)) (λ h. h.1) (at_set s.views id other b u at') in
    let long : length (u.drawn ++ v.drawn) ≡ length u.drawn + length v.drawn = length-append u.drawn v.drawn in
    let mine = rule.4 id v at in
    let theirs = rule.4 other u was in
    let parts = rule.1 in
    let lens = rule.2 in
    let p = total_set (λ y. y.parts) s.views id v b at in
    let q = total_set (λ y. y.parts) views other u z at' in
    let p' = total_set (λ y. length y.drawn) s.views id v b at in
    let q' = total_set (λ y. length y.drawn) views other u z at' in (
      rule.0,
      omega arith,
      omega arith,
      λ x.
          let t = total_set (λ y. times x y.drawn) s.views id v b at in
          let t' = total_set (λ y. times x y.drawn) views other u z at' in
          let a = times_append x u.drawn v.drawn in
          let r = rule.3 x in
          ((λ h. let c = r.0 h in omega arith), (λ h. let c = r.1 h in omega arith)),
      fits_set views other z (fits_set s.views id b rule.4 (omega arith)) (omega arith),
    )

-- where one pass has every part, no other has a ticket
none_left : (views : List Hand) → Fits views → total (λ v. v.parts) views ≡ 0 → (x : ℕ) → total (λ v. times x v.drawn) views ≡ 0
none_left [] fits none x = refl
none_left (v ∷ vs) fits none x =
    let r = none_left vs (λ seat u at. fits (suc seat) u at) (omega arith) x in
    let a = fits 0 v refl in
    let b = times_empty x v.drawn (omega arith) in
    omega arith

all_mine : (views : List Hand) (id : ℕ) (v : Hand) → Fits views → get_elem? views id ≡ some v → total (λ u. u.parts) views ≡ v.parts → (x : ℕ) → total (λ u. times x u.drawn) views ≡ times x v.drawn
all_mine views id v fits at whole x =
    let z = hand 0 [] in
    let p = total_set (λ u. u.parts) views id v z at in
    let t = total_set (λ u. times x u.drawn) views id v z at in
    let r = none_left (set views id z) (fits_set views id z fits (omega arith)) (omega arith) x in
    omega arith

-- what the pass with every part has drawn is each number below the word, once
pub settles : (n id : ℕ) (v : Hand) (s : State (Unit {0}) Hand) → Given n s → get_elem? s.views id ≡ some v → v.parts ≡ n → EachOnce (slice_index s.words 0) (λ x. times x v.drawn)
settles n id v s rule at whole x =
    let e = all_mine s.views id v rule.4 at (let p = rule.1 in omega arith) x in
    let r = rule.3 x in
    ((λ h. let c = r.0 h in omega arith), (λ h. let c = r.1 h in omega arith))

pub all_snoc : (ps : List Pass) (p : Pass) → tickets_of_all (ps ++ p ∷ []) ≡ tickets_of_all ps ++ tickets_of p
all_snoc [] p = append-nil (tickets_of p)
all_snoc (q ∷ ps) p = ap (λ l. tickets_of q ++ l) (all_snoc ps p) ∙ sym (append_assoc (tickets_of q) (tickets_of_all ps) (tickets_of p))

abbrev pub all_of : TableId → List Pass → Type 0
all_of t ps = All (λ p. p.seat.table_id ≡ t) ps

pub all_front : (t : TableId) (ps : List Pass) (p : Pass) → all_of t (ps ++ p ∷ []) → all_of t ps
all_front t [] p h k d lt = absurd (omega arith)
all_front t (q ∷ ps) p h zero d lt = h zero d (omega arith)
all_front t (q ∷ ps) p h (suc k) d lt = all_front t ps p (λ j e l. h (suc j) e (omega arith)) k d (omega arith)

pub all_last : (t : TableId) (ps : List Pass) (p : Pass) → all_of t (ps ++ p ∷ []) → p.seat.table_id ≡ t
all_last t [] p h = h zero p (omega arith)
all_last t (q ∷ ps) p h = all_last t ps p (λ j e l. h (suc j) e (omega arith))

pub all_more : (P : Pass → Type 0) (ps : List Pass) (p : Pass) → All P ps → P p → All P (ps ++ p ∷ [])
all_more P [] p h mine zero d lt = mine
all_more P [] p h mine (suc k) d lt = absurd (omega arith)
all_more P (q ∷ ps) p h mine zero d lt = h zero d (omega arith)
all_more P (q ∷ ps) p h mine (suc k) d lt = all_more P ps p (λ j e l. h (suc j) e (omega arith)) mine k d (omega arith)

pub no_passes : (ps : List Pass) → length ps ≡ 0 → ps ≡ []
no_passes [] e = refl
no_passes (p ∷ ps) e = absurd (omega arith)

first_word : (ws : List ℕ) (r : ℕ) → get_elem? ws 0 ≡ some r → slice_index ws 0 ≡ r
first_word [] r e = absurd (some-ne-none r (sym e))
first_word (w ∷ ws) r e = some-injective w r e

-- where the seat with every part closes the table, what it has drawn is each number below the word
pub closes : (n id : ℕ) (v : Hand) (ws : List ℕ) (xs : List (Unit {0})) (r : ℕ) → Final (Seen (Given n) id v) ws xs → v.parts ≡ n → get_elem? ws 0 ≡ some r → EachOnce r (λ x. times x v.drawn)
closes n id v ws xs r f whole at =
    subst (λ k. EachOnce k (λ x. times x v.drawn)) (ap (λ l. slice_index l 0) f.2 ∙ first_word ws r at) (settles n id v f.0 f.1.0 f.1.1 whole)
