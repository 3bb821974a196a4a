-- Each step preserves the rule of the halt word.
use Rattle.std.proofs.Common.{◌≡◌, ◌⊎◌, ◌<◌, ◌≤◌, ◌+◌, ◌-◌, ◌==◌, if◌then◌else◌, eqb-true, Bool, true, false, ℕ, zero, suc, List, [], ◌∷◌, ◌++◌, length, set, sym, refl, ap, ◌∙◌, subst, inl, inr, ⊎_elim, slice_index, bit_or, arith}
use Rattle.std.proofs.lemmas.Nat.Bits.{bit_at_or, bit_at-zero, bit_at-lt}
use Rattle.std.specs.Int.{bit_at}
use mathlib.Core.Option.{some, some-injective, some-ne-none}
use mathlib.Core.Logic.{dite}
use native.Mathlib.Decide.{ℕ_discrete}
use lib.ListN.{get_elem?}
use Rattle.atomic_table.specs.Table.{Allows, Splits, keeps, opening}
use Rattle.atomic_table.proofs.Lists.{at_set, at_snoc, at_longer, set_else, set_here}
use Rattle.zchannels.specs.declared.halt_rule.Known.{Known}
use Rattle.zchannels.specs.Raised.{known, IsKnown, NoneIsSet, parts_in, parts_unknowing, Raised, Within}

word_set : (ws : List ℕ) (y : ℕ) → length ws ≡ 1 → (length (set ws 0 y) ≡ 1) × (slice_index (set ws 0 y) 0 ≡ y)
word_set [] y one = absurd (omega arith)
word_set (x ∷ ws) y one = (one, refl)

pub within_or : (a b k : ℕ) → Within a b → Within (bit_or a k) (bit_or b k)
within_or a b k h i =
    let w = h i in
    let x = bit_at_or a k i in
    let y = bit_at_or b k i in
    omega (arith)

pub or_within : (a k : ℕ) → Within a (bit_or a k)
or_within a k i = let x = bit_at_or a k i in omega arith

-- a bit of both is a bit of one
either_bit : (m k i : ℕ) → bit_at (bit_or m k) i ≡ 1 → (bit_at m i ≡ 1) ⊎ (bit_at k i ≡ 1)
either_bit m k i is =
    let o = bit_at_or m k i in
    let a = bit_at-lt m i in
    let b = bit_at-lt k i in
    dite (ℕ_discrete (bit_at m i) 1) (λ e. inl e) (λ ne. inr (omega (arith, ne)))

left_bit : (v k i : ℕ) → bit_at v i ≡ 1 → bit_at (bit_or v k) i ≡ 1
left_bit v k i is = let o = bit_at_or v k i in let b = bit_at-lt k i in omega arith

right_bit : (v k i : ℕ) → bit_at k i ≡ 1 → bit_at (bit_or v k) i ≡ 1
right_bit v k i is = let o = bit_at_or v k i in let b = bit_at-lt v i in omega arith

there : (views : List Known) (id : ℕ) (v : Known) → get_elem? views id ≡ some v → id < length views
there [] id v at = absurd (some-ne-none v (sym at))
there (x ∷ xs) zero v at = omega arith
there (x ∷ xs) (suc id) v at = let w = there xs id v at in omega arith

-- the parts, where a seat knows more, gives one away, or is new
parts_set : (views : List Known) (id : ℕ) (v w : Known) → get_elem? views id ≡ some v → parts_in (set views id w) + v.parts ≡ parts_in views + w.parts
parts_set [] id v w at = absurd (some-ne-none v (sym at))
parts_set (u ∷ us) zero v w at = let e : u.parts ≡ v.parts = ap (λ (x : Known). x.parts) (some-injective u v at) in omega (arith, e)
parts_set (u ∷ us) (suc id) v w at = let r = parts_set us id v w at in omega (arith, r)

parts_snoc : (views : List Known) (w : Known) → parts_in (views ++ w ∷ []) ≡ parts_in views + w.parts
parts_snoc [] w = omega arith
parts_snoc (u ∷ us) w = let r = parts_snoc us w in omega (arith, r)

-- what is known stays known where one seat knows more
known_more : (views : List Known) (id : ℕ) (v w : Known) (i : ℕ) → get_elem? views id ≡ some v → (bit_at v.bits i ≡ 1 → bit_at w.bits i ≡ 1)
    → IsKnown views i → IsKnown (set views id w) i
known_more views id v w i at more is =
    dite (ℕ_discrete is.0 id)
    (λ e.
    let same : is.1 ≡ v = some-injective is.1 v (sym is.2 ∙ ap (λ j. get_elem? views j) e ∙ at) in
    (id, w, set_here views id w (there views id v at), more (ap (λ (x : Known). bit_at x.bits i) (sym same) ∙ is.3)))
    (λ ne. (is.0, is.1, set_else views id is.0 w ne ∙ is.2, is.3))

-- nothing is set at the start
pub opens : (n : ℕ) → Raised n (opening (0 ∷ []) [] (known n 0))
opens n = (refl, omega arith, first, λ i is. absurd (let z = bit_at-zero i in omega arith), last)
  where
    first : (seat : ℕ) (v : Known) → get_elem? (known n 0 ∷ []) seat ≡ some v → Within v.bits 0
    first zero v at i =
        let z = bit_at-zero i in
        let s = ap (λ (k : Known). bit_at k.bits i) (some-injective (known n 0) v at) in
        omega (arith, z, s)
    first (suc seat) v at i = absurd (some-ne-none v (sym at))

    last : (seat : ℕ) (v : Known) → get_elem? (known n 0 ∷ []) seat ≡ some v → v.parts ≡ 0 → v.bits ≡ 0
    last zero v at none = sym (ap (λ (k : Known). k.bits) (some-injective (known n 0) v at))
    last (suc seat) v at none = absurd (some-ne-none v (sym at))

-- a seat that has a part may know bits
has_part : (u w : Known) → w.parts ≡ 1 → w ≡ u → u.parts ≡ 0 → u.bits ≡ 0
has_part u w one is none = absurd (let p = ap (λ (x : Known). x.parts) is in omega (arith, p, one, none))

pub sets : (n slots id : ℕ) (v : Known) (k : ℕ) (c : List (ℕ × Unit {0})) → v.parts ≡ 1
    → Allows (Raised n) slots id (v, c) 0 (λ m. bit_or m k) (λ found w. w ≡ (known v.parts (bit_or v.bits k), c))
sets n slots id v k c one s rule homes at small =
    let m = slice_index s.words 0 in
    let w = known v.parts (bit_or v.bits k) in
    let words = word_set s.words (bit_or m k) rule.0 in
    let parts = rule.1 in
    let p = parts_set s.views id v w at in (
      w,
      keeps,
      tt,
      (
        words.0,
        omega (arith, parts, p),
        λ j u e. subst (λ y. Within u.bits y) (sym words.1)
            (⊎_elim (λ h. subst (λ (y : Known). Within y.bits (bit_or m k)) h.1 (within_or v.bits m k (rule.2 id v at)))
            (λ h. λ i. let a = rule.2 j u h.1 i in let b = or_within m k i in omega arith) (at_set s.views id j w u e)),
        λ i is.
            ⊎_elim
            (λ old. known_more s.views id v w i at (left_bit v.bits k i) (rule.3 i old))
            (λ new. (id, w, set_here s.views id w (there s.views id v at), right_bit v.bits k i new))
            (either_bit m k i (ap (λ y. bit_at y i) (sym words.1) ∙ is)),
        λ j u e none. ⊎_elim (λ h. has_part u w one h.1 none) (λ h. rule.4 j u h.1 none) (at_set s.views id j w u e),
      ),
      refl,
    )

pub sees : (n slots id : ℕ) (v : Known) (c : List (ℕ × Unit {0})) → v.parts ≡ 1
    → Allows (Raised n) slots id (v, c) 0 (λ m. m) (λ found w. (w ≡ (known v.parts found, c)) × Within v.bits found)
sees n slots id v c one s rule homes at small =
    let m = slice_index s.words 0 in
    let w = known v.parts m in
    let words = word_set s.words m rule.0 in
    let parts = rule.1 in
    let p = parts_set s.views id v w at in (
      w,
      keeps,
      tt,
      (
        words.0,
        omega (arith, parts, p),
        λ j u e. subst (λ y. Within u.bits y) (sym words.1)
            (⊎_elim (λ h. subst (λ (y : Known). Within y.bits m) h.1 (λ i. omega arith)) (λ h. rule.2 j u h.1) (at_set s.views id j w u e)),
        λ i is. (id, w, set_here s.views id w (there s.views id v at), ap (λ y. bit_at y i) (sym words.1) ∙ is),
        λ j u e none. ⊎_elim (λ h. has_part u w one h.1 none) (λ h. rule.4 j u h.1 none) (at_set s.views id j w u e),
      ),
      (refl, rule.2 id v at),
    )

zero_within : (a : ℕ) → Within 0 a
zero_within a i = let z = bit_at-zero i in omega arith

-- a seat is split off one that knows no bit
pub seats : (n id : ℕ) (v : Known) → 0 < v.parts → v.bits ≡ 0 → Splits (Raised n) id v (known (v.parts - 1) v.bits) (known 1 0)
seats n id v some_part none s rule at =
    let l = known (v.parts - 1) v.bits in
    let r = known 1 0 in
    let m = slice_index s.words 0 in
    let views = set s.views id l in
    let parts = rule.1 in
    let p = parts_set s.views id v l at in
    let q = parts_snoc views r in (
      rule.0,
      omega (arith, parts, p, q, some_part),
      λ j u e. ⊎_elim
          (λ h. ⊎_elim (λ g. subst (λ (y : Known). Within y.bits m) g.1 (rule.2 id v at)) (λ g. rule.2 j u g.1) (at_set s.views id j l u h))
          (λ h. subst (λ (y : Known). Within y.bits m) h (zero_within m))
          (at_snoc views r u j e),
      λ i is.
          let known = known_more s.views id v l i at (λ b. b) (rule.3 i is) in
          (known.0, known.1, at_longer views (r ∷ []) known.0 known.1 known.2, known.3),
      λ j u e gone. ⊎_elim
          (λ h. ⊎_elim (λ g. ap (λ (y : Known). y.bits) (sym g.1) ∙ none) (λ g. rule.4 j u g.1 gone) (at_set s.views id j l u h))
          (λ h. has_part u r refl h gone)
          (at_snoc views r u j e),
    )

-- seats that know no bit have no more parts than all
below_all : (b : Bool) (k x y : ℕ) → x ≤ y → (if b then k else 0) + x ≤ k + y
below_all true k x y le = omega (arith, le)
below_all false k x y le = omega (arith, le)

few_unknowing : (views : List Known) → parts_unknowing views ≤ parts_in views
few_unknowing [] = omega arith
few_unknowing (v ∷ vs) = below_all (v.bits == 0) v.parts (parts_unknowing vs) (parts_in vs) (few_unknowing vs)

-- where they have all, no seat knows a bit
knows_none : (v : Known) (b : Bool) (x y : ℕ) → (v.bits == 0) ≡ b → x ≤ y → (if b then v.parts else 0) + x ≡ v.parts + y
    → (v.parts ≡ 0 → v.bits ≡ 0) → (v.bits ≡ 0) × (x ≡ y)
knows_none v true x y is le all none = (eqb-true v.bits 0 is, omega (arith, all))
knows_none v false x y is le all none = (none (omega (arith, all, le)), omega (arith, all, le))

none_knows : (views : List Known) → ((seat : ℕ) (v : Known) → get_elem? views seat ≡ some v → v.parts ≡ 0 → v.bits ≡ 0)
    → parts_unknowing views ≡ parts_in views → (seat : ℕ) (v : Known) → get_elem? views seat ≡ some v → v.bits ≡ 0
none_knows [] none all seat v at = absurd (some-ne-none v (sym at))
none_knows (u ∷ us) none all zero v at =
    let first = knows_none u (u.bits == 0) (parts_unknowing us) (parts_in us) refl (few_unknowing us) all (none 0 u refl) in
    ap (λ (x : Known). x.bits) (sym (some-injective u v at)) ∙ first.0
none_knows (u ∷ us) none all (suc seat) v at =
    let first = knows_none u (u.bits == 0) (parts_unknowing us) (parts_in us) refl (few_unknowing us) all (none 0 u refl) in
    none_knows us (λ j w there. none (suc j) w there) first.1 seat v at

-- so no bit is set
pub none_is_set : NoneIsSet
none_is_set n s rule all i =
    let m = slice_index s.words 0 in
    let parts = rule.1 in
    dite (ℕ_discrete (bit_at m i) 1)
    (λ there.
    let is = rule.3 i there in
    let none = none_knows s.views rule.4 (all ∙ sym parts) is.0 is.1 is.2 in
    let zero_bit = ap (λ k. bit_at k i) none in
    absurd (let z = bit_at-zero i in let one = is.3 in omega (arith, z, one, zero_bit)))
    (λ ne. let b = bit_at-lt m i in omega (arith, b, ne))
