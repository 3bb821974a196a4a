-- Lanes in which a byte is odd after its neighbour.
use Rattle.std.proofs.Common.{◌≡◌, ℕ, zero, suc, ◌+◌, ◌-◌, ◌*◌, ◌%◌, ◌^◌, ◌<◌, ◌≤◌, eqb, leb, ltb, ◌==◌, Bool, true, false, not, cond, ◌&&◌, List, [], ◌∷◌, length, map, get_or, replicate, bit_or, bit_and, refl, sym, ap, ap₂, ◌∙◌, subst, arith}
use Rattle.std.specs.Bool.{MatchBool}
use Rattle.std.proofs.lemmas.Bool.Decides.{nat_tests}
use Rattle.std.proofs.lemmas.Simd.{mask_l-mod, length-chunk, get_or-chunk, get_or-zip2, length-zip2}
use lib.Lanes.{chunk, zip2, mask_l, top}
use Rattle.zscript_text.specs.support.Spaced.{is_odd, is_odd_behind, IsOddAmong}

-- a lane with all bits, where a test passes
abbrev lane : Bool → ℕ
lane test = cond test 255 0

tops : (low high space double : Bool) → top 7 (bit_or (bit_or (lane low) (lane high)) (bit_and (lane space) (lane double))) ≡ not ((not low && not high) && not (space && double))
tops false false false false = refl
tops false false false true = refl
tops false false true false = refl
tops false false true true = refl
tops false true false false = refl
tops false true false true = refl
tops false true true false = refl
tops false true true true = refl
tops true false false false = refl
tops true false false true = refl
tops true false true false = refl
tops true false true true = refl
tops true true false false = refl
tops true true false true = refl
tops true true true false = refl
tops true true true true = refl

not_below : (a b : ℕ) → not (ltb a b) ≡ leb b a
not_below a b = grind (arith, nat_tests)

-- the lane of a byte after another
abbrev odd_lane : ℕ → ℕ → ℕ
odd_lane before byte = bit_or (bit_or (lane (ltb byte 32)) (lane (ltb 126 byte))) (bit_and (lane (eqb byte 32)) (lane (eqb before 32)))

top_lane : (before byte : ℕ) → top 7 (odd_lane before byte) ≡ is_odd before byte
top_lane before byte =
    tops (ltb byte 32) (ltb 126 byte) (eqb byte 32) (eqb before 32)
    ∙ (λ i. not ((not_below byte 32 i && not_below 126 byte i) && not (eqb byte 32 && eqb before 32)))

-- the lanes of the bytes after others, as the code computes them
abbrev pub odd_lanes : ℕ → List ℕ → List ℕ → List ℕ
odd_lanes n befores bytes =
    zip2 bit_or (zip2 bit_or (zip2 below bytes (replicate n 32)) (zip2 below (replicate n 126) bytes))
    (zip2 bit_and (zip2 same bytes (replicate n 32)) (zip2 same befores (replicate n 32)))
  where
    below : ℕ → ℕ → ℕ
    below a b = lane (ltb a b)

    same : ℕ → ℕ → ℕ
    same a b = lane (eqb a b)

top_lanes : (n : ℕ) (befores bytes : List ℕ) → length befores ≡ n → length bytes ≡ n → map (top 7) (odd_lanes n befores bytes) ≡ zip2 is_odd befores bytes
top_lanes zero [] [] p q = refl
top_lanes zero [] (byte ∷ bytes) p q = absurd (omega (arith, q))
top_lanes zero (before ∷ befores) bytes p q = absurd (omega (arith, p))
top_lanes (suc n) [] bytes p q = absurd (omega (arith, p))
top_lanes (suc n) (before ∷ befores) [] p q = absurd (omega (arith, q))
top_lanes (suc n) (before ∷ befores) (byte ∷ bytes) p q = λ i. top_lane before byte i ∷ top_lanes n befores bytes (omega (arith, p)) (omega (arith, q)) i

-- whether a lane is set
abbrev IsSetAmong : List Bool → Bool → Type 0
IsSetAmong lanes found = MatchBool found ((k : ℕ) × (k < length lanes) × (get_or lanes k false ≡ true)) ((k : ℕ) → get_or lanes k false ≡ false)

clear : (lanes : List Bool) → ((k : ℕ) → get_or lanes k false ≡ false) → (k : ℕ) → get_or (false ∷ lanes) k false ≡ false
clear lanes none zero = refl
clear lanes none (suc k) = none k

behind : (found : Bool) (lanes : List Bool) → IsSetAmong lanes found → IsSetAmong (false ∷ lanes) found
behind true lanes set = (suc set.0, omega (arith, set.1), set.2)
behind false lanes none = clear lanes none

mask_of_set : (lanes : List Bool) → IsSetAmong lanes (not (mask_l lanes == 0))
mask_of_set [] = λ k. refl
mask_of_set (true ∷ lanes) =
    let some : (1 + 2 * mask_l lanes == 0) ≡ false = grind (arith, nat_tests) in
    rw some (0, omega arith, refl)
mask_of_set (false ∷ lanes) =
    let double : (0 + 2 * mask_l lanes == 0) ≡ (mask_l lanes == 0) = grind (arith, nat_tests) in
    rw double (behind (not (mask_l lanes == 0)) lanes (mask_of_set lanes))

module _ (line : List ℕ) (at n : ℕ) (few : n ≤ 64) (room : at + n < length line) where
  long : (length (chunk at n line) ≡ n) × (length (chunk (at + 1) n line) ≡ n)
  long = (length-chunk at n line (omega arith), length-chunk (at + 1) n line (omega arith))

  at_lane : (k : ℕ) → k < n → get_or (zip2 is_odd (chunk at n line) (chunk (at + 1) n line)) k false ≡ is_odd_behind line (at + k)
  at_lane k l =
      let same : at + 1 + k ≡ at + k + 1 = omega arith in
      get_or-zip2 is_odd (chunk at n line) (chunk (at + 1) n line) k 0 0 false (omega (arith, long.0)) (omega (arith, long.1))
      ∙ ap₂ is_odd (get_or-chunk at n line k 0 l) (get_or-chunk (at + 1) n line k 0 l ∙ ap (λ j. get_or line j 0) same)

  from_lanes : (found : Bool) → IsSetAmong (zip2 is_odd (chunk at n line) (chunk (at + 1) n line)) found → IsOddAmong line at (at + n) found
  from_lanes true set =
      let l : set.0 < n = omega (arith, set.1, length-zip2 is_odd (chunk at n line) (chunk (at + 1) n line) (long.0 ∙ sym long.1), long.0) in
      (at + set.0, omega arith, omega arith, sym (at_lane set.0 l) ∙ set.2)
  from_lanes false none = λ place from to.
      let back : at + (place - at) ≡ place = omega arith in
      subst (λ k. is_odd_behind line k ≡ false) back (sym (at_lane (place - at) (omega arith)) ∙ none (place - at))

  pub odd_among : IsOddAmong line at (at + n) (not (mask_l (map (top 7) (odd_lanes n (chunk at n line) (chunk (at + 1) n line))) % 2 ^ 64 == 0))
  odd_among =
      let lanes = zip2 is_odd (chunk at n line) (chunk (at + 1) n line) in
      let few_lanes : length lanes ≤ 64 = omega (arith, few, length-zip2 is_odd (chunk at n line) (chunk (at + 1) n line) (long.0 ∙ sym long.1), long.0) in
      let mask = ap (λ l. mask_l l % 2 ^ 64) (top_lanes n (chunk at n line) (chunk (at + 1) n line) long.0 long.1) ∙ mask_l-mod lanes 64 few_lanes in
      subst (λ m. IsOddAmong line at (at + n) (not (m == 0))) (sym mask) (from_lanes (not (mask_l lanes == 0)) (mask_of_set lanes))
