-- The key's block: the key's bytes one by one, each xored, and the pad where the key has zeros.
use Rattle.std.proofs.Common.{◌≡◌, ℕ, zero, suc, ◌+◌, ◌-◌, ◌<◌, List, [], ◌∷◌, ◌++◌, length, take, replicate, set, get_or, bit_xor, arith, refl, sym, ap, ◌∙◌}
use Rattle.std.proofs.lemmas.List.{append_assoc, length-map, length-take-le, map-append, set_at, take_all, take_more}
use Rattle.zpasswords.specs.Hmac.{padded, xored}

-- the block with the first i of the key's bytes, where a key has 32
abbrev pub block_with : ℕ → List ℕ → ℕ → List ℕ
block_with pad key i = xored pad (take i key) ++ replicate (64 - i) pad

-- one byte more
pub block_more : (pad : ℕ) (key : List ℕ) (i d : ℕ) → length key ≡ 32 → i < 32
    → set (block_with pad key i) i (bit_xor (get_or key i d) pad) ≡ block_with pad key (i + 1)
block_more pad key i d long within =
    let byte = get_or key i d in
    let rest = replicate (64 - (i + 1)) pad in
    let e : 64 - i ≡ suc (64 - (i + 1)) = omega arith in
    let inside : i < length key = omega (arith, long) in
    let so_far : length (xored pad (take i key)) ≡ i =
    length-map (take i key) (λ b. bit_xor b pad) ∙ length-take-le i key (omega (arith, long)) in
    let step : xored pad (take (i + 1) key) ≡ xored pad (take i key) ++ bit_xor byte pad ∷ [] =
    ap (xored pad) (take_more key i d inside) ∙ map-append (λ b. bit_xor b pad) (take i key) (byte ∷ []) in
    rw e (
    set_at (xored pad (take i key)) pad rest (bit_xor byte pad) i so_far
    ∙ sym (append_assoc (xored pad (take i key)) (bit_xor byte pad ∷ []) rest)
    ∙ sym (ap (λ bytes. bytes ++ rest) step)
    )

-- a zero xored with the pad is the pad
xored-zeros : (pad n : ℕ) → xored pad (replicate n 0) ≡ replicate n pad
xored-zeros pad zero = refl
xored-zeros pad (suc n) = ap (λ bytes. pad ∷ bytes) (xored-zeros pad n)

-- the block with all of them
pub block_whole : (pad : ℕ) (key : List ℕ) → length key ≡ 32 → block_with pad key 32 ≡ xored pad (padded key)
block_whole pad key long =
    let zeros : ℕ = 64 - length key in
    let e : 64 - 32 ≡ zeros = omega (arith, long) in
    ap (λ bytes. xored pad bytes ++ replicate 32 pad) (take_all 32 key (omega (arith, long)))
    ∙ ap (λ n. xored pad key ++ replicate n pad) e
    ∙ ap (λ bytes. xored pad key ++ bytes) (sym (xored-zeros pad zeros))
    ∙ sym (map-append (λ b. bit_xor b pad) key (replicate zeros 0))
