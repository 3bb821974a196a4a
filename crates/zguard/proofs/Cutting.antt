-- The first frame of bytes, and what came before the rest.
use Rattle.std.proofs.Common.{◌≡◌, ◌∙◌, ◌+◌, ◌-◌, ◌≤◌, ℕ, Bool, true, false, List, [], ◌++◌, length, take, drop, refl, sym, ap, arith, ltb, length-append}
use Rattle.std.specs.Prelude.{nat_lt, if◌then◌else◌}
use Rattle.std.specs.Int.{w32, from_be_bytes}
use Rattle.std.proofs.lemmas.Bool.{le-ltb, ltb-false}
use Rattle.std.proofs.lemmas.List.{take-append-le, drop-append-le, drop-drop, drop-take, drop_all, take_all, take-append-drop, length-drop, length-take-le}
use Rattle.zjute.specs.declared.limits.TheConstants.{MAX_FRAME}
use Rattle.zjute.specs.Frames.{Whole, Partial, TooLong, next_of, cut_at, behind_length}
use Rattle.zguard.specs.Guarding.{before_rest}

partial_whole : (bytes rest : List ℕ) → Partial ≡ Whole bytes rest → ⊥
partial_whole bytes rest is = cc is

long_whole : (bytes rest : List ℕ) → TooLong ≡ Whole bytes rest → ⊥
long_whole bytes rest is = cc is

whole_parts : (a b x y : List ℕ) → Whole a x ≡ Whole b y → (a ≡ b) × (x ≡ y)
whole_parts a b x y is = (cc, cc)

cut_more : (n : ℕ) (came more bytes rest : List ℕ) → cut_at n came ≡ Whole bytes rest → cut_at n (came ++ more) ≡ Whole bytes (rest ++ more)
cut_more n came more bytes rest is = by (nat_lt (length came) n) refl is
  where
    by : (short : Bool) → nat_lt (length came) n ≡ short → (if short then Partial else Whole (take n came) (drop n came)) ≡ Whole bytes rest
        → cut_at n (came ++ more) ≡ Whole bytes (rest ++ more)
    by true less is = absurd (partial_whole bytes rest is)
    by false less is =
        let enough : n ≤ length came = omega (arith, ltb-false (length came) n less) in
        let long : ltb (length (came ++ more)) n ≡ false = le-ltb _ _ (omega (arith, enough, length-append came more)) in
        let parts = whole_parts (take n came) bytes (drop n came) rest is in
        ap (λ (b : Bool). if b then Partial else Whole (take n (came ++ more)) (drop n (came ++ more))) long
        ∙ ap (λ xs. Whole xs (drop n (came ++ more))) (take-append-le n came more enough ∙ parts.0)
        ∙ ap (λ xs. Whole bytes xs) (drop-append-le n came more enough ∙ ap (λ xs. xs ++ more) parts.1)

length_more : (n : ℕ) (came more bytes rest : List ℕ) → behind_length n came ≡ Whole bytes rest
    → behind_length n (came ++ more) ≡ Whole bytes (rest ++ more)
length_more n came more bytes rest is = by (nat_lt MAX_FRAME n) is
  where
    by : (long : Bool) → (if long then TooLong else cut_at n came) ≡ Whole bytes rest
        → (if long then TooLong else cut_at n (came ++ more)) ≡ Whole bytes (rest ++ more)
    by true is = absurd (long_whole bytes rest is)
    by false is = cut_more n came more bytes rest is

-- the first frame stays the first one, and four bytes at least came
pub next_more : (came more bytes rest : List ℕ) → next_of came ≡ Whole bytes rest
    → (next_of (came ++ more) ≡ Whole bytes (rest ++ more)) × (4 ≤ length came)
unfolding next_of
next_more came more bytes rest is = by (nat_lt (length came) 4) refl is
  where
    by : (short : Bool) → nat_lt (length came) 4 ≡ short
        → (if short then Partial else behind_length (from_be_bytes w32 (take 4 came)) (drop 4 came)) ≡ Whole bytes rest
        → ((if nat_lt (length (came ++ more)) 4 then Partial else behind_length (from_be_bytes w32 (take 4 (came ++ more)))
        (drop 4 (came ++ more))) ≡ Whole bytes (rest ++ more))
        × (4 ≤ length came)
    by true less is = absurd (partial_whole bytes rest is)
    by false less is =
        let enough : 4 ≤ length came = omega (arith, ltb-false (length came) 4 less) in
        let long : ltb (length (came ++ more)) 4 ≡ false = le-ltb _ _ (omega (arith, enough, length-append came more)) in (
          ap (λ (b : Bool). if b then Partial else behind_length (from_be_bytes w32 (take 4 (came ++ more))) (drop 4 (came ++ more))) long
              ∙ ap (λ xs. behind_length (from_be_bytes w32 xs) (drop 4 (came ++ more))) (take-append-le 4 came more enough)
              ∙ ap (behind_length (from_be_bytes w32 (take 4 came))) (drop-append-le 4 came more enough)
              ∙ length_more (from_be_bytes w32 (take 4 came)) (drop 4 came) more bytes rest is,
          enough,
        )

-- the rest of bytes lies at their end
cut_rest : (n : ℕ) (came bytes rest : List ℕ) → cut_at n came ≡ Whole bytes rest → (rest ≡ drop n came) × (n ≤ length came)
cut_rest n came bytes rest is = by (nat_lt (length came) n) refl is
  where
    by : (short : Bool) → nat_lt (length came) n ≡ short → (if short then Partial else Whole (take n came) (drop n came)) ≡ Whole bytes rest
        → (rest ≡ drop n came) × (n ≤ length came)
    by true less is = absurd (partial_whole bytes rest is)
    by false less is = (sym (whole_parts (take n came) bytes (drop n came) rest is).1, omega (arith, ltb-false (length came) n less))

length_rest : (n : ℕ) (came bytes rest : List ℕ) → behind_length n came ≡ Whole bytes rest → (rest ≡ drop n came) × (n ≤ length came)
length_rest n came bytes rest is = by (nat_lt MAX_FRAME n) is
  where
    by : (long : Bool) → (if long then TooLong else cut_at n came) ≡ Whole bytes rest → (rest ≡ drop n came) × (n ≤ length came)
    by true is = absurd (long_whole bytes rest is)
    by false is = cut_rest n came bytes rest is

pub record LiesBehind (came rest : List ℕ) : Type 0 where
  pub place : ℕ
  pub within : place ≤ length came
  pub rest_is : rest ≡ drop place came

pub next_rest : (came bytes rest : List ℕ) → next_of came ≡ Whole bytes rest → LiesBehind came rest
unfolding next_of
next_rest came bytes rest is = by (nat_lt (length came) 4) refl is
  where
    by : (short : Bool) → nat_lt (length came) 4 ≡ short
        → (if short then Partial else behind_length (from_be_bytes w32 (take 4 came)) (drop 4 came)) ≡ Whole bytes rest → LiesBehind came rest
    by true less is = absurd (partial_whole bytes rest is)
    by false less is =
        let n = from_be_bytes w32 (take 4 came) in
        let enough : 4 ≤ length came = omega (arith, ltb-false (length came) 4 less) in
        let behind = length_rest n (drop 4 came) bytes rest is in
        record {
          place = 4 + n;
          within = omega (arith, enough, behind.1, length-drop 4 came);
          rest_is = behind.0 ∙ drop-drop n 4 came;
        }

-- what came before the rest, and the rest
pub before-rest : (came rest : List ℕ) → LiesBehind came rest → before_rest came rest ++ rest ≡ came
before-rest came rest behind =
    let k = behind.place in
    let long : length rest ≡ length came - k = ap length behind.rest_is ∙ length-drop k came in
    let here : length came - length rest ≡ k = omega (arith, long, behind.within) in
    ap (λ n. take n came ++ rest) here ∙ ap (λ xs. take k came ++ xs) behind.rest_is ∙ take-append-drop k came

-- and with more bytes behind, what came before the rest is the same
pub before_rest-more : (came rest more : List ℕ) → LiesBehind came rest → before_rest (came ++ more) (rest ++ more) ≡ before_rest came rest
before_rest-more came rest more behind =
    let k = behind.place in
    let long : length rest ≡ length came - k = ap length behind.rest_is ∙ length-drop k came in
    let n = length came - length rest in
    let same : length (came ++ more) - length (rest ++ more) ≡ n =
    omega (arith, length-append came more, length-append rest more, long, behind.within) in
    ap (λ m. take m (came ++ more)) same ∙ take-append-le n came more (omega (arith, long, behind.within))

-- the rest is no longer
pub rest_short : (came rest : List ℕ) → LiesBehind came rest → length rest ≤ length came
rest_short came rest behind = omega (arith, ap length behind.rest_is, length-drop behind.place came)

-- ---- the first frame alone

cut_alone : (n : ℕ) (came bytes rest : List ℕ) → cut_at n came ≡ Whole bytes rest → cut_at n (take n came) ≡ Whole bytes []
cut_alone n came bytes rest is = by (nat_lt (length came) n) refl is
  where
    by : (short : Bool) → nat_lt (length came) n ≡ short → (if short then Partial else Whole (take n came) (drop n came)) ≡ Whole bytes rest
        → cut_at n (take n came) ≡ Whole bytes []
    by true less is = absurd (partial_whole bytes rest is)
    by false less is =
        let all : length (take n came) ≡ n = length-take-le n came (omega (arith, ltb-false (length came) n less)) in
        let enough : ltb (length (take n came)) n ≡ false = le-ltb _ _ (omega (arith, all)) in
        ap (λ (b : Bool). if b then Partial else Whole (take n (take n came)) (drop n (take n came))) enough
        ∙ ap (λ xs. Whole xs (drop n (take n came))) (take_all n (take n came) (omega (arith, all)) ∙ (whole_parts (take n came) bytes (drop n came) rest is).0)
        ∙ ap (λ xs. Whole bytes xs) (drop_all n (take n came) (omega (arith, all)))

length_alone : (n : ℕ) (came bytes rest : List ℕ) → behind_length n came ≡ Whole bytes rest → behind_length n (take n came) ≡ Whole bytes []
length_alone n came bytes rest is = by (nat_lt MAX_FRAME n) is
  where
    by : (long : Bool) → (if long then TooLong else cut_at n came) ≡ Whole bytes rest → (if long then TooLong else cut_at n (take n came)) ≡ Whole bytes []
    by true is = absurd (long_whole bytes rest is)
    by false is = cut_alone n came bytes rest is

-- what came before the rest is the first frame, with nothing behind it
pub next_alone : (came bytes rest : List ℕ) → next_of came ≡ Whole bytes rest → next_of (before_rest came rest) ≡ Whole bytes []
unfolding next_of
next_alone came bytes rest is = by (nat_lt (length came) 4) refl is
  where
    by : (short : Bool) → nat_lt (length came) 4 ≡ short
        → (if short then Partial else behind_length (from_be_bytes w32 (take 4 came)) (drop 4 came)) ≡ Whole bytes rest
        → next_of (before_rest came rest) ≡ Whole bytes []
    by true less is = absurd (partial_whole bytes rest is)
    by false less is =
        let n = from_be_bytes w32 (take 4 came) in
        let enough : 4 ≤ length came = omega (arith, ltb-false (length came) 4 less) in
        let behind = length_rest n (drop 4 came) bytes rest is in
        let within : 4 + n ≤ length came = omega (arith, enough, behind.1, length-drop 4 came) in
        let one = take (4 + n) came in
        let left : length came - length rest ≡ 4 + n =
        omega (arith, within, ap length behind.0, length-drop n (drop 4 came), length-drop 4 came) in
        let all : length one ≡ 4 + n = length-take-le (4 + n) came within in
        let long : ltb (length one) 4 ≡ false = le-ltb _ _ (omega (arith, all)) in
        let head : take 4 one ≡ take 4 came =
        sym (take-append-le 4 one (drop (4 + n) came) (omega (arith, all))) ∙ ap (take 4) (take-append-drop (4 + n) came) in
        ap (λ k. next_of (take k came)) left
        ∙ ap (λ (b : Bool). if b then Partial else behind_length (from_be_bytes w32 (take 4 one)) (drop 4 one)) long
        ∙ ap (λ xs. behind_length (from_be_bytes w32 xs) (drop 4 one)) head
        ∙ ap (behind_length n) (drop-take 4 n came)
        ∙ length_alone n (drop 4 came) bytes rest is
