-- Bytes that came are cut into the same frames when more comes, and begin with the same word.
use Rattle.std.proofs.Common.{◌≡◌, ◌∙◌, ℕ, ◌≤◌, Bool, true, false, List, [], ◌∷◌, ◌++◌, length, take, drop, refl, sym}
use Rattle.std.proofs.Common.{ap, subst, arith, ltb, length-append}
use Rattle.std.specs.Prelude.{nat_lt, if◌then◌else◌}
use Rattle.std.specs.Int.{w32, from_be_bytes}
use Rattle.std.proofs.lemmas.Bool.{le-ltb, ltb-false}
use Rattle.std.proofs.lemmas.List.{take-append-le, drop-append-le}
use Rattle.zjute.specs.declared.limits.TheConstants.{MAX_FRAME}
use Rattle.zjute.specs.Frames.{Whole, Partial, TooLong, next_of, cut_at, behind_length}
use Rattle.zfront.specs.Reading.{Cuts}
use Rattle.zfront.specs.Words.{word_in}

partial_whole : (bytes rest : List ℕ) → Partial ≡ Whole bytes rest → ⊥
partial_whole bytes rest is = cc is

long_whole : (bytes rest : List ℕ) → TooLong ≡ Whole bytes rest → ⊥
long_whole bytes rest is = cc is

whole_parts : (a b x y : List ℕ) → Whole a x ≡ Whole b y → (a ≡ b) × (x ≡ y)
whole_parts a b x y is = (cc, cc)

cut_more : (n : ℕ) (came more bytes rest : List ℕ) → cut_at n came ≡ Whole bytes rest → cut_at n (came ++ more) ≡ Whole bytes (rest ++ more)
cut_more n came more bytes rest is = by (nat_lt (length came) n) refl is
  where
    by : (short : Bool) → nat_lt (length came) n ≡ short → (if short then Partial else Whole (take n came) (drop n came)) ≡ Whole bytes rest
        → cut_at n (came ++ more) ≡ Whole bytes (rest ++ more)
    by true less is = absurd (partial_whole bytes rest is)
    by false less is =
        let enough : n ≤ length came = omega (arith, ltb-false (length came) n less) in
        let long : ltb (length (came ++ more)) n ≡ false = le-ltb _ _ (omega (arith, enough, length-append came more)) in
        let parts = whole_parts (take n came) bytes (drop n came) rest is in
        ap (λ (b : Bool). if b then Partial else Whole (take n (came ++ more)) (drop n (came ++ more))) long
        ∙ ap (λ xs. Whole xs (drop n (came ++ more))) (take-append-le n came more enough ∙ parts.0)
        ∙ ap (λ xs. Whole bytes xs) (drop-append-le n came more enough ∙ ap (λ xs. xs ++ more) parts.1)

length_more : (n : ℕ) (came more bytes rest : List ℕ) → behind_length n came ≡ Whole bytes rest
    → behind_length n (came ++ more) ≡ Whole bytes (rest ++ more)
length_more n came more bytes rest is = by (nat_lt MAX_FRAME n) is
  where
    by : (long : Bool) → (if long then TooLong else cut_at n came) ≡ Whole bytes rest
        → (if long then TooLong else cut_at n (came ++ more)) ≡ Whole bytes (rest ++ more)
    by true is = absurd (long_whole bytes rest is)
    by false is = cut_more n came more bytes rest is

-- the first frame stays the first one, and four bytes at least came
next_more : (came more bytes rest : List ℕ) → next_of came ≡ Whole bytes rest
    → (next_of (came ++ more) ≡ Whole bytes (rest ++ more)) × (4 ≤ length came)
unfolding next_of
next_more came more bytes rest is = by (nat_lt (length came) 4) refl is
  where
    by : (short : Bool) → nat_lt (length came) 4 ≡ short
        → (if short then Partial else behind_length (from_be_bytes w32 (take 4 came)) (drop 4 came)) ≡ Whole bytes rest
        → ((if nat_lt (length (came ++ more)) 4 then Partial else behind_length (from_be_bytes w32 (take 4 (came ++ more)))
        (drop 4 (came ++ more))) ≡ Whole bytes (rest ++ more))
        × (4 ≤ length came)
    by true less is = absurd (partial_whole bytes rest is)
    by false less is =
        let enough : 4 ≤ length came = omega (arith, ltb-false (length came) 4 less) in
        let long : ltb (length (came ++ more)) 4 ≡ false = le-ltb _ _ (omega (arith, enough, length-append came more)) in (
          ap (λ (b : Bool). if b then Partial else behind_length (from_be_bytes w32 (take 4 (came ++ more))) (drop 4 (came ++ more))) long
              ∙ ap (λ xs. behind_length (from_be_bytes w32 xs) (drop 4 (came ++ more))) (take-append-le 4 came more enough)
              ∙ ap (behind_length (from_be_bytes w32 (take 4 came))) (drop-append-le 4 came more enough)
              ∙ length_more (from_be_bytes w32 (take 4 came)) (drop 4 came) more bytes rest is,
          enough,
        )

pub cuts_more : (came more : List ℕ) (frames : List (List ℕ)) (rest : List ℕ) → Cuts came frames rest → Cuts (came ++ more) frames (rest ++ more)
cuts_more came more [] rest is = ap (λ xs. xs ++ more) is
cuts_more came more (bytes ∷ frames) rest has = (has.0 ++ more, (next_more came more bytes has.0 has.1).0, cuts_more has.0 more frames rest has.2)

pub cuts_both : (came : List ℕ) (frames next : List (List ℕ)) (rest last : List ℕ) → Cuts came frames rest → Cuts rest next last
    → Cuts came (frames ++ next) last
cuts_both came [] next rest last is more = subst (λ xs. Cuts xs next last) (sym is) more
cuts_both came (bytes ∷ frames) next rest last has more = (has.0, has.1, cuts_both has.0 frames next rest last has.2 more)

-- four bytes determine the word
word_more : (came more : List ℕ) → 4 ≤ length came → word_in (came ++ more) ≡ word_in came
word_more came more enough = rw (take-append-le 4 came more enough) refl

pub cuts_word : (came more bytes : List ℕ) (frames : List (List ℕ)) (rest : List ℕ) → Cuts came (bytes ∷ frames) rest
    → word_in (came ++ more) ≡ word_in came
cuts_word came more bytes frames rest has = word_more came more (next_more came more bytes has.0 has.1).1
