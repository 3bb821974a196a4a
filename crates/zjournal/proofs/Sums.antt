-- Texts after their checksums, each of which continues from the one before it.
use Rattle.std.proofs.Common.{◌≡◌, ◌≢◌, ℕ, ◌+◌, Bool, true, false, if◌then◌else◌, List, [], ◌∷◌, ◌++◌, length, map}
use Rattle.std.proofs.Common.{drop, get_or, refl, sym, ◌∙◌, ap, arith, length-append}
use Rattle.zjournal.specs.Blocks.{IsText, blocks}
use Rattle.zjournal.specs.Checksum.{adler_after, digit, digits, stamped, stamped_all, sum_after_all}

-- a checksum has no byte 0
digit_is_none : (low : Bool) (n : ℕ) → (if low then 48 + n else 87 + n) ≡ 0 → ⊥
digit_is_none true n is = omega (arith, is)
digit_is_none false n is = omega (arith, is)

pub digit_counts : (n : ℕ) → digit n ≢ 0
digit_counts n = digit_is_none _ n

pub stamped_text : (sum : ℕ) (text : List ℕ) → IsText text → IsText (stamped sum text)
stamped_text sum text h = (
  digit_counts _,
  (digit_counts _, (digit_counts _, (digit_counts _, (digit_counts _, (digit_counts _, (digit_counts _, (digit_counts _, h))))))),
)

pub digits_text : (n : ℕ) → IsText (digits n)
digits_text n = (
  digit_counts _,
  (digit_counts _, (digit_counts _, (digit_counts _, (digit_counts _, (digit_counts _, (digit_counts _, (digit_counts _, tt))))))),
)

-- what follows the checksum
pub unstamped : (sum : ℕ) (texts : List (List ℕ)) → map (λ (t : List ℕ). drop 8 t) (stamped_all sum texts) ≡ texts
unstamped sum [] = refl
unstamped sum (t ∷ texts) = ap (λ (l : List (List ℕ)). t ∷ l) (unstamped (adler_after sum t) texts)

-- one text more
pub stamped-push : (sum : ℕ) (texts : List (List ℕ)) (text : List ℕ)
    → stamped_all sum (texts ++ text ∷ []) ≡ stamped_all sum texts ++ stamped (sum_after_all sum texts) text ∷ []
stamped-push sum [] text = refl
stamped-push sum (t ∷ texts) text = ap (λ (l : List (List ℕ)). stamped sum t ∷ l) (stamped-push (adler_after sum t) texts text)

pub sum-push : (sum : ℕ) (texts : List (List ℕ)) (text : List ℕ)
    → sum_after_all sum (texts ++ text ∷ []) ≡ adler_after (sum_after_all sum texts) text
sum-push sum [] text = refl
sum-push sum (t ∷ texts) text = sum-push (adler_after sum t) texts text

-- the blocks are as long after one sum as after another
pub same_size : (a b : ℕ) (texts : List (List ℕ)) → length (blocks (stamped_all a texts)) ≡ length (blocks (stamped_all b texts))
same_size a b [] = refl
same_size a b (t ∷ texts) =
    let same = same_size (adler_after a t) (adler_after b t) texts in
    omega (
      arith,
      same,
      length-append t (0 ∷ blocks (stamped_all (adler_after a t) texts)),
      length-append t (0 ∷ blocks (stamped_all (adler_after b t) texts)),
    )

-- what follows some of the texts is a text after its checksum
pub stamped_among : (sum : ℕ) (a b after : List (List ℕ)) (held : List ℕ)
    → stamped_all sum a ≡ stamped_all sum b ++ held ∷ after → (text : List ℕ) × (held ≡ stamped (sum_after_all sum b) text)
stamped_among sum [] [] after held is = absurd (none is)
  where
    none : [] ≡ held ∷ after → ⊥
    none is = cc is
stamped_among sum [] (t ∷ b) after held is = absurd (none is)
  where
    none : [] ≡ stamped sum t ∷ (stamped_all (adler_after sum t) b ++ held ∷ after) → ⊥
    none is = cc is
stamped_among sum (s ∷ a) [] after held is = (s, sym (ap (λ (l : List (List ℕ)). get_or l 0 held) is))
stamped_among sum (s ∷ a) (t ∷ b) after held is =
    let same : s ≡ t = ap (λ (l : List (List ℕ)). drop 8 (get_or l 0 held)) is in
    stamped_among (adler_after sum t) a b after held
    (ap (λ (x : List ℕ). stamped_all (adler_after sum x) a) (sym same) ∙ ap (λ (l : List (List ℕ)). drop 1 l) is)
