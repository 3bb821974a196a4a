-- What came is cut into frames in one way.
use Rattle.std.proofs.Common.{◌≡◌, ℕ, false, ltb, List, [], ◌∷◌, ◌++◌, length, refl, sym, ap, ◌∙◌, append_assoc, arith}
use Rattle.std.specs.List.{flat_map, AllByRecursion}
use Rattle.std.proofs.lemmas.Bool.{le-ltb}
use Rattle.std.proofs.lemmas.List.{take_at, drop_at, length-append}
use Rattle.std.proofs.lemmas.List.Concat.{flat_map-cons}
use Rattle.zjute.specs.declared.limits.TheConstants.{MAX_FRAME}
use Rattle.zjute.specs.Frames.{Front, Whole, next_of, frame, IsFrame, IsEnd, OneSplit}
use Rattle.std.proofs.lemmas.Nat.{from_be_bytes-to_be_bytes_4}

pub next_again : (bytes rest : List ℕ) → IsFrame bytes → next_of (frame bytes ++ rest) ≡ Whole bytes rest
unfolding next_of
next_again bytes rest fits =
    let long_enough : ltb (length (frame bytes ++ rest)) 4 ≡ false = le-ltb _ _ (omega arith) in
    let small : ltb MAX_FRAME (length bytes) ≡ false = le-ltb _ _ fits in
    let long : ltb (length (bytes ++ rest)) (length bytes) ≡ false = le-ltb _ _ (omega (arith, length-append bytes rest)) in
    rw (long_enough, from_be_bytes-to_be_bytes_4 (length bytes) (omega (arith, fits)), small, long, take_at bytes rest (length bytes) refl, drop_at bytes rest (length bytes) refl) refl

abbrev whole : List ℕ → List ℕ → Front
whole bytes rest = Whole bytes rest

whole_is : (a b x y : List ℕ) → whole a x ≡ whole b y → (a ≡ b) × (x ≡ y)
whole_is a b x y e = (cc, cc)

-- the first of several frames
first_whole : (bytes : List ℕ) (frames : List (List ℕ)) (rest : List ℕ) → IsFrame bytes → next_of (flat_map frame (bytes ∷ frames) ++ rest) ≡ Whole bytes (flat_map frame frames ++ rest)
first_whole bytes frames rest fits =
    let regrouped : flat_map frame (bytes ∷ frames) ++ rest ≡ frame bytes ++ (flat_map frame frames ++ rest) = ap (λ (x : List ℕ). x ++ rest) (flat_map-cons frame bytes frames) ∙ append_assoc (frame bytes) (flat_map frame frames) rest in
    ap next_of regrouped ∙ next_again bytes (flat_map frame frames ++ rest) fits

pub split_once : (frames others : List (List ℕ)) (rest left : List ℕ) → flat_map frame frames ++ rest ≡ flat_map frame others ++ left
    → AllByRecursion IsFrame frames → AllByRecursion IsFrame others → IsEnd rest → IsEnd left → (frames ≡ others) × (rest ≡ left)
split_once [] [] rest left e each also ends stops = (refl, e)
split_once [] (b ∷ others) rest left e each also ends stops = absurd (ends b (flat_map frame others ++ left) (ap next_of e ∙ first_whole b others left also.0))
split_once (a ∷ frames) [] rest left e each also ends stops = absurd (stops a (flat_map frame frames ++ rest) (ap next_of (sym e) ∙ first_whole a frames rest each.0))
split_once (a ∷ frames) (b ∷ others) rest left e each also ends stops =
    let both = whole_is a b (flat_map frame frames ++ rest) (flat_map frame others ++ left) (sym (first_whole a frames rest each.0) ∙ ap next_of e ∙ first_whole b others left also.0) in
    let more = split_once frames others rest left both.1 each.1 also.1 ends stops in
    (ap (λ (x : List ℕ). x ∷ frames) both.0 ∙ ap (λ (xs : List (List ℕ)). b ∷ xs) more.0, more.1)

pub one : OneSplit
one came frames others rest left p q = split_once frames others rest left (sym p.whole ∙ q.whole) p.each q.each p.ends q.ends
