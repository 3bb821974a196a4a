-- How many parts a multi has: 1 to MAX_PARTS, in words and once they are read.
use Rattle.std.proofs.Common.{◌≡◌, ℕ, zero, suc, ◌<◌, ◌≤◌, ◌⊎◌, inl, inr, Bool, true, false, List, [], ◌∷◌, length, Option, None, Some, Ok, Err, if◌then◌else◌, codes, refl, subst, arith}
use Rattle.std.specs.Option.{option_map}
use Rattle.std.specs.Str.{bytes_eq}
use Rattle.zcalls.specs.declared.call.Part.{Part}
use Rattle.zscript_text.specs.declared.part_words.PartWords.{PartWords}
use Rattle.zcalls.specs.declared.limits.TheConstants.{MAX_PARTS}
use Rattle.zscript_text.specs.LineWords.{Word}
use Rattle.zscript_text.specs.Shape.{Shape, part_shape, and_parts, parts_shape}
use Rattle.zscript_text.specs.Request.{Read, then_read, read_of, part_in, parts_in}

-- where a list is read, its length is so
abbrev pub HasLength : {A : Type 0} → (ℕ → Type 0) → Read (List A) → Type 0
HasLength P (Err fault) = Unit {0}
HasLength P (Ok xs) = P (length xs)

-- at least one, and at most that many
abbrev pub IsUpTo : ℕ → ℕ → Type 0
IsUpTo most n = (0 < n) × (n ≤ most)

-- one part in front of some
one_more : (room : ℕ) (part : PartWords) (more : Option (List PartWords)) → HasLength (IsUpTo room) (read_of more) → HasLength (IsUpTo (suc room)) (read_of (option_map (λ parts. part ∷ parts) more))
one_more room part None h = tt
one_more room part (Some parts) h = (omega arith, omega (arith, h.1))

-- parts that there are by a test
where_true : (most : ℕ) (b : Bool) (more : Option (List PartWords)) → HasLength (IsUpTo most) (read_of more) → HasLength (IsUpTo most) (read_of (if b then more else None))
where_true most true more h = h
where_true most false more h = tt

-- a part, and those after it
and_more : (room : ℕ) (shape : Shape PartWords) (next : List Word → Option (List PartWords)) → ((words : List Word) → HasLength (IsUpTo room) (read_of (next words))) → HasLength (IsUpTo (suc room)) (read_of (and_parts shape next))
and_more room None next h = tt
and_more room (Some (part, [])) next h = (omega arith, omega arith)
and_more room (Some (part, word ∷ words)) next h =
    where_true (suc room) (bytes_eq word (codes ";")) (option_map (λ parts. part ∷ parts) (next words)) (one_more room part (next words) (h words))

-- the parts in words
parts_shape-length : (room : ℕ) (words : List Word) → HasLength (IsUpTo room) (read_of (parts_shape room words))
unfolding parts_shape
parts_shape-length zero words = tt
parts_shape-length (suc room) [] = tt
parts_shape-length (suc room) (verb ∷ words) = and_more room (part_shape verb words) (parts_shape room) (parts_shape-length room)

-- one part that is read, and those after it
one_read : (n : ℕ) (part : Read Part) (more : Read (List Part)) → HasLength (λ m. m ≡ n) more → HasLength (λ m. m ≡ suc n) (then_read part (λ part. then_read more (λ parts. Ok (part ∷ parts))))
one_read n (Err fault) more h = tt
one_read n (Ok part) (Err fault) h = tt
one_read n (Ok part) (Ok parts) h = omega (arith, h)

-- the parts that are read
parts_in-length : (words : List PartWords) → HasLength (λ m. m ≡ length words) (parts_in words)
parts_in-length [] = refl
parts_in-length (words ∷ more) = one_read (length more) (part_in words) (parts_in more) (parts_in-length more)

-- no multi has no part, or more than MAX_PARTS
pub is_multi : (words : List Word) (raw : List PartWords) (parts : List Part) → read_of (parts_shape MAX_PARTS words) ≡ Ok raw → parts_in raw ≡ Ok parts → (length parts ≡ 0) ⊎ (MAX_PARTS < length parts) → ⊥
is_multi words raw parts found is wrong =
    let few = subst (λ read. HasLength (IsUpTo MAX_PARTS) read) found (parts_shape-length MAX_PARTS words) in
    let same = subst (λ read. HasLength (λ m. m ≡ length raw) read) is (parts_in-length raw) in
    none wrong few same
  where
    none : {n m : ℕ} → (n ≡ 0) ⊎ (MAX_PARTS < n) → IsUpTo MAX_PARTS m → n ≡ m → ⊥
    none (inl e) few same = omega (arith, few.0)
    none (inr e) few same = omega (arith, few.1)
