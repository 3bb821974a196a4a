-- The parts that were found so far, and what the words that are left come to.
use Rattle.std.proofs.Common.{◌≡◌, ℕ, zero, suc, ◌<◌, ◌-◌, Bool, not, true, false, List, [], ◌∷◌, ◌++◌, Option, None, Some, codes, refl, ap, sym, append_assoc, arith}
use Rattle.std.specs.Option.{option_map}
use Rattle.std.specs.Str.{bytes_eq}
use Rattle.zscript_text.specs.declared.part_words.PartWords.{PartWords}
use Rattle.zscript_text.specs.LineWords.{Word}
use Rattle.zscript_text.specs.Shape.{part_shape, and_parts, parts_shape}

-- the parts that were found, and those to come
abbrev pub before : List PartWords → Option (List PartWords) → Option (List PartWords)
before done more = option_map (λ parts. done ++ parts) more

-- one part was found, and more are to come
before-one : (done : List PartWords) (part : PartWords) (more : Option (List PartWords)) → before done (option_map (λ parts. part ∷ parts) more) ≡ before (done ++ part ∷ []) more
before-one done part None = refl
before-one done part (Some parts) = ap Some (sym (append_assoc done (part ∷ []) parts))

-- a test, by its negation
pub flipped : (a b : Bool) → a ≡ not b → b ≡ not a
flipped a true e = ap not (sym e)
flipped a false e = ap not (sym e)

-- where there is room, a part and what is after it
parts_shape-more : (room : ℕ) (verb : Word) (words : List Word) → 0 < room → parts_shape room (verb ∷ words) ≡ and_parts (part_shape verb words) (parts_shape (room - 1))
unfolding parts_shape
parts_shape-more zero verb words some = absurd (omega arith)
parts_shape-more (suc room) verb words some =
    let e : room ≡ suc room - 1 = omega arith in
    ap (λ k. and_parts (part_shape verb words) (parts_shape k)) e

-- there is no part where there is no room
pub none_in_none : (done : List PartWords) (room : ℕ) (words : List Word) → room ≡ 0 → before done (parts_shape room words) ≡ None
unfolding parts_shape
none_in_none done room words e = rw e refl

-- there is no part where no word is left
pub none_left : (done : List PartWords) (room : ℕ) (words : List Word) → 0 < room → words ≡ [] → before done (parts_shape room words) ≡ None
unfolding parts_shape
none_left done zero words some e = absurd (omega arith)
none_left done (suc room) words some e = rw e refl

-- nor where the words have not the shape of one
pub no_part : (done : List PartWords) (room : ℕ) (left : List Word) (verb : Word) (words : List Word) → 0 < room → left ≡ verb ∷ words → part_shape verb words ≡ None → before done (parts_shape room left) ≡ None
no_part done room left verb words some e none = rw (e, parts_shape-more room verb words some, none) refl

-- the part after which no word is left is the last one
pub last_part : (done : List PartWords) (room : ℕ) (left : List Word) (verb : Word) (words more : List Word) (part : PartWords) → 0 < room → left ≡ verb ∷ words → part_shape verb words ≡ Some (part, more) → more ≡ [] → before done (parts_shape room left) ≡ Some (done ++ part ∷ [])
last_part done room left verb words more part some e is end = rw (e, parts_shape-more room verb words some, is, end) refl

-- after a part there is nothing but `;`
pub not_separated : (done : List PartWords) (room : ℕ) (left : List Word) (verb : Word) (words more : List Word) (part : PartWords) (word : Word) (rest : List Word) → 0 < room → left ≡ verb ∷ words → part_shape verb words ≡ Some (part, more) → more ≡ word ∷ rest → bytes_eq word (codes ";") ≡ false → before done (parts_shape room left) ≡ None
not_separated done room left verb words more part word rest some e is next other = rw (e, parts_shape-more room verb words some, is, next, other) refl

-- after `;` there are more parts
pub further_parts : (done : List PartWords) (room : ℕ) (left : List Word) (verb : Word) (words more : List Word) (part : PartWords) (word : Word) (rest : List Word) → 0 < room → left ≡ verb ∷ words → part_shape verb words ≡ Some (part, more) → more ≡ word ∷ rest → bytes_eq word (codes ";") ≡ true → before done (parts_shape room left) ≡ before (done ++ part ∷ []) (parts_shape (room - 1) rest)
further_parts done room left verb words more part word rest some e is next same =
    rw (e, parts_shape-more room verb words some, is, next, same) (before-one done part (parts_shape (room - 1) rest))
