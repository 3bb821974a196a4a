-- A text that is cut into names by their lengths.
use Rattle.std.proofs.Common.{◌≡◌, ℕ, zero, suc, ◌<◌, ◌+◌, Bool, true, false, cond, eqb, not, List, [], ◌∷◌, ◌++◌, length, get_or, drop, refl, sym, ap, ◌∙◌, arith, lit<, length-append, append_assoc}
use Rattle.std.specs.List.{onto_first, flat_map, AllByRecursion, sum_by}
use Rattle.std.specs.Str.{IsAscii}
use Rattle.std.proofs.lemmas.Bool.Decides.{nat_tests}
use Rattle.std.proofs.lemmas.List.{take_at, drop_at}
use Rattle.std.proofs.lemmas.List.Sums.{sum_by-cons}
use Rattle.std.proofs.lemmas.Str.{IsAscii-append, IsAscii-drop}
use Rattle.std.proofs.lemmas.Str.Ascii.{IsAscii-nil}
use Rattle.zpath.specs.Grammar.{IsName, is_name_byte, has_bad_byte, segment_of}
use Rattle.zpath.specs.Faults.{parts_of}
use Rattle.zpath.specs.support.Plain.{lens_of, cut_by, FitInto}
use Rattle.zpath.proofs.NameTests.{both_false}
use Rattle.zpath.proofs.Splits.{spelled-parts_of}

-- the lengths fit
fit_from : (len : ℕ) (bytes : List ℕ) → sum_by (λ n. n + 1) (lens_of len bytes) ≡ len + length bytes + 1
fit_from len [] = sum_by-cons (λ n. n + 1) len [] ∙ omega arith
fit_from len (byte ∷ bytes) = at (eqb byte 47) (fit_from 0 bytes) (fit_from (len + 1) bytes)
  where
    at : (test : Bool) → sum_by (λ n. n + 1) (lens_of 0 bytes) ≡ 0 + length bytes + 1 → sum_by (λ n. n + 1) (lens_of (len + 1) bytes) ≡ len + 1 + length bytes + 1
        → sum_by (λ n. n + 1) (cond test (len ∷ lens_of 0 bytes) (lens_of (len + 1) bytes)) ≡ len + length (byte ∷ bytes) + 1
    at true ends on = sum_by-cons (λ n. n + 1) len (lens_of 0 bytes) ∙ omega (arith, ends)
    at false ends on = on ∙ omega arith

pub lens_fit : (bytes lens : List ℕ) → lens ≡ lens_of 0 bytes → FitInto bytes lens
lens_fit bytes lens are = rw are (fit_from 0 bytes ∙ omega arith)

-- the lists with some bytes before the first
abbrev onto : List ℕ → List (List ℕ) → List (List ℕ)
onto [] parts = parts
onto (byte ∷ bytes) parts = onto_first byte (onto bytes parts)

onto-whole : (name : List ℕ) (parts : List (List ℕ)) → onto name ([] ∷ parts) ≡ name ∷ parts
onto-whole [] parts = refl
onto-whole (byte ∷ name) parts = ap (onto_first byte) (onto-whole name parts)

onto-more : (name : List ℕ) (byte : ℕ) (parts : List (List ℕ)) → onto (name ++ byte ∷ []) parts ≡ onto name (onto_first byte parts)
onto-more [] byte parts = refl
onto-more (first ∷ name) byte parts = ap (onto_first first) (onto-more name byte parts)

-- the parts that the lengths cut, where a name continues
cut_more : (name : List ℕ) (byte : ℕ) (bytes : List ℕ) → cut_by (lens_of (length (name ++ byte ∷ [])) bytes) ((name ++ byte ∷ []) ++ bytes) ≡ onto (name ++ byte ∷ []) (parts_of bytes)
    → cut_by (lens_of (length name + 1) bytes) (name ++ byte ∷ bytes) ≡ onto name (onto_first byte (parts_of bytes))
cut_more name byte bytes cuts =
    ap (λ len. cut_by (lens_of len bytes) (name ++ byte ∷ bytes)) (sym (length-append name (byte ∷ [])))
    ∙ ap (cut_by (lens_of (length (name ++ byte ∷ [])) bytes)) (sym (append_assoc name (byte ∷ []) bytes))
    ∙ cuts
    ∙ onto-more name byte (parts_of bytes)

-- and where it ends
cut_end : (name : List ℕ) (byte : ℕ) (bytes : List ℕ) → cut_by (lens_of 0 bytes) bytes ≡ parts_of bytes
    → cut_by (length name ∷ lens_of 0 bytes) (name ++ byte ∷ bytes) ≡ onto name ([] ∷ parts_of bytes)
cut_end name byte bytes cuts =
    ap (λ part. part ∷ cut_by (lens_of 0 bytes) (drop (length name + 1) (name ++ byte ∷ bytes))) (take_at name (byte ∷ bytes) (length name) refl)
    ∙ ap (λ left. name ∷ cut_by (lens_of 0 bytes) left) behind
    ∙ ap (λ parts. name ∷ parts) cuts
    ∙ sym (onto-whole name (parts_of bytes))
  where
    behind : drop (length name + 1) (name ++ byte ∷ bytes) ≡ bytes
    behind =
        ap (drop (length name + 1)) (sym (append_assoc name (byte ∷ []) bytes))
        ∙ drop_at (name ++ byte ∷ []) bytes (length name + 1) (length-append name (byte ∷ []))

cut_on : (name bytes : List ℕ) → cut_by (lens_of (length name) bytes) (name ++ bytes) ≡ onto name (parts_of bytes)
cut_on name [] = ap (λ part. part ∷ []) (take_at name [] (length name) refl) ∙ sym (onto-whole name [])
cut_on name (byte ∷ bytes) = at (eqb byte 47) (cut_end name byte bytes (cut_on [] bytes)) (cut_more name byte bytes (cut_on (name ++ byte ∷ []) bytes))
  where
    at : (test : Bool) → cut_by (length name ∷ lens_of 0 bytes) (name ++ byte ∷ bytes) ≡ onto name ([] ∷ parts_of bytes)
        → cut_by (lens_of (length name + 1) bytes) (name ++ byte ∷ bytes) ≡ onto name (onto_first byte (parts_of bytes))
        → cut_by (cond test (length name ∷ lens_of 0 bytes) (lens_of (length name + 1) bytes)) (name ++ byte ∷ bytes) ≡ onto name (cond test ([] ∷ parts_of bytes) (onto_first byte (parts_of bytes)))
    at true ends on = ends
    at false ends on = on

-- the lengths cut a text at its slashes
pub cut_at_slashes : (bytes lens : List ℕ) → lens ≡ lens_of 0 bytes → cut_by lens bytes ≡ parts_of bytes
cut_at_slashes bytes lens are = rw are (cut_on [] bytes)

-- a byte below 128, and more of them
ascii_more : (byte : ℕ) (bytes : List ℕ) → byte < 128 → IsAscii bytes → IsAscii (byte ∷ bytes)
ascii_more byte bytes low are = IsAscii-append (byte ∷ []) bytes (λ i. one i) are
  where
    one : (i : ℕ) → get_or (byte ∷ []) i 0 < 128
    one zero = low
    one (suc i) = lit< tt

-- the bytes of a name are such
ascii_name : (name : List ℕ) → has_bad_byte name ≡ false → IsAscii name
ascii_name [] visible = IsAscii-nil
ascii_name (byte ∷ name) visible =
    let both = both_false _ _ visible in
    ascii_more byte name (low byte both.0) (ascii_name name both.1)
  where
    low : (byte : ℕ) → not (is_name_byte byte) ≡ false → byte < 128
    low byte good = grind (arith, nat_tests)

ascii_segments : (names : List (List ℕ)) → AllByRecursion IsName names → IsAscii (flat_map segment_of names)
ascii_segments [] are = IsAscii-nil
ascii_segments (name ∷ names) are =
    IsAscii-append (segment_of name) (flat_map segment_of names) (ascii_more 47 name (lit< tt) (ascii_name name are.0.visible)) (ascii_segments names are.1)

-- so a text of names is
pub ascii_text : (bytes : List ℕ) → AllByRecursion IsName (parts_of bytes) → IsAscii bytes
ascii_text bytes are = IsAscii-drop (47 ∷ bytes) 1 (rw (← spelled-parts_of bytes) (ascii_segments (parts_of bytes) are))

-- the names so far, and those that are still to be cut
pub record CutsOn (names : List (List ℕ)) (begin : ℕ) (lens text : List ℕ) (all : List (List ℕ)) : Type 0 where
  pub so_far : names ++ cut_by lens (drop begin text) ≡ all
  pub ahead : AllByRecursion IsName (cut_by lens (drop begin text))
  pub fit : begin + sum_by (λ len. len + 1) lens ≡ length text + 1
