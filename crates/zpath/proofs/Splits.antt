-- A text that is cut at its slashes, part by part.
use Rattle.std.proofs.Common.{◌≡◌, ℕ, ◌<◌, Bool, true, false, cond, eqb, List, [], ◌∷◌, ◌++◌, length, Option, Some, None, Bor, refl, sym, ap, ◌∙◌, lit<, ◌==◌, arith, append-nil}
use Rattle.std.specs.List.{onto_first, slice_split, flat_map, AllByRecursion}
use Rattle.std.proofs.lemmas.Bool.Decides.{nat_tests}
use Rattle.std.proofs.lemmas.List.Elements.{All-from_get_or}
use Rattle.std.proofs.lemmas.List.Splits.{slice_split_at, slice_split_first, slice_split_none}
use Rattle.std.proofs.lemmas.Str.Pattern.{IsSplitOnceResult, split_once_first, split_parts}
use Rattle.zpath.specs.Grammar.{IsName, segment_of}
use Rattle.zpath.specs.Faults.{parts_of, names_of}
use Rattle.zpath.proofs.NameTests.{no_slash}

-- what is between separators
abbrev pub split_by : ℕ → List ℕ → List (List ℕ)
split_by separator bytes = slice_split (λ byte. byte == separator) bytes

module _ (separator : ℕ) (ascii : separator < 128) (bytes : List ℕ) (found : Option (Bor (List ℕ) × Bor (List ℕ))) (says : IsSplitOnceResult separator bytes found) where
  -- where `split_once` cut, the first part comes before the parts of what is left
  pub split-cut : (pair : Bor (List ℕ) × Bor (List ℕ)) → found ≡ Some pair → split_by separator bytes ≡ pair.0.now ∷ split_by separator pair.1.now
  split-cut pair is =
      let cut = split_once_first separator bytes found says ascii in
      let at = rw is at cut in
      slice_split_first (λ byte. eqb byte separator) bytes 0 at.0 ∙ (λ i. sym at.1 i ∷ split_by separator (sym at.2 i))

  -- and where it did not, there is one part
  pub split-uncut : found ≡ None → split_by separator bytes ≡ bytes ∷ []
  split-uncut is =
      let no_cut = split_parts separator bytes found says ascii in
      let none = rw is at no_cut in
      slice_split_none (λ byte. eqb byte separator) bytes (All-from_get_or (λ byte. eqb byte separator ≡ false) bytes 0 (λ i l. let other = none i l in grind (arith, nat_tests)))

-- the same of slashes
pub parts_of-cut : (bytes : List ℕ) (found : Option (Bor (List ℕ) × Bor (List ℕ))) (pair : Bor (List ℕ) × Bor (List ℕ)) → IsSplitOnceResult 47 bytes found → found ≡ Some pair → parts_of bytes ≡ pair.0.now ∷ parts_of pair.1.now
parts_of-cut bytes found pair says is = split-cut 47 (lit< tt) bytes found says pair is

pub parts_of-uncut : (bytes : List ℕ) (found : Option (Bor (List ℕ) × Bor (List ℕ))) → IsSplitOnceResult 47 bytes found → found ≡ None → parts_of bytes ≡ bytes ∷ []
parts_of-uncut bytes found says is = split-uncut 47 (lit< tt) bytes found says is

-- where there are bytes after the slash, there are parts
pub names_of-some : (bytes : List ℕ) → (length bytes == 0) ≡ false → names_of (47 ∷ bytes) ≡ parts_of bytes
names_of-some [] some = cc
names_of-some (byte ∷ bytes) some = refl

-- the parts between slashes spell the text
pub spelled-parts_of : (bytes : List ℕ) → flat_map segment_of (parts_of bytes) ≡ 47 ∷ bytes
spelled-parts_of [] = refl
spelled-parts_of (byte ∷ bytes) = at (eqb byte 47) refl (spelled-parts_of bytes)
  where
    onto : (parts : List (List ℕ)) → flat_map segment_of parts ≡ 47 ∷ bytes → flat_map segment_of (onto_first byte parts) ≡ 47 ∷ (byte ∷ bytes)
    onto [] spelled = cc
    onto (part ∷ parts) spelled = cc

    at : (test : Bool) → eqb byte 47 ≡ test → flat_map segment_of (parts_of bytes) ≡ 47 ∷ bytes → flat_map segment_of (cond test ([] ∷ parts_of bytes) (onto_first byte (parts_of bytes))) ≡ 47 ∷ (byte ∷ bytes)
    at true is spelled = let slash : byte ≡ 47 = grind (arith, nat_tests) in cc
    at false is spelled = onto (parts_of bytes) spelled

-- the spelling of names, cut at its slashes, is the names
pub parts_of-spelled : (name : List ℕ) (names : List (List ℕ)) → AllByRecursion IsName (name ∷ names) → parts_of (name ++ flat_map segment_of names) ≡ name ∷ names
parts_of-spelled name [] are = ap parts_of (append-nil name) ∙ slice_split_none (λ byte. eqb byte 47) name (no_slash name are.0.visible)
parts_of-spelled name (next ∷ names) are =
    slice_split_at (λ byte. eqb byte 47) name 47 (next ++ flat_map segment_of names) (no_slash name are.0.visible) refl
    ∙ ap (λ parts. name ∷ parts) (parts_of-spelled next names are.1)
