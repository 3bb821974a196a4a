-- What a cursor with or without a text has left.
use Rattle.std.proofs.Common.{◌≡◌, ℕ, Bool, true, false, not, cond, eqb, List, [], ◌∷◌, Option, Some, None, refl, ap}
use Rattle.std.specs.Borrow.{Bor}
use Rattle.std.specs.Bool.{OnTrue, OnFalse}
use Rattle.std.specs.Prelude.{is_some}
use Rattle.std.specs.List.{onto_first}
use Rattle.zscript_text.specs.LineWords.{Word, words_of}
use Rattle.zscript_text.specs.support.Left.{words_in}

-- a text has a first word, be it empty
pub record HasFirst (words : List Word) : Type 0 where
  pub word : Word
  pub others : List Word
  pub are : words ≡ word ∷ others

has_first : (line : List ℕ) → HasFirst (words_of line)
has_first [] = record { word = []; others = []; are = refl }
has_first (b ∷ line) = by (eqb b 32) (has_first line)
  where
    by : (t : Bool) → HasFirst (words_of line) → HasFirst (cond t ([] ∷ words_of line) (onto_first b (words_of line)))
    by true h = record { word = []; others = words_of line; are = refl }
    by false h = record { word = b ∷ h.word; others = h.others; are = ap (onto_first b) h.are }

pub none_left : (left : Option (Bor (List ℕ))) (t : Bool) → is_some left ≡ not t → OnTrue t (words_in left ≡ [])
none_left None true e = refl
none_left None false e = tt
none_left (Some line) true e = cc
none_left (Some line) false e = tt

pub some_left : (left : Option (Bor (List ℕ))) (t : Bool) → is_some left ≡ not t → OnFalse t ((word : Word) × (words : List Word) × (words_in left ≡ word ∷ words))
some_left None true e = tt
some_left None false e = cc
some_left (Some line) true e = cc
some_left (Some line) false e = let first = has_first line.now in (first.word, first.others, first.are)
