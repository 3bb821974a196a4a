-- Where the first word of a text ends.
use Rattle.std.proofs.Common.{◌≡◌, ℕ, ◌+◌, ◌<◌, eqb, Bool, true, false, not, List, [], ◌∷◌, length, get_or, take, drop, sym, ap, subst, ◌∙◌, arith, inl, inr}
use Rattle.std.specs.List.{position_or_len}
use Rattle.std.specs.Str.{IsUtf8, IsCharBoundary}
use Rattle.std.proofs.lemmas.Bool.{cases_lt, eqb-true, not-true, not-false}
use Rattle.std.proofs.lemmas.List.Elements.{All-from_get_or}
use Rattle.std.proofs.lemmas.List.Splits.{slice_split_first, slice_split_none}
use Rattle.std.proofs.lemmas.List.Sums.{prefix_len-drop_all, prefix_len-drop_no, prefix_len-le-length, prefix_len_passes, prefix_len_stops}
use Rattle.std.proofs.lemmas.Str.{IsCharBoundary-after_ascii}
use Rattle.zscript_text.specs.LineWords.{words_of}

abbrev is_space : ℕ → Bool
is_space byte = eqb byte 0x20

-- a search over the bytes of a text, byte by byte, ends where the first space is, or at the end
pub first_space : (bytes text : List ℕ) (end : ℕ) → bytes ≡ text → end + position_or_len is_space (drop end bytes) ≡ position_or_len is_space bytes → (end < length bytes → get_or bytes end 0 ≡ 0x20) → end ≡ position_or_len is_space text
first_space bytes text end are rest stops =
    elim (cases_lt end (length bytes)) [
      | inl within ↦ none_before (prefix_len-drop_no (λ byte. not (is_space byte)) bytes end 0 within (ap (λ byte. not (is_space byte)) (stops within)))
      | inr whole ↦ none_before (prefix_len-drop_all (λ byte. not (is_space byte)) bytes end whole)
    ]
  where
    none_before : position_or_len is_space (drop end bytes) ≡ 0 → end ≡ position_or_len is_space text
    none_before none =
        let at : end ≡ position_or_len is_space bytes = omega (arith, rest, none) in
        at ∙ ap (position_or_len is_space) are

module _ (text : List ℕ) (end : ℕ) (is : end ≡ position_or_len (λ byte. eqb byte 0x20) text) where
  space : end < length text → get_or text end 0 ≡ 0x20
  space within =
      let at = prefix_len_stops (λ byte. not (is_space byte)) text 0 (omega (arith, is, within)) in
      eqb-true _ _ (subst (λ k. eqb (get_or text k 0) 0x20 ≡ true) (sym is) (not-false _ at))

  -- a space follows a word that isn't the last
  pub cut_word : end < length text → words_of text ≡ take end text ∷ words_of (drop (end + 1) text)
  cut_word within = subst (λ k. words_of text ≡ take k text ∷ words_of (drop (k + 1) text)) (sym is) (slice_split_first is_space text 0 (omega (arith, is, within)))

  -- the last word goes to the end
  pub last_word : end ≡ length text → words_of text ≡ text ∷ []
  last_word whole =
      slice_split_none is_space text
      (All-from_get_or (λ byte. is_space byte ≡ false) text 0 (λ k l. not-true _ (prefix_len_passes (λ byte. not (is_space byte)) text k 0 (omega (arith, is, whole, l)))))

  -- the text can be cut after the space
  pub behind_space : IsUtf8 text → end < length text → IsCharBoundary text (end + 1)
  behind_space utf8 within = IsCharBoundary-after_ascii text end utf8 within (omega (arith, space within))

  -- it ends within the text
  pub within_text : (end ≡ length text → ⊥) → end < length text
  within_text other = omega (arith, is, other, prefix_len-le-length (λ byte. not (is_space byte)) text)
