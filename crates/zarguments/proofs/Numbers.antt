-- The numbers that options have.
use Rattle.std.proofs.Common.{◌≡◌, ◌∙◌, ◌<◌, ◌≤◌, ◌+◌, ◌^◌, ◌&&◌, ◌++◌, ℕ, Bool, cond, true, false, refl, sym, ap, List, [], ◌∷◌, map, length, drop, drop-cons, add-one, get_or, Option, Some, None, Result, Ok, Err, nat_lt, option_map, option_and_then, append_assoc, append-nil, drop_of_length-le, lt-ltb, ltb-true}
use Rattle.std.specs.List.{list_all}
use Rattle.std.specs.Char.{digit_value}
use Rattle.std.specs.Str.Parse.{AllDigits, IsNumeral, ParsesUnsigned, digits_value, without_leading_plus}
use Rattle.clap.specs.Walk.{Row, Text, rows_of}
use Rattle.clap.specs.Matches.{ReadsOne, one_text}
use Rattle.clap.specs.ValueTests.{is_numeral}
use Rattle.clap.specs.declared.parser.matches.Found.{Found}
use Rattle.clap.proofs.WalkLemmas.{both, one_text-rows}
use Rattle.zarguments.specs.declared.options.NumberOption.{NumberOption}
use Rattle.zarguments.specs.Asked.{number_in, u16_of, numbers_of, spelling_of}

-- ---- one number

digits-pass : (ds : List ℕ) → AllDigits 10 ds → list_all (λ d. nat_lt (digit_value d) 10) ds ≡ true
digits-pass [] h = refl
digits-pass (d ∷ ds) h = rw (lt-ltb (digit_value d) 10 h.0) (digits-pass ds h.1)

pass-digits : (ds : List ℕ) → list_all (λ d. nat_lt (digit_value d) 10) ds ≡ true → AllDigits 10 ds
pass-digits [] e = tt
pass-digits (d ∷ ds) e =
    let parts = both _ _ e in
    (ltb-true _ _ parts.0, pass-digits ds parts.1)

-- a text is a numeral of u16
abbrev fits_u16 : List ℕ → Bool
fits_u16 digits = is_numeral digits && nat_lt (digits_value 10 digits) (2 ^ 16)

fits-numeral : (ds : List ℕ) → fits_u16 ds ≡ true → IsNumeral 10 ds × (digits_value 10 ds < 2 ^ 16)
fits-numeral ds e =
    let parts = both (is_numeral ds) _ e in
    let numeral = both (nat_lt 0 (length ds)) _ parts.0 in
    ((ltb-true _ _ numeral.0, pass-digits ds numeral.1), ltb-true _ _ parts.1)

numeral-fits : (ds : List ℕ) → IsNumeral 10 ds × (digits_value 10 ds < 2 ^ 16) → fits_u16 ds ≡ true
numeral-fits ds h = rw (lt-ltb 0 (length ds) h.0.0, digits-pass ds h.0.1, lt-ltb _ _ h.1) refl

-- what `from_str` reads is the number
module _ {E : Type 0} (gives : Text → Result ℕ E → Type 0) (weaker : (t : Text) (r : Result ℕ E) → gives t r → ParsesUnsigned 16 10 t r) where
  u16_of-read : (t : Text) (r : Option ℕ) → ReadsOne gives t r → r ≡ u16_of t
  u16_of-read t (Some v) h =
      let ds = without_leading_plus t in
      let read = weaker t (Ok v) h in
      ap Some read.1 ∙ ap (λ (b : Bool). cond b (Some (digits_value 10 ds)) None) (sym (numeral-fits ds read.0))
  u16_of-read t None h = go (fits_u16 ds) refl
    where
      ds : List ℕ
      ds = without_leading_plus t

      go : (b : Bool) → fits_u16 ds ≡ b → None ≡ cond b (Some (digits_value 10 ds)) None
      go false e = refl
      go true e = absurd (weaker t (Err h.0) h.1 (fits-numeral ds e))

  -- what `get_one` answers
  pub number_in-read : (id : Text) (f : Found) (r : Option ℕ) → (one_text f id ≡ None → r ≡ None)
      → ((t : Text) → one_text f id ≡ Some t → ReadsOne gives t r) → r ≡ number_in id (rows_of f)
  number_in-read id f r none value = go (one_text f id) refl ∙ ap (option_and_then u16_of) (one_text-rows f id)
    where
      go : (o : Option Text) → one_text f id ≡ o → r ≡ option_and_then u16_of (one_text f id)
      go None e = none e ∙ ap (option_and_then u16_of) (sym e)
      go (Some t) e = u16_of-read t r (value t e) ∙ ap (option_and_then u16_of) (sym e)

-- ---- all of them

-- what is left, with the first of it apart
pub drop-more : {X : Type 0} (xs : List X) (i : ℕ) (d : X) → i < length xs → drop i xs ≡ get_or xs i d ∷ drop (i + 1) xs
drop-more xs i d lt = drop-cons xs i d lt ∙ ap (λ (k : ℕ). get_or xs i d ∷ drop k xs) (sym (add-one i))

-- the numbers so far, and those of the options that are left
abbrev pub joined : List ℕ → Option (List ℕ) → Option (List ℕ)
joined before = option_map (λ later. before ++ later)

pub joined-nil : (later : Option (List ℕ)) → joined [] later ≡ later
joined-nil None = refl
joined-nil (Some numbers) = refl

-- an option that has a number
pub joined-more : (before : List ℕ) (option : Text × Text) (rest : List (Text × Text)) (rows : List Row) (n : ℕ)
    → number_in option.0 rows ≡ Some n → joined (before ++ n ∷ []) (numbers_of rest rows) ≡ joined before (numbers_of (option ∷ rest) rows)
joined-more before option rest rows n is =
    go (numbers_of rest rows) ∙ ap (λ (o : Option ℕ). joined before (option_and_then (λ m. option_map (λ ms. m ∷ ms) (numbers_of rest rows)) o)) (sym is)
  where
    go : (later : Option (List ℕ)) → joined (before ++ n ∷ []) later ≡ joined before (option_map (λ ms. n ∷ ms) later)
    go None = refl
    go (Some ms) = ap Some (append_assoc before (n ∷ []) ms)

-- an option that has none
pub joined-none : (before : List ℕ) (option : Text × Text) (rest : List (Text × Text)) (rows : List Row)
    → number_in option.0 rows ≡ None → None ≡ joined before (numbers_of (option ∷ rest) rows)
joined-none before option rest rows is =
    ap (λ (o : Option ℕ). joined before (option_and_then (λ m. option_map (λ ms. m ∷ ms) (numbers_of rest rows)) o)) (sym is)

-- no option is left
pub joined-all : (before : List ℕ) (options : List NumberOption) (i : ℕ) (rows : List Row) → length options ≤ i
    → Some before ≡ joined before (numbers_of (map spelling_of (drop i options)) rows)
joined-all before options i rows past =
    ap Some (sym (append-nil before)) ∙ ap (λ (left : List NumberOption). joined before (numbers_of (map spelling_of left) rows)) (sym (drop_of_length-le options past))
