-- A text that passes the quick test has no fault.
use Rattle.std.proofs.Common.{◌≡◌, ℕ, ◌<◌, ◌≤◌, ◌-◌, Bool, true, false, not, ◌&&◌, cond, eqb, List, [], ◌∷◌, ◌++◌, length, None, codes, refl, sym, ap, ◌∙◌, arith}
use Rattle.std.specs.Prelude.{nat_lt, nat_eq}
use Rattle.std.specs.List.{list_any, onto_first, flat_map, starts_with}
use Rattle.std.specs.Str.{bytes_eq}
use Rattle.std.proofs.lemmas.Bool.Decides.{nat_tests}
use Rattle.std.proofs.lemmas.List.{length-append}
use Rattle.std.proofs.lemmas.Slice.Eq.{bytes_eq-Decides}
use Rattle.zpath.specs.declared.limits.TheConstants.{MAX_NAME_LEN, MAX_TEXT_LEN, MAX_DEPTH}
use Rattle.zpath.specs.Grammar.{is_name_byte, is_empty, is_dots, has_bad_byte, is_long, is_reserved, segment_of}
use Rattle.zpath.specs.Faults.{parts_of, names_of, fault_of}
use Rattle.zpath.specs.support.Plain.{has_plain_names}
use Rattle.zpath.proofs.NameTests.{not_above}
use Rattle.zpath.proofs.Spelling.{fault_of-none, tests_of_absolute}
use Rattle.zpath.proofs.Splits.{spelled-parts_of}

both_true : (a b : Bool) → (a && b) ≡ true → (a ≡ true) × (b ≡ true)
both_true true b e = (refl, e)
both_true false b e = cc

is_off : (a : Bool) → not a ≡ true → a ≡ false
is_off true e = cc
is_off false e = refl

-- parts that are names, but for their lengths; the first is one where it is whole
record ArePlain (room : ℕ) (begins : Bool) (parts : List (List ℕ)) : Type 0 where
  pub first : List ℕ
  pub others : List (List ℕ)
  pub are : parts ≡ first ∷ others
  pub whole : begins ≡ true → (is_empty first ≡ false) × (is_dots first ≡ false)
  pub visible : has_bad_byte first ≡ false
  pub others_filled : list_any is_empty others ≡ false
  pub others_no_dots : list_any is_dots others ≡ false
  pub others_visible : list_any has_bad_byte others ≡ false
  pub few : length others ≤ room

-- a slash ends a name
after_slash : (room : ℕ) (parts : List (List ℕ)) → 0 < room → ArePlain (room - 1) true parts → ArePlain room false ([] ∷ parts)
after_slash room parts some plain =
    let whole = plain.whole refl in
    record {
      first = [];
      others = parts;
      are = refl;
      whole = λ begins. cc;
      visible = refl;
      others_filled = rw (plain.are, whole.0) plain.others_filled;
      others_no_dots = rw (plain.are, whole.1) plain.others_no_dots;
      others_visible = rw (plain.are, plain.visible) plain.others_visible;
      few = rw plain.are (omega (arith, some, plain.few));
    }

no_dots : (byte : ℕ) (name : List ℕ) → eqb byte 46 ≡ false → is_dots (byte ∷ name) ≡ false
no_dots byte name other = rw other refl

filled : (byte : ℕ) (name : List ℕ) → is_empty (byte ∷ name) ≡ false
filled byte name = grind (arith, nat_tests)

no_dot : (begins dot : Bool) → not (begins && dot) ≡ true → begins ≡ true → dot ≡ false
no_dot true dot e begins = is_off dot e
no_dot false dot e begins = cc

-- any other byte belongs to a name
after_byte : (room : ℕ) (begins : Bool) (byte : ℕ) (parts : List (List ℕ)) → is_name_byte byte ≡ true → not (begins && eqb byte 46) ≡ true → ArePlain room false parts → ArePlain room begins (onto_first byte parts)
after_byte room begins byte parts visible no_dot_first plain =
    record {
      first = byte ∷ plain.first;
      others = plain.others;
      are = ap (onto_first byte) plain.are;
      whole = λ whole. (filled byte plain.first, no_dots byte plain.first (no_dot begins (eqb byte 46) no_dot_first whole));
      visible = rw visible plain.visible;
      others_filled = plain.others_filled;
      others_no_dots = plain.others_no_dots;
      others_visible = plain.others_visible;
      few = plain.few;
    }

by_byte : (room : ℕ) (begins : Bool) (byte : ℕ) (parts : List (List ℕ)) (next later slash : Bool) → (next ≡ true → ArePlain (room - 1) true parts) → (later ≡ true → ArePlain room false parts)
    → cond slash (not begins && nat_lt 0 room && next) (is_name_byte byte && not (begins && eqb byte 46) && later) ≡ true
    → ArePlain room begins (cond slash ([] ∷ parts) (onto_first byte parts))
by_byte room true byte parts next later true after on e = cc
by_byte room false byte parts next later true after on e =
    let more = both_true (nat_lt 0 room) next e in
    let some : 0 < room = grind (arith, nat_tests) in
    after_slash room parts some (after more.1)
by_byte room begins byte parts next later false after on e =
    let more = both_true (is_name_byte byte && not (begins && eqb byte 46)) later e in
    let good = both_true (is_name_byte byte) (not (begins && eqb byte 46)) more.0 in
    after_byte room begins byte parts good.0 good.1 (on more.1)

plain_parts : (room : ℕ) (begins : Bool) (bytes : List ℕ) → has_plain_names room begins bytes ≡ true → ArePlain room begins (parts_of bytes)
plain_parts room true [] e = cc
plain_parts room false [] e =
    record {
      first = [];
      others = [];
      are = refl;
      whole = λ begins. cc;
      visible = refl;
      others_filled = refl;
      others_no_dots = refl;
      others_visible = refl;
      few = omega arith;
    }
plain_parts room begins (byte ∷ bytes) e =
    by_byte room begins byte (parts_of bytes) (has_plain_names (room - 1) true bytes) (has_plain_names room false bytes) (eqb byte 47)
    (plain_parts (room - 1) true bytes) (plain_parts room false bytes) e

-- no part is longer than the whole text
short_parts : (parts : List (List ℕ)) → length (flat_map segment_of parts) ≤ MAX_NAME_LEN → list_any is_long parts ≡ false
short_parts [] fits = refl
short_parts (part ∷ parts) fits =
    let len = length-append (segment_of part) (flat_map segment_of parts) in
    let more = rw len at fits in
    rw (not_above MAX_NAME_LEN (length part) (omega (arith, more)), short_parts parts (omega (arith, more))) refl

-- a text that doesn't begin with the reserved name has another first name
pub unreserved : (rest : List ℕ) → starts_with nat_eq rest (codes "zookeeper") ≡ false → is_reserved (parts_of rest) ≡ false
unreserved rest other = at (parts_of rest) (spelled-parts_of rest)
  where
    by : (first tail : List ℕ) (is : Bool) → bytes_eq first (codes "zookeeper") ≡ is → first ++ tail ≡ rest → is ≡ false
    by first tail true is spelled =
        let same = (bytes_eq-Decides first (codes "zookeeper")).0 is in
        cc
    by first tail false is spelled = refl

    at : (parts : List (List ℕ)) → flat_map segment_of parts ≡ 47 ∷ rest → is_reserved parts ≡ false
    at [] spelled = refl
    at (first ∷ parts) spelled = by first (flat_map segment_of parts) (bytes_eq first (codes "zookeeper")) refl cc

-- what the quick test says of a text
pub plain_is_faultless : (text rest : List ℕ) → text ≡ 47 ∷ rest → length text ≤ MAX_NAME_LEN → is_reserved (parts_of rest) ≡ false → has_plain_names (MAX_DEPTH - 1) true rest ≡ true → fault_of text ≡ None
plain_is_faultless text [] begins short other plain = cc
plain_is_faultless text (byte ∷ bytes) begins short other plain =
    let rest = byte ∷ bytes in
    let names : names_of text ≡ parts_of rest = ap names_of begins in
    let absolute = tests_of_absolute text rest begins in
    let parts = plain_parts (MAX_DEPTH - 1) true rest plain in
    let whole = parts.whole refl in
    let spelled = spelled-parts_of rest ∙ sym begins in
    let fits : length (flat_map segment_of (parts_of rest)) ≤ MAX_NAME_LEN = rw spelled short in
    fault_of-none text (record {
      filled = absolute.0;
      absolute = absolute.1;
      names = record {
        filled = rw (names, parts.are, whole.0) parts.others_filled;
        no_dots = rw (names, parts.are, whole.1) parts.others_no_dots;
        visible = rw (names, parts.are, parts.visible) parts.others_visible;
        short = rw names (short_parts (parts_of rest) fits);
      };
      short = not_above MAX_TEXT_LEN (length text) (omega (arith, short));
      shallow = let few = parts.few in rw (names, parts.are) (not_above MAX_DEPTH _ (omega (arith, few)));
      unreserved = rw names other;
    })

-- and the text has names
pub plain_below_root : (text rest : List ℕ) → text ≡ 47 ∷ rest → has_plain_names (MAX_DEPTH - 1) true rest ≡ true → names_of text ≡ parts_of rest
plain_below_root text [] begins plain = cc
plain_below_root text (byte ∷ bytes) begins plain = ap names_of begins
