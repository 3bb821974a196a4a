-- The tests of names, and what it means for them not to hold.
use Rattle.std.proofs.Common.{◌≡◌, ℕ, ◌<◌, ◌≤◌, Bool, true, false, eqb, ltb, not, ◌||◌, List, [], ◌∷◌, length, refl, arith}
use Rattle.std.specs.List.{list_any, AllByRecursion, All}
use Rattle.std.proofs.lemmas.Bool.Decides.{nat_tests}
use Rattle.std.proofs.lemmas.List.Elements.{All-nil, All-cons}
use Rattle.zpath.specs.declared.limits.TheConstants.{MAX_NAME_LEN}
use Rattle.zpath.specs.Grammar.{is_name_byte, is_empty, is_dots, has_bad_byte, is_long, IsName}

pub both_false : (a b : Bool) → (a || b) ≡ false → (a ≡ false) × (b ≡ false)
both_false true b e = cc
both_false false b e = (refl, e)

pub at_most : (limit n : ℕ) → ltb limit n ≡ false → n ≤ limit
at_most limit n e = grind (arith, nat_tests)

pub not_above : (limit n : ℕ) → n ≤ limit → ltb limit n ≡ false
not_above limit n e = grind (arith, nat_tests)

pub above : (limit n : ℕ) → limit < n → ltb limit n ≡ true
above limit n e = grind (arith, nat_tests)

filled_from_test : (name : List ℕ) → is_empty name ≡ false → 0 < length name
filled_from_test [] e = cc
filled_from_test (byte ∷ name) e = omega arith

-- no test of a name holds
pub record PassesTests (names : List (List ℕ)) : Type 0 where
  pub filled : list_any is_empty names ≡ false
  pub no_dots : list_any is_dots names ≡ false
  pub visible : list_any has_bad_byte names ≡ false
  pub short : list_any is_long names ≡ false

pub names_from_tests : (names : List (List ℕ)) → PassesTests names → AllByRecursion IsName names
names_from_tests [] passes = tt
names_from_tests (name ∷ names) passes =
    let filled = both_false _ _ passes.filled in
    let no_dots = both_false _ _ passes.no_dots in
    let visible = both_false _ _ passes.visible in
    let short = both_false _ _ passes.short in
    let is_name : IsName name = record {
      filled = filled_from_test name filled.0;
      no_dots = no_dots.0;
      visible = visible.0;
      short = at_most MAX_NAME_LEN (length name) short.0;
    } in
    (is_name, names_from_tests names (record { filled = filled.1; no_dots = no_dots.1; visible = visible.1; short = short.1 }))

pub tests_from_names : (names : List (List ℕ)) → AllByRecursion IsName names → PassesTests names
tests_from_names [] are = record { filled = refl; no_dots = refl; visible = refl; short = refl }
tests_from_names (name ∷ names) are =
    let more = tests_from_names names are.1 in
    let filled : is_empty name ≡ false = let some = are.0.filled in grind (arith, nat_tests) in
    let short : is_long name ≡ false = not_above MAX_NAME_LEN (length name) are.0.short in
    record {
      filled = rw filled more.filled;
      no_dots = rw are.0.no_dots more.no_dots;
      visible = rw are.0.visible more.visible;
      short = rw short more.short;
    }

-- a name has no slash
pub no_slash : (name : List ℕ) → has_bad_byte name ≡ false → All (λ byte. eqb byte 47 ≡ false) name
no_slash [] e = All-nil _
no_slash (byte ∷ name) e =
    let here = both_false _ _ e in
    All-cons (λ byte. eqb byte 47 ≡ false) byte name (is_other byte here.0) (no_slash name here.1)
  where
    is_other : (byte : ℕ) → not (is_name_byte byte) ≡ false → eqb byte 47 ≡ false
    is_other byte e = grind (arith, nat_tests)
