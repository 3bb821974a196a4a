-- A number's last digits, and a name that ends with them.
use Rattle.std.proofs.Common.{◌≡◌, ℕ, zero, suc, ◌<◌, ◌≤◌, ◌+◌, ◌/◌, ◌%◌, ◌^◌, Bool, true, false, not, List, [], ◌∷◌, ◌++◌, length, codes, refl, sym, ap, ◌∙◌, arith, lit<, length-append, append_assoc}
use Rattle.std.specs.Str.{bytes_eq}
use Rattle.std.proofs.Math.Nat.{mod-lt, div-add-mod, pow-suc}
use Rattle.std.proofs.lemmas.Bool.Decides.{nat_tests}
use Rattle.std.proofs.lemmas.List.{same_from_push}
use Rattle.std.proofs.lemmas.List.Folds.{list_any-append}
use Rattle.std.proofs.lemmas.Nat.{div_below}
use Rattle.std.proofs.lemmas.Slice.Eq.{bytes_eq-Decides}
use Rattle.zpath.specs.declared.limits.TheConstants.{COUNTER_DIGITS, MAX_NAME_LEN}
use Rattle.zpath.specs.Grammar.{is_name_byte, has_bad_byte, IsName}
use Rattle.zpath.specs.Numbered.{digits}

-- there are as many digits as were asked for
pub length-digits : (width number : ℕ) → length (digits width number) ≡ width
length-digits zero number = refl
length-digits (suc width) number =
    omega (arith, length-append (digits width (number / 10)) ((48 + number % 10) ∷ []), length-digits width (number / 10))

-- so a name grows by as many bytes
pub length-numbered_name : (name : List ℕ) (counter : ℕ) → length (name ++ digits COUNTER_DIGITS counter) ≡ length name + COUNTER_DIGITS
length-numbered_name name counter = length-append name (digits COUNTER_DIGITS counter) ∙ ap (λ more. length name + more) (length-digits COUNTER_DIGITS counter)

-- digits may be in a name
has_bad_byte-digits : (width number : ℕ) → has_bad_byte (digits width number) ≡ false
has_bad_byte-digits zero number = refl
has_bad_byte-digits (suc width) number =
    list_any-append (λ byte. not (is_name_byte byte)) (digits width (number / 10)) ((48 + number % 10) ∷ [])
    ∙ rw (has_bad_byte-digits width (number / 10), is_visible (number % 10) (mod-lt number (lit< tt))) refl
  where
    is_visible : (digit : ℕ) → digit < 10 → not (is_name_byte (48 + digit)) ≡ false
    is_visible digit small = grind (arith, nat_tests)

-- a text is no other one that is shorter
pub bytes_eq-longer : (text other : List ℕ) → length other < length text → bytes_eq text other ≡ false
bytes_eq-longer text other longer = at (bytes_eq text other) refl
  where
    at : (test : Bool) → bytes_eq text other ≡ test → test ≡ false
    at true is = let same = ap length ((bytes_eq-Decides text other).0 is) in absurd (omega arith)
    at false is = refl

-- a name with a counter after it is a name, unless it is too long
pub IsName-numbered : (name : List ℕ) (counter : ℕ) → IsName name → length name + COUNTER_DIGITS ≤ MAX_NAME_LEN → IsName (name ++ digits COUNTER_DIGITS counter)
IsName-numbered name counter is short =
    let long = length-numbered_name name counter in
    let one_dot = bytes_eq-longer (name ++ digits COUNTER_DIGITS counter) (codes ".") (omega arith) in
    let two_dots = bytes_eq-longer (name ++ digits COUNTER_DIGITS counter) (codes "..") (omega arith) in
    record {
      filled = omega arith;
      no_dots = rw (one_dot, two_dots) refl;
      visible =
          list_any-append (λ byte. not (is_name_byte byte)) name (digits COUNTER_DIGITS counter)
          ∙ rw (is.visible, has_bad_byte-digits COUNTER_DIGITS counter) refl;
      short = omega arith;
    }

-- two numbers below a power of ten with the same digits, after whatever names, are the same
pub digits_injective : (width : ℕ) (left right : List ℕ) (a b : ℕ) → a < 10 ^ width → b < 10 ^ width → left ++ digits width a ≡ right ++ digits width b → a ≡ b
digits_injective zero left right a b small_a small_b same = omega arith
digits_injective (suc width) left right a b small_a small_b same =
    let ends = same_from_push (left ++ digits width (a / 10)) (right ++ digits width (b / 10)) (48 + a % 10) (48 + b % 10) (
    append_assoc left (digits width (a / 10)) ((48 + a % 10) ∷ [])
    ∙ same
    ∙ sym (append_assoc right (digits width (b / 10)) ((48 + b % 10) ∷ []))
    ) in
    let fronts = digits_injective width left right (a / 10) (b / 10) (below a small_a) (below b small_b) ends.0 in
    omega (arith, div-add-mod a 10, div-add-mod b 10, ends.1, fronts)
  where
    below : (n : ℕ) → n < 10 ^ suc width → n / 10 < 10 ^ width
    below n small = div_below n 10 (10 ^ width) (lit< tt) (rw (← pow-suc 10 width) small)
