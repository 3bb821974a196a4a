-- Flags, options, lengths and counts.
use Rattle.std.proofs.Common.{◌≡◌, ℕ, ◌^◌, ◌<◌, ◌≤◌, Bool, true, false, cond, ltb, eqb, length, Option, Some, None, Ok, Err, refl, sym, ap, subst, arith}
use Rattle.std.specs.Prelude.{is_some, unwrap_or}
use Rattle.std.specs.Option.{option_map}
use Rattle.std.specs.Int.{w8, w32}
use Rattle.std.proofs.lemmas.Bool.{ltb-false, le-ltb, eqb-true, ne_eqb}
use Rattle.zcodec.specs.declared.fault.Fault.TheVariants.{Long, Invalid}
use Rattle.zcodec.specs.declared.limits.TheConstants.{NULL}
use Rattle.zcodec.specs.Forms.{Form, number, exactly, only, either, times}
use Rattle.zcodec.specs.Choices.{flag, flag_from, some, option, at_most, length_from, sized, listed, null_from, FitsNull, null_or, unless_null, buffer, listed_or_null}
use Rattle.zcodec.specs.Laws.{IsForm}
use Rattle.zcodec.proofs.Bytes.{guard_ok, ok_is}
use Rattle.zcodec.proofs.Numbers.{is_u8, is_u32, is_exactly, is_only}
use Rattle.zcodec.proofs.Parts.{is_made, is_either, is_tagged, is_kind}
use Rattle.zcodec.proofs.Times.{is_times}

-- ---- flags and options

flag_ok : (n : ℕ) (a b : Bool) (flag : Bool) → eqb n 0 ≡ a → eqb n 1 ≡ b → cond a (Ok false) (cond b (Ok true) (Err Invalid)) ≡ Ok flag → cond flag 1 0 ≡ n
flag_ok n true b flag is_0 is_1 e = rw (← ok_is false flag e) (sym (eqb-true n 0 is_0))
flag_ok n false true flag is_0 is_1 e = rw (← ok_is true flag e) (sym (eqb-true n 1 is_1))
flag_ok n false false flag is_0 is_1 e = absurd cc

flag_forth : (b : Bool) → Unit {0} → (flag_from (cond b 1 0) ≡ Ok b) × (cond b 1 0 < 256)
flag_forth true fits = (refl, omega arith)
flag_forth false fits = (refl, omega arith)

pub is_flag : IsForm flag
is_flag = is_made (number w8) (λ b. cond b 1 0) flag_from (λ _. Unit {0}) is_u8
    (λ n b fits e. (flag_ok n (eqb n 0) (eqb n 1) b refl refl e, tt)) flag_forth

pub is_some_form : {A : Type 0} (c : Form A) → IsForm c → IsForm (some c)
is_some_form c is = is_kind c Some (λ o. o) is (λ x. refl) (λ y x e. sym e)

option_reports : {A : Type 0} (c : Form A) (has : Bool) (o : Option A) → (either has (some c) (only None)).Fits o → is_some o ≡ has
option_reports c true (Some x) fits = refl
option_reports c true None fits = absurd fits
option_reports c false o fits = ap is_some fits

pub is_option : {A : Type 0} (c : Form A) → IsForm c → IsForm (option c)
is_option c is = is_tagged flag is_some (λ has. either has (some c) (only None)) is_flag
    (λ has fits. is_either has (some c) (only None) (is_some_form c is) (is_only None))
    (λ has o fits fits_o. option_reports c has o fits_o)

-- ---- lengths and counts

pub is_at_most : (most : ℕ) → most < 2 ^ 32 → IsForm (at_most most)
is_at_most most few = is_made (number w32) (λ n. n) (length_from most) (λ n. n ≤ most) is_u32
    (λ n k fits e.
    let g = guard_ok (ltb most n) Long (Ok n) k e in
    let same = ok_is n k g.1 in
    let small : n ≤ most = ltb-false _ _ g.0 in
    (sym same, subst (λ (x : ℕ). x ≤ most) same small))
    (λ n fits. (rw (le-ltb _ _ fits) refl, omega (arith, fits, few)))

pub is_sized : (most : ℕ) → most < 2 ^ 32 → IsForm (sized most)
is_sized most few = is_tagged (at_most most) length exactly (is_at_most most few) (λ n fits. is_exactly n) (λ n bytes fits len. len)

pub is_listed : {A : Type 0} (most : ℕ) (c : Form A) → most < 2 ^ 32 → IsForm c → IsForm (listed most c)
is_listed most c few is = is_tagged (at_most most) length (times c) (is_at_most most few) (λ n fits. is_times c is n) (λ n xs fits fit. fit.0)

-- ---- with -1 for none

null_ok : (most n : ℕ) (a : Bool) (o : Option ℕ) → eqb n NULL ≡ a → cond a (Ok None) (cond (ltb most n) (Err Long) (Ok (Some n))) ≡ Ok o → (unwrap_or o NULL ≡ n) × FitsNull most o
null_ok most n true o is e =
    subst (λ (o : Option ℕ). (unwrap_or o NULL ≡ n) × FitsNull most o) (ok_is None o e) (sym (eqb-true n NULL is), tt)
null_ok most n false o is e =
    let g = guard_ok (ltb most n) Long (Ok (Some n)) o e in
    subst (λ (o : Option ℕ). (unwrap_or o NULL ≡ n) × FitsNull most o) (ok_is (Some n) o g.1) (refl, ltb-false _ _ g.0)

null_forth : (most : ℕ) → most < NULL → (o : Option ℕ) → FitsNull most o → (null_from most (unwrap_or o NULL) ≡ Ok o) × (unwrap_or o NULL < 2 ^ 32)
null_forth most few None fits = (refl, omega arith)
null_forth most few (Some n) fits =
    let other : eqb n NULL ≡ false = ne_eqb n NULL (λ e. omega (arith, e, fits, few)) in
    (rw (other, le-ltb _ _ fits) refl, omega (arith, fits, few))

pub is_null_or : (most : ℕ) → most < NULL → IsForm (null_or most)
is_null_or most few = is_made (number w32) (λ o. unwrap_or o NULL) (null_from most) (FitsNull most) is_u32
    (λ n o fits e. null_ok most n (eqb n NULL) o refl e) (null_forth most few)

unless_reports : {A : Type 0} (body : ℕ → Form A) (size : A → ℕ) → ((n : ℕ) (x : A) → (body n).Fits x → size x ≡ n)
    → (t : Option ℕ) (o : Option A) → (unless_null body t).Fits o → option_map size o ≡ t
unless_reports body size reports None o fits = ap (option_map size) fits
unless_reports body size reports (Some n) None fits = absurd fits
unless_reports body size reports (Some n) (Some x) fits = ap Some (reports n x fits)

is_unless : {A : Type 0} (body : ℕ → Form A) → ((n : ℕ) → IsForm (body n)) → (t : Option ℕ) → IsForm (unless_null body t)
is_unless body are None = is_only None
is_unless body are (Some n) = is_some_form (body n) (are n)

pub is_buffer : (most : ℕ) → most < NULL → IsForm (buffer most)
is_buffer most few = is_tagged (null_or most) (option_map length) (unless_null exactly) (is_null_or most few)
    (λ t fits. is_unless exactly is_exactly t) (λ t o fits fit. unless_reports exactly length (λ n bytes len. len) t o fit)

pub is_listed_or_null : {A : Type 0} (most : ℕ) (c : Form A) → most < NULL → IsForm c → IsForm (listed_or_null most c)
is_listed_or_null most c few is = is_tagged (null_or most) (option_map length) (unless_null (times c)) (is_null_or most few)
    (λ t fits. is_unless (times c) (is_times c is) t) (λ t o fits fit. unless_reports (times c) length (λ n xs fit. fit.0) t o fit)
