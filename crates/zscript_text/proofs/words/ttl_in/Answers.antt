use Rattle.std.proofs.Common.{◌≡◌, ◌<◌, ◌≤◌, ℕ, Bool, true, false, cond, ◌&&◌, Option, Some, None, IfSome, IfNone, refl, sym, ap, ◌∙◌, arith}
use Rattle.std.specs.Prelude.{nat_lt, nat_le}
use Rattle.std.specs.Option.{option_and_then}
use Rattle.std.proofs.lemmas.Bool.Decides.{nat_tests}
use Rattle.ztree.specs.Ttls.{IsTtl}
use Rattle.zscript_text.specs.Shape.{in_ttl_range}
use Rattle.zscript_text.proofs.words.ttl_in.Goals as goal

within : (n : ℕ) → 0 < n → n ≤ 1048576 → (nat_lt 0 n && nat_le n 1048576) ≡ true
within n above few =
    let a : nat_lt 0 n ≡ true = grind (arith, nat_tests) in
    let b : nat_le n 1048576 ≡ true = grind (arith, nat_tests) in
    λ i. a i && b i

above : (n : ℕ) → nat_lt 0 n ≡ true → 0 < n
above n e = grind (arith, nat_tests)

few : (n : ℕ) → nat_le n 1048576 ≡ true → n ≤ 1048576
few n e = grind (arith, nat_tests)

without : (n : ℕ) → (IsTtl n → ⊥) → (nat_lt 0 n && nat_le n 1048576) ≡ false
without n not = by (nat_lt 0 n) refl (nat_le n 1048576) refl
  where
    by : (a : Bool) → nat_lt 0 n ≡ a → (b : Bool) → nat_le n 1048576 ≡ b → (nat_lt 0 n && nat_le n 1048576) ≡ false
    by true x true y = absurd (not (above n x, few n y))
    by true x false y = λ i. x i && y i
    by false x b y = λ i. x i && y i

read : (n : ℕ) (o : Option ℕ) → IfSome o (λ t. (t ≡ n) × IsTtl n) → IfNone o (IsTtl n → ⊥) → o ≡ in_ttl_range n
read n (Some t) some none = ap Some some.0 ∙ sym (ap (λ b. cond b (Some n) None) (within n some.1.0 some.1.1))
read n None some none = sym (ap (λ b. cond b (Some n) None) (without n none))

pub returns : goal.returns
returns c =
    read c.in_ok-number.field-0 c.new.result c.new.ensures.ttl c.new.ensures.none ∙ ap (option_and_then in_ttl_range) c.in_ok-number.ensures
