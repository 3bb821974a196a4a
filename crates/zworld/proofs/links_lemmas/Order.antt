-- Channels before and after positions, and the test for it.
use Rattle.std.proofs.Common.{◌≡◌, ℕ, ◌<◌, true, false, if◌then◌else◌, refl, sym, ap, ◌∙◌, arith, inl, inr, eqb-true, eq-eqb}
use mathlib.Core.Bool.{true≢false}
use Rattle.std.proofs.lemmas.Bool.Decides.{nat_tests}
use Rattle.std.specs.Prelude.{nat_lt, ◌==◌}
use Rattle.zcalls.proofs.Among.{test}
use Rattle.zprotocol.proofs.world_lemmas.Tests.{both}
use Rattle.zworld.specs.links.Places.{Channel, is_between}
use Rattle.zworld.specs.links.support.Order.{IsBefore, is_before, IsBehind, IsFrom}

-- a channel after one that is at these positions or after them
pub behind_next : {T : Type 0} (channel next : Channel T) (from to : ℕ) → IsBehind channel next.from next.to → IsFrom next from to
    → IsBehind channel from to
behind_next channel next from to behind is = (
  omega (arith, behind.0, is.0),
  λ back. omega (arith, behind.0, is.0, is.1 (omega (arith, behind.0, back)), behind.1 (omega (arith, is.0, back))),
)

-- one after these positions is from there on
pub from_behind : {T : Type 0} (channel : Channel T) (from to : ℕ) → IsBehind channel from to → IsFrom channel from to
from_behind channel from to behind = (behind.0, λ back. omega (arith, behind.1 back))

module _ {T : Type 0} (channel : Channel T) (from to : ℕ) where
  -- what the test says
  pub before_is : is_before channel from to ≡ true → IsBefore channel from to
  before_is is = elim (test (channel.from == from)) [
    | inl same ↦
        let here : channel.from ≡ from = eqb-true channel.from from same in
        let passed : nat_lt channel.to to ≡ true = ap (λ b. if b then nat_lt channel.to to else nat_lt channel.from from) (sym same) ∙ is in
        (omega (arith, here), λ back. grind (arith, nat_tests, passed))
    | inr other ↦
        let passed : nat_lt channel.from from ≡ true = ap (λ b. if b then nat_lt channel.to to else nat_lt channel.from from) (sym other) ∙ is in
        let less : channel.from < from = grind (arith, nat_tests, passed) in
        (omega (arith, less), λ back. absurd (omega (arith, less, back)))
  ]

  pub from_is : is_before channel from to ≡ false → IsFrom channel from to
  from_is is = elim (test (channel.from == from)) [
    | inl same ↦
        let here : channel.from ≡ from = eqb-true channel.from from same in
        let failed : nat_lt channel.to to ≡ false = ap (λ b. if b then nat_lt channel.to to else nat_lt channel.from from) (sym same) ∙ is in
        (omega (arith, here), λ back. grind (arith, nat_tests, failed))
    | inr other ↦
        let failed : nat_lt channel.from from ≡ false = ap (λ b. if b then nat_lt channel.to to else nat_lt channel.from from) (sym other) ∙ is in
        let less : from < channel.from = grind (arith, nat_tests, failed, other) in
        (omega (arith, less), λ back. absurd (omega (arith, less, back)))
  ]

  -- a channel between other positions
  elsewhere : (channel.from ≡ from → channel.to ≡ to → ⊥) → is_between channel from to ≡ false
  elsewhere apart = elim (test (channel.from == from)) [
    | inl same ↦ elim (test (channel.to == to)) [
      | inl here ↦ absurd (apart (eqb-true channel.from from same) (eqb-true channel.to to here))
      | inr other ↦ rw (same, other) refl
    ]
    | inr other ↦ rw other refl
  ]

  pub before_elsewhere : IsBefore channel from to → is_between channel from to ≡ false
  before_elsewhere before = elsewhere (λ e f. omega (arith, before.1 (omega (arith, e)), f))

  pub behind_elsewhere : IsBehind channel from to → is_between channel from to ≡ false
  behind_elsewhere behind = elsewhere (λ e f. omega (arith, behind.1 (omega (arith, e)), f))

  -- one between these positions
  pub between_places : is_between channel from to ≡ true → (channel.from ≡ from) × (channel.to ≡ to)
  between_places is =
      let tests = both (channel.from == from) (channel.to == to) is in
      (eqb-true channel.from from tests.0, eqb-true channel.to to tests.1)

  pub places_between : channel.from ≡ from → channel.to ≡ to → is_between channel from to ≡ true
  places_between e f = rw (eq-eqb channel.from from e, eq-eqb channel.to to f) refl

  -- one that is from these positions on, but not at them, is after them
  pub behind_from : IsFrom channel from to → is_between channel from to ≡ false → IsBehind channel from to
  behind_from is other = (
    is.0,
    λ back. elim (test (nat_lt to channel.to)) [
      | inl less ↦ grind (arith, nat_tests, less)
      | inr not ↦
          let same : channel.from ≡ from = omega (arith, is.0, back) in
          let here : channel.to ≡ to = grind (arith, nat_tests, not, is.1 back) in
          absurd (true≢false (sym (places_between same here) ∙ other))
    ],
  )
