use Rattle.std.proofs.Common.{◌≡◌, List, ℕ, take, drop, sym, ◌∙◌, ap, subst, arith}
use mathlib.Core.Bool.{true≢false}
use Rattle.zjournal.specs.Checksum.{IsSum, digits}
use Rattle.zjournal.proofs.Adler.{sum_is_small}
use Rattle.zjournal.proofs.Digits.{same_digits}
use Rattle.zjournal.proofs.head.start_in.Goals as goal

pub returns-else-is_sum-clause-none : goal.returns-else-is_sum-clause-none
returns-else-is_sum-clause-none c start more is_sum is =
    let digits_are : digits c.in_ok-start.start ≡ digits start = sym c.in_ok-start.ensures.some
    ∙ ap (λ (l : List ℕ). take 8 (drop 4 l)) (sym c.in_ok-rest.ensures.some ∙ is) in
    let same = same_digits c.in_ok-start.start start (omega arith) (sum_is_small start is_sum) digits_are in
    true≢false (sym (c.is_sum.ensures.1 (subst IsSum (sym same) is_sum)) ∙ c.if-is_sum.false)
