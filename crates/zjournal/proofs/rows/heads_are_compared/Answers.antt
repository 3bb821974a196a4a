use Rattle.std.proofs.Common.{◌≡◌, inl, ℕ, List, [], ◌∷◌, ◌++◌, get_or, take, drop, refl, sym, ap, arith}
use Rattle.std.specs.Prelude.{codes}
use Rattle.zjournal.proofs.Adler.{sum_is_small}
use Rattle.zjournal.proofs.Digits.{same_digits}
use Rattle.zjournal.proofs.rows.heads_are_compared.Goals as goal

pub returns-clause-older : goal.returns-clause-older
returns-clause-older c = (2, 3, codes "tree of zk 2" ++ 0 ∷ 0 ∷ [], refl, omega arith, omega arith)

pub returns-clause-other : goal.returns-clause-other
returns-clause-other c =
    (3, codes "wood00000001" ++ 0 ∷ 0 ∷ [], refl, omega arith, (λ is. omega (arith, ap (λ (l : List ℕ). get_or l 0 0) is)))

pub returns-clause-ours : goal.returns-clause-ours
returns-clause-ours c old = omega (arith, ap (λ (l : List ℕ). get_or l 19 0) old.3, old.5)

pub returns-clause-no_sum : goal.returns-clause-no_sum
returns-clause-no_sum c = inl (
  refl,
  (
    codes "treefff10000" ++ 0 ∷ 0 ∷ [],
    refl,
    (λ start more is_sum is.
        let same : start ≡ 4293984256 = same_digits start 4293984256 (sum_is_small start is_sum) (omega arith)
        (sym (ap (λ (l : List ℕ). take 8 (drop 4 l)) is)) in
        omega (arith, same, is_sum.1)),
    (λ other. other.4 (ap (λ (l : List ℕ). take 4 (drop 21 l)) (sym other.2))),
  ),
)
