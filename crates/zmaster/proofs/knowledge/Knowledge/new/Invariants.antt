use Rattle.std.proofs.Common.{◌≡◌, ◌-◌, ℕ, map}
use Rattle.std.specs.List.{range_with_len}
use Rattle.zmaster.specs.support.Marks.{numbers_from}
use Rattle.zmaster.proofs.knowledge.Knowledge.new.Given as goal

abbrev pub invariant-loop-number : goal.invariant-loop-number
invariant-loop-number l =
    (l.chain.items ≡ map (λ (s : ℕ). (s, 0)) (range_with_len 1 (l.number - 1)))
    × (numbers_from 1 l.used ≡ range_with_len 1 (l.number - 1))
