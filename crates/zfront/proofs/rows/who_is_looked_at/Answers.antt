use Rattle.std.proofs.Common.{◌≡◌, Bool, true, false, ◌||◌, [], ◌∷◌, refl, sym}
use Rattle.std.specs.Ordering.{eq_by_cmp}
use Rattle.std.specs.List.Sorted.{IsStrictlySortedBy}
use Rattle.zpath.specs.Grammar.{path_cmp}
use Rattle.ztree.specs.support.Samples.{at_a, at_a_b}
use Rattle.ztree.proofs.Sorted.{paths_total, same_path}
use Rattle.zfront.proofs.Rising.{rising-members}
use Rattle.zfront.proofs.rows.who_is_looked_at.Goals as goal

other_order : (a b : Bool) → (a || (b || false)) ≡ (b || (a || (b || false)))
other_order true true = refl
other_order true false = refl
other_order false true = refl
other_order false false = refl

rising : IsStrictlySortedBy path_cmp (at_a ∷ at_a_b ∷ [])
unfolding IsStrictlySortedBy
rising = ((refl, tt), (tt, tt))

pub returns-clause-order : goal.returns-clause-order
returns-clause-order c =
    sym (rising-members paths_total same_path (at_a ∷ at_a_b ∷ []) (at_a_b ∷ at_a ∷ at_a_b ∷ []) rising
    (λ q. other_order (eq_by_cmp path_cmp q at_a) (eq_by_cmp path_cmp q at_a_b)))
