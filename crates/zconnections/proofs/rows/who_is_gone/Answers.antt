use Rattle.std.proofs.Common.{refl, ap, ◌∙◌}
use Rattle.std.specs.Ordering.{nat_cmp}
use Rattle.std.specs.Cmp.{nat_cmp_total}
use Rattle.std.specs.FinMap.{empty, get-empty, insert, nat_cmp-IsAntisymmetric}
use Rattle.std.specs.List.{filter}
use Rattle.ztree.proofs.Maps.{get-insert-here}
use Rattle.zconnections.specs.Sweeping.{is_gone}
use Rattle.zconnections.proofs.Worked.{keys-here}
use Rattle.zconnections.proofs.rows.who_is_gone.Goals as goal

pub returns : goal.returns
returns c =
    record {
      none_there = ap (filter (is_gone empty)) keys-here ∙ rw (get-empty nat_cmp 7) refl;
      there = λ s. ap (filter (is_gone (insert empty 7 s))) keys-here ∙ rw (get-insert-here nat_cmp_total nat_cmp-IsAntisymmetric empty 7 s) refl;
    }
