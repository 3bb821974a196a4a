use Rattle.std.proofs.Common.{arith, ◌∙◌}
use Rattle.std.specs.Cmp.{nat_cmp_total}
use Rattle.std.specs.FinMap as finite
use Rattle.std.specs.FinMap.{nat_cmp-IsAntisymmetric}
use Rattle.ztree.proofs.Maps.{get-insert-here, get-insert-elsewhere}
use Rattle.zcalls.specs.declared.reply.Reply.TheVariants.{Deleted, Pinged}
use Rattle.zops.specs.Machine.{opening_machine}
use Rattle.zops.specs.Restored.{with_reply}
use Rattle.zops.proofs.rows.rows_make_a_machine.Goals as goal

pub returns-clause-reply : goal.returns-clause-reply
returns-clause-reply c =
    get-insert-here nat_cmp_total nat_cmp-IsAntisymmetric finite.empty 3
    (record { number = 5; reply = Deleted })

pub returns-clause-other : goal.returns-clause-other
returns-clause-other c =
    get-insert-elsewhere nat_cmp_total nat_cmp-IsAntisymmetric
    (with_reply opening_machine 3 5 Deleted).service.kept 4 (record { number = 1; reply = Pinged }) 3
    (λ e. absurd (omega (arith, e)))
    ∙ get-insert-here nat_cmp_total nat_cmp-IsAntisymmetric finite.empty 3
    (record { number = 5; reply = Deleted })
