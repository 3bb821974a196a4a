use Rattle.std.proofs.Common.{◌≡◌, Result, Ok, Err, IfOk, refl, arith}
use Rattle.ztree.specs.Tree.{Tree}
use Rattle.zstore.specs.StoreView.{StoreView}
use Rattle.zcalls.specs.declared.refusal.Refusal.{Refusal}
use Rattle.zcalls.specs.declared.reply.PartReply.{PartReply}
use Rattle.zcalls.specs.Part.{check_step}
use Rattle.zops.specs.declared.stop.Stop.{Stop}
use Rattle.zops.specs.support.Stops.{IsDone}
use Rattle.zops.proofs.Marks.{mark_stays}
use Rattle.zops.proofs.part.part.Goals as goal

-- what is only looked at is as it was
looked_at : (r : Result PartReply Stop) (step : Result (Tree × PartReply) Refusal) (store : StoreView) → IfOk r (λ reply. step ≡ Ok (store.tree, reply)) → IfOk r (IsDone step store store)
looked_at (Ok reply) step store is = record { step_is = is; given = omega arith; mark = mark_stays store store refl }
looked_at (Err stop) step store is = tt

pub returns-in-Check-clause-done : goal.returns-in-Check-clause-done
returns-in-Check-clause-done c = rw c.in-Check.is (looked_at c.check.result (check_step c.args.store.now.tree c.in-Check.wanted) c.args.store.now c.check.ensures.done)
