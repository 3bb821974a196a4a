use Rattle.std.proofs.Common.{◌≤◌, [], ◌∷◌, ◌++◌, inl, inr, refl, sym, ◌∙◌, arith}
use Rattle.zcalls.specs.declared.call.Call.TheVariants as call
use Rattle.zcalls.specs.declared.call.Update.TheVariants.{Ping, Tick}
use Rattle.zcluster_laws.specs.support.ClusterRows.{reaction}
use Rattle.zcluster_laws.proofs.Worked.{at_first, updates_differ}
use Rattle.zcluster_laws.proofs.rows.logs_that_explain_nothing.Goals as goal

pub returns-clause-two_logs : goal.returns-clause-two_logs
returns-clause-two_logs c t h log fronts r s x =
    let one = x.served (reaction ((call.Update Tick, r) ∷ []) 0 1) (inl refl) in
    let two = x.served (reaction ((call.Update (Ping 7), s) ∷ []) 0 1) (inr (inl refl)) in
    updates_differ one.after two.after
    (sym (at_first log (one.early ++ one.since) (Tick ∷ one.after) one.whole one.from)
    ∙ at_first log (two.early ++ two.since) (Ping 7 ∷ two.after) two.whole two.from)

pub returns-clause-stale : goal.returns-clause-stale
returns-clause-stale c t h log fronts q r s x =
    let late : 1 ≤ 0 = x.in_time (reaction ((call.Update Tick, r) ∷ []) 0 1) (reaction ((call.Query q, s) ∷ []) 0 0) (inl (refl, inl refl)) in omega (arith, late)
