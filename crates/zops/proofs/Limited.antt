-- A machine whose tree gets other limits: its invariant, and what calls leave after that.
use Rattle.std.proofs.Common.{◌≡◌, ℕ, Bool, List, [], ◌∷◌, Ok, Err, Result, refl, sym, subst, ◌∙◌, arith}
use Rattle.std.specs.Prelude.{OnOk, OnErr}
use Rattle.ztree.specs.declared.limits.TreeLimits.{TreeLimits}
use Rattle.ztree.specs.Tree.{Tree}
use Rattle.zstore.specs.StoreView.{StoreView, KeepsIds}
use Rattle.zstore.specs.declared.limit_fault.LimitFault.{LimitFault}
use Rattle.zstore.specs.Restored.{with_limits, FitsWithin}
use Rattle.zstore.proofs.parts.Fitting.{lawful_within}
use Rattle.zcalls.specs.declared.call.Update.{Update}
use Rattle.zcalls.specs.Bounds.{IsBounded}
use Rattle.zcalls.specs.CallRuns.{after_calls}
use Rattle.zcalls.specs.Step.{step}
use Rattle.zcalls.proofs.LawfulParts.{IsGood}
use Rattle.zcalls.proofs.LawfulCalls.{step-good}
use Rattle.zcalls.proofs.LimitsStay.{limits_stay}
use Rattle.zops.specs.LimitsLaws.{CallsStayWithin}
use Rattle.zops.specs.Restored.{AllDated}
use Rattle.zops.specs.support.Ready.{IsSound}

limited-bounded : (t : Tree) (limits : TreeLimits) → IsBounded t → FitsWithin t limits → IsBounded (with_limits t limits)
limited-bounded t limits bounded fits = record {
  zxid = bounded.zxid;
  time = bounded.time;
  counters = bounded.counters;
  sessions = λ id s e.
      let here = bounded.sessions id s e in
      record { before = here.before; least = here.least; most = fits.timeouts id s e };
}

-- limits set, or refused
pub limited-sound : (old new : StoreView) (applied : ℕ) (is_broken : Bool) (limits : TreeLimits)
    (result : Result (Unit {0}) LimitFault) → IsSound old applied is_broken →
    OnOk result (new.tree ≡ with_limits old.tree limits) → OnOk result (KeepsIds old new) →
    OnOk result (FitsWithin old.tree limits) → OnErr result (new ≡ old) → IsSound new applied is_broken
limited-sound old new applied is_broken limits (Ok u) before tree same fits err =
    let given = same.1 in
    let few = before.given_few in
    record {
      bounded = subst IsBounded (sym tree) (limited-bounded old.tree limits before.bounded fits);
      applied_few = before.applied_few;
      given_few = omega (arith, given, few);
      dated = λ whole. subst AllDated (sym tree) (before.dated whole);
    }
limited-sound old new applied is_broken limits (Err fault) before tree same fits err =
    subst (λ (s : StoreView). IsSound s applied is_broken) (sym err) before

-- a good tree fits within its own limits
good-fits : (u : Tree) (limits : TreeLimits) → IsGood u → u.limits ≡ limits → FitsWithin u limits
good-fits u limits good is = subst (FitsWithin u) is (record {
  allowed = good.0.allowed;
  nodes = good.0.few_nodes;
  sessions = good.0.few_sessions;
  timeouts = λ id s e. (good.1 id s e).most;
})

still_fits : (calls : List (ℕ × Update)) (u : Tree) (limits : TreeLimits) → IsGood u → u.limits ≡ limits → FitsWithin (after_calls u calls) limits
still_fits [] u limits good is = good-fits u limits good is
still_fits (call ∷ calls) u limits good is =
    still_fits calls (step u call.0 call.1).0 limits (step-good u call.0 call.1 good)
    (limits_stay u call.0 call.1 ∙ is)

pub calls_stay_within : CallsStayWithin
calls_stay_within t limits calls lawful bounded fits =
    still_fits calls (with_limits t limits) limits
    (lawful_within t limits lawful fits, (limited-bounded t limits bounded fits).sessions) refl
