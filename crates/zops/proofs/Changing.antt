-- A change of one node as an update: when it can be made, and what it comes to.
use Rattle.std.proofs.Common.{◌≡◌, ℕ, ◌+◌, ◌-◌, ◌*◌, ◌^◌, ◌<◌, ◌≤◌, false, if◌then◌else◌, Result, Ok, Err, IfOk, IfErr, OnErr, refl, sym, ap, subst, ◌∙◌, arith}
use Rattle.std.specs.Prelude.{nat_le}
use Rattle.std.proofs.lemmas.Bool.Decides.{nat_tests}
use Rattle.ztree.specs.Tree.{Tree}
use Rattle.zstore.specs.StoreView.{StoreView}
use Rattle.zcalls.specs.declared.limits.TheConstants.{MAX_RAISES}
use Rattle.zcalls.specs.declared.call.SetAcl.{SetAcl as ToSetAcl}
use Rattle.zcalls.specs.declared.call.Update.{Update}
use Rattle.zcalls.specs.declared.call.Update.TheVariants.{SetAcl}
use Rattle.zcalls.specs.declared.change.Change.{Change}
use Rattle.zcalls.specs.declared.change.Change.TheVariants.{Create, Delete, SetData}
use Rattle.zcalls.specs.declared.change.ChangeReply.{ChangeReply}
use Rattle.zcalls.specs.declared.refusal.Refusal.{Refusal}
use Rattle.zcalls.specs.declared.refusal.Refusal.TheVariants.{Exhausted}
use Rattle.zcalls.specs.declared.reply.Reply.TheVariants.{Refused}
use Rattle.zcalls.specs.Change.{update_of}
use Rattle.zcalls.specs.Part.{change_step, acl_step}
use Rattle.zcalls.specs.Step.{step, update_result, change_result, is_exhausted}
use Rattle.zcalls.specs.support.Alone.{ChangesNodesAlone}
use Rattle.zcalls.proofs.Bounds.{IsWithinAll, has_room, change_roomy, acl_roomy}
use Rattle.zcalls.proofs.Leaving.{Leaves}
use Rattle.zcalls.proofs.NodesAlone.{change-alone, acl-alone}
use Rattle.zops.specs.declared.stop.Stop.{Stop}
use Rattle.zops.specs.support.Ready.{IsSteady, IsReadyForPart}
use Rattle.zops.specs.support.Stops.{IsDone, IsStop}
use Rattle.zops.specs.support.Steps.{Gives}

-- the outcome of a change of one node
abbrev pub Outcome : Type 0
Outcome = Result (Tree × ChangeReply) Refusal

-- an update is a change of one node with this outcome, which raises each node at most once
pub record IsOfNode (t : Tree) (client : ℕ) (update : Update) (outcome : Outcome) : Type 0 where
  pub is : update_result t client update ≡ change_result t outcome
  pub exhausted : is_exhausted t update ≡ nat_le (2 ^ 40 - 1) t.zxid
  pub alone : Leaves (ChangesNodesAlone t) outcome
  pub roomy : (k : ℕ) → IsWithinAll k t → Leaves (IsWithinAll (k + 1)) outcome

change_of_node : (t : Tree) (client : ℕ) (change : Change) → IsOfNode t client (update_of change) (change_step t client change)
change_of_node t client (Create create) = record { is = refl; exhausted = refl; alone = change-alone t client (Create create); roomy = λ k. change_roomy k t client (Create create) }
change_of_node t client (Delete delete) = record { is = refl; exhausted = refl; alone = change-alone t client (Delete delete); roomy = λ k. change_roomy k t client (Delete delete) }
change_of_node t client (SetData set) = record { is = refl; exhausted = refl; alone = change-alone t client (SetData set); roomy = λ k. change_roomy k t client (SetData set) }

pub of_change : (t : Tree) (client : ℕ) (update : Update) (change : Change) → update ≡ update_of change → IsOfNode t client update (change_step t client change)
of_change t client update change is = subst (λ u. IsOfNode t client u (change_step t client change)) (sym is) (change_of_node t client change)

pub of_acl : (t : Tree) (client : ℕ) (update : Update) (set : ToSetAcl) → update ≡ SetAcl set → IsOfNode t client update (acl_step t set)
of_acl t client update set is =
    subst (λ u. IsOfNode t client u (acl_step t set)) (sym is)
    (record { is = refl; exhausted = refl; alone = acl-alone t set; roomy = λ k. acl_roomy k t set })

-- such an update led from one store to another as its outcome says, and gave at most one Id
pub record Changed (old new : StoreView) (client : ℕ) (update : Update) (did : Result ChangeReply Stop) : Type 0 where
  pub outcome : Outcome
  pub of_node : IsOfNode old.tree client update outcome
  pub done : IfOk did (Gives outcome new)
  pub given : new.given ≤ old.given + 1
  pub stopped : IfErr did (IsStop outcome)
  pub same : OnErr did (new ≡ old)

gives : (old new : StoreView) (outcome : Outcome) (did : Result ChangeReply Stop) → IfOk did (IsDone outcome old new) → IfOk did (Gives outcome new)
gives old new outcome (Ok reply) done = done.step_is
gives old new outcome (Err stop) done = tt

few_given : (old new : StoreView) (outcome : Outcome) (did : Result ChangeReply Stop) → IfOk did (IsDone outcome old new) → OnErr did (new ≡ old) → new.given ≤ old.given + 1
few_given old new outcome (Ok reply) done same = done.given
few_given old new outcome (Err stop) done same = rw same (omega arith)

-- as its branch of a match has it: a write of an access control list, and a change
pub acl_changed : (old new late : StoreView) (client : ℕ) (update : Update) (did reported : Result ChangeReply Stop) (outcome : Outcome)
    → IsOfNode old.tree client update outcome → late ≡ new → reported ≡ did
    → IfOk did (Gives outcome new) → new.given ≤ old.given + 1 → IfErr did (IsStop outcome) → OnErr did (new ≡ old)
    → Changed old late client update reported
acl_changed old new late client update did reported outcome of_node store_is did_is done given stopped same = record {
  outcome = outcome;
  of_node = of_node;
  done = rw (store_is, did_is) done;
  given = rw store_is given;
  stopped = rw did_is stopped;
  same = rw (store_is, did_is) same;
}

pub one_of : (old new late : StoreView) (client : ℕ) (update : Update) (did reported : Result ChangeReply Stop) (outcome : Outcome)
    → IsOfNode old.tree client update outcome → late ≡ new → reported ≡ did
    → IfOk did (IsDone outcome old new) → IfErr did (IsStop outcome) → OnErr did (new ≡ old)
    → Changed old late client update reported
one_of old new late client update did reported outcome of_node store_is did_is done stopped same =
    acl_changed old new late client update did reported outcome of_node store_is did_is
    (gives old new outcome did done) (few_given old new outcome did done same) stopped same

below_last : (zxid : ℕ) → nat_le (2 ^ 40 - 1) zxid ≡ false → zxid + 1 < 2 ^ 40
below_last zxid e = grind (arith, nat_tests, e)

-- there is a number for a change where none are exhausted
pub has_next : (t : Tree) (client : ℕ) (update : Update) (outcome : Outcome) → IsOfNode t client update outcome → is_exhausted t update ≡ false → t.zxid + 1 < 2 ^ 40
has_next t client update outcome of_node left = below_last t.zxid (sym of_node.exhausted ∙ left)

-- and so it can be made
pub ready : (store : StoreView) (client : ℕ) (update : Update) (outcome : Outcome) → IsSteady store → IsOfNode store.tree client update outcome → is_exhausted store.tree update ≡ false → IsReadyForPart store
ready store client update outcome steady of_node left =
    let few : MAX_RAISES * store.tree.zxid + 1 < 2 ^ 62 = omega (arith, steady.bounded.zxid) in
    record {
      counters = λ path n e. has_room (MAX_RAISES * store.tree.zxid) n few (steady.bounded.counters path n e);
      zxid = has_next store.tree client update outcome of_node left;
      given = let room = steady.given in omega (arith, room);
    }

-- the plain step of it
pub step-change : (t : Tree) (client : ℕ) (update : Update) (outcome : Outcome) → IsOfNode t client update outcome → is_exhausted t update ≡ false → step t client update ≡ change_result t outcome
unfolding step
step-change t client update outcome of_node left =
    ap (λ b. if b then (t, Refused Exhausted) else update_result t client update) left ∙ of_node.is
