use Rattle.std.proofs.Common.{◌≡◌, IfOk, IfErr, OnErr, subst, sym, ap, ◌∙◌, arith}
use Rattle.zstore.specs.StoreView.{StoreView}
use Rattle.zcalls.specs.declared.change.Change.TheVariants.{Create, Delete, SetData}
use Rattle.zcalls.specs.declared.reply.Reply.TheVariants.{Refused}
use Rattle.zcalls.specs.Part.{change_step, acl_step}
use Rattle.zcalls.specs.Step.{change_result}
use Rattle.zcalls.specs.Bounds.{IsBounded}
use Rattle.zcalls.specs.support.Alone.{ChangesNodesAlone}
use Rattle.zcalls.proofs.Bounds.{IsWithinAll, raised_bounded}
use Rattle.zcalls.proofs.Leaving.{Leaves}
use Rattle.zops.specs.support.Ready.{StaysBounded}
use Rattle.zops.specs.support.Stops.{IsStop}
use Rattle.zops.specs.support.Steps.{Gives}
use Rattle.zops.proofs.Changing.{Changed, of_change, of_acl, one_of, acl_changed, has_next, ready, step-change}
use Rattle.zops.proofs.update.update.Goals.{in-Create, in-Delete, in-SetData, in-SetAcl, Joined-update}
use Rattle.zops.proofs.update.update.Goals as goal

pub create-did-requires : goal.create-did-requires
create-did-requires c =
    let change = Create c.in-Create.wanted in
    record { ready = ready c.args.store.now c.args.client c.args.update.now (change_step c.args.store.now.tree c.args.client change) c.requires (of_change c.args.store.now.tree c.args.client c.args.update.now change c.in-Create.is) (sym c.is_exhausted.ensures ∙ c.if-is_exhausted.false) }

pub delete-did-requires : goal.delete-did-requires
delete-did-requires c =
    let change = Delete c.in-Delete.wanted in
    record { ready = ready c.args.store.now c.args.client c.args.update.now (change_step c.args.store.now.tree c.args.client change) c.requires (of_change c.args.store.now.tree c.args.client c.args.update.now change c.in-Delete.is) (sym c.is_exhausted.ensures ∙ c.if-is_exhausted.false) }

pub set-did-requires : goal.set-did-requires
set-did-requires c =
    let change = SetData c.in-SetData.wanted in
    record { ready = ready c.args.store.now c.args.client c.args.update.now (change_step c.args.store.now.tree c.args.client change) c.requires (of_change c.args.store.now.tree c.args.client c.args.update.now change c.in-SetData.is) (sym c.is_exhausted.ensures ∙ c.if-is_exhausted.false) }

pub set_acl-did-requires : goal.set_acl-did-requires
set_acl-did-requires c =
    record { ready = ready c.args.store.now c.args.client c.args.update.now (acl_step c.args.store.now.tree c.in-SetAcl.wanted) c.requires (of_acl c.args.store.now.tree c.args.client c.args.update.now c.in-SetAcl.wanted c.in-SetAcl.is) (sym c.is_exhausted.ensures ∙ c.if-is_exhausted.false) }

-- what was done, where the branches meet
changed : (c : Joined-update) → Changed c.args.store.now c.match-update.store c.args.client c.args.update.now c.match-update.did
changed c = elim c.match-update.branch [
  | in-Create w ↦ let did = w.create-did.ensures in
      one_of c.args.store.now w.create-did.new.store c.match-update.store c.args.client c.args.update.now w.create-did.result c.match-update.did _ (of_change c.args.store.now.tree c.args.client c.args.update.now (Create w.in-Create.wanted) w.in-Create.is) w.store-is w.did-is did.done did.stopped did.same
  | in-Delete w ↦ let did = w.delete-did.ensures in
      one_of c.args.store.now w.delete-did.new.store c.match-update.store c.args.client c.args.update.now w.delete-did.result c.match-update.did _ (of_change c.args.store.now.tree c.args.client c.args.update.now (Delete w.in-Delete.wanted) w.in-Delete.is) w.store-is w.did-is did.done did.stopped did.same
  | in-SetData w ↦ let did = w.set-did.ensures in
      one_of c.args.store.now w.set-did.new.store c.match-update.store c.args.client c.args.update.now w.set-did.result c.match-update.did _ (of_change c.args.store.now.tree c.args.client c.args.update.now (SetData w.in-SetData.wanted) w.in-SetData.is) w.store-is w.did-is did.done did.stopped did.same
  | in-SetAcl w ↦ let did = w.set_acl-did.ensures in
      acl_changed c.args.store.now w.set_acl-did.new.store c.match-update.store c.args.client c.args.update.now w.set_acl-did.result c.match-update.did _ (of_acl c.args.store.now.tree c.args.client c.args.update.now w.in-SetAcl.wanted w.in-SetAcl.is) w.store-is w.did-is did.done (let same = did.given in omega (arith, same)) did.stopped did.same
]

pub raise-requires : goal.raise-requires
raise-requires c =
    let t = c.args.store.now.tree in
    let it = changed (goal.at.raise-requires c).Joined-update in
    let done = subst (λ r. IfOk r (Gives it.outcome c.match-update.store)) c.in-Ok.is it.done in
    let alone = subst (Leaves (ChangesNodesAlone t)) done it.of_node.alone in
    rw alone.zxid (has_next t c.args.client c.args.update.now it.outcome it.of_node (sym c.is_exhausted.ensures ∙ c.if-is_exhausted.false))

pub returns-in-Ok-clause-done : goal.returns-in-Ok-clause-done
returns-in-Ok-clause-done c =
    let t = c.args.store.now.tree in
    let it = changed (goal.at.returns-in-Ok-clause-done c).Joined-update in
    let done = subst (λ r. IfOk r (Gives it.outcome c.match-update.store)) c.in-Ok.is it.done in
    sym (step-change t c.args.client c.args.update.now it.outcome it.of_node (sym c.is_exhausted.ensures ∙ c.if-is_exhausted.false)
    ∙ ap (change_result t) done
    ∙ (λ i. (sym c.raise.ensures.tree i, sym c.from.ensures i)))

pub returns-in-Ok-clause-left : goal.returns-in-Ok-clause-left
returns-in-Ok-clause-left c =
    let t = c.args.store.now.tree in
    let it = changed (goal.at.returns-in-Ok-clause-left c).Joined-update in
    let done = subst (λ r. IfOk r (Gives it.outcome c.match-update.store)) c.in-Ok.is it.done in
    let roomy = subst (Leaves (IsWithinAll _)) done (it.of_node.roomy _ c.requires.bounded.counters) in
    let alone = subst (Leaves (ChangesNodesAlone t)) done it.of_node.alone in
    let next = has_next t c.args.client c.args.update.now it.outcome it.of_node (sym c.is_exhausted.ensures ∙ c.if-is_exhausted.false) in
    record {
      bounded = subst IsBounded (sym c.raise.ensures.tree) (raised_bounded t _ _ c.requires.bounded next (omega arith) alone roomy);
      given = let same = c.raise.ensures.same.1 in let more = it.given in omega (arith, same, more);
    }

pub returns-in-Err-Refused-clause-done : goal.returns-in-Err-Refused-clause-done
returns-in-Err-Refused-clause-done c =
    let t = c.args.store.now.tree in
    let it = changed (goal.at.returns-in-Err-Refused-clause-done c).Joined-update in
    let same = subst (λ r. OnErr r (c.match-update.store ≡ c.args.store.now)) c.in-Err-Refused.is it.same in
    let refused = rw c.in-Err-Refused.is at c.in-Err-Refused.field-0-is in
    let stopped = subst (IsStop it.outcome) refused (subst (λ r. IfErr r (IsStop it.outcome)) c.in-Err-Refused.is it.stopped) in
    (λ i. ((same i).tree, Refused c.in-Err-Refused.refusal))
    ∙ sym (step-change t c.args.client c.args.update.now it.outcome it.of_node (sym c.is_exhausted.ensures ∙ c.if-is_exhausted.false) ∙ ap (change_result t) stopped)

-- nothing was done
unchanged : (old new : StoreView) → new ≡ old → IsBounded old.tree → StaysBounded old new
unchanged old new same bounded = rw same (record { bounded = bounded; given = omega arith })

pub returns-in-Err-Refused-clause-left : goal.returns-in-Err-Refused-clause-left
returns-in-Err-Refused-clause-left c =
    let it = changed (goal.at.returns-in-Err-Refused-clause-left c).Joined-update in
    unchanged c.args.store.now c.match-update.store (subst (λ r. OnErr r (c.match-update.store ≡ c.args.store.now)) c.in-Err-Refused.is it.same) c.requires.bounded

pub returns-in-Err-Memory-clause-left : goal.returns-in-Err-Memory-clause-left
returns-in-Err-Memory-clause-left c =
    let it = changed (goal.at.returns-in-Err-Memory-clause-left c).Joined-update in
    unchanged c.args.store.now c.match-update.store (subst (λ r. OnErr r (c.match-update.store ≡ c.args.store.now)) c.in-Err-Memory.is it.same) c.requires.bounded

pub returns-in-Err-Memory-clause-err : goal.returns-in-Err-Memory-clause-err
returns-in-Err-Memory-clause-err c =
    let it = changed (goal.at.returns-in-Err-Memory-clause-err c).Joined-update in
    let same = subst (λ r. OnErr r (c.match-update.store ≡ c.args.store.now)) c.in-Err-Memory.is it.same in
    (ap (λ (s : StoreView). s.tree) same, ap (λ (s : StoreView). s.places) same)
