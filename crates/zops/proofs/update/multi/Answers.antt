use Rattle.std.proofs.Common.{◌≡◌, ◌+◌, ◌*◌, false, true, Result, Ok, Err, IfOk, OnErr, length, subst, sym, ap, ◌∙◌, arith}
use Rattle.ztree.specs.Lawful.{AllNodes}
use Rattle.zcalls.specs.declared.reply.Reply.TheVariants.{MultiRefused}
use Rattle.zcalls.specs.declared.limits.TheConstants.{MAX_RAISES, MOST_PARTS}
use Rattle.zcalls.specs.Bounds.{IsBounded, IsWithin}
use Rattle.zcalls.specs.support.Alone.{ChangesNodesAlone}
use Rattle.ztree.specs.Tree.{Tree}
use Rattle.zcalls.specs.declared.reply.Reply.{Reply}
use Rattle.zops.specs.declared.stop.Halt.{Halt}
use Rattle.zops.specs.declared.stop.Halt.TheVariants.{Memory, Refused}
use Rattle.zops.specs.support.Stops.{IsHalt, IsHaltAnswered}
use Rattle.zcalls.specs.Multi.{Run, run}
use Rattle.zcalls.specs.Step.{multi_result}
use Rattle.zcalls.proofs.Bounds.{raised_bounded}
use Rattle.zops.proofs.Marks.{mark_after, mark_stands, back_at_mark}
use Rattle.zops.proofs.update.multi.Goals as goal

on_err : {A E : Type 0} (result : Result A E) (P : Type 0) → P → OnErr result P
on_err (Ok x) P p = tt
on_err (Err e) P p = p

-- a refusal that is answered is the run's, and the tree that of before
halted_is : {E : Type 0} (halt : Halt) (result : Result Reply E) (t u : Tree) (ran : Run) → u ≡ t → IsHalt ran halt → IsHaltAnswered halt result → IfOk result (λ reply. (u, reply) ≡ multi_result t ran)
halted_is Memory (Ok reply) t u ran same is answered = absurd (clash answered)
  where
    clash : false ≡ true → ⊥
    clash e = cc
halted_is Memory (Err memory) t u ran same is answered = tt
halted_is (Refused number refusal) result t u ran same is answered = rw answered ((λ i. (same i, MultiRefused number refusal)) ∙ sym (ap (multi_result t) is))

pub back-requires : goal.back-requires
back-requires c =
    let here = c.in_ok-mark.ensures.marked in
    let has = mark_after (length c.as_slice-parts.result.now) c.args.store.now c.mark.new.self c.run.new.store here (omega arith) c.run.ensures.mark in
    record { marked = mark_stands here.mark c.run.new.store has }

pub returns-in-Ok-clause-left : goal.returns-in-Ok-clause-left
returns-in-Ok-clause-left c =
    let t = c.args.store.now.tree in
    let here = c.in_ok-mark.ensures.marked in
    let stays = c.in-Ok.ensures.stays in
    record {
      bounded = subst IsBounded (sym c.raise.ensures.tree)
          (raised_bounded t c.run.new.store.tree (MAX_RAISES * t.zxid + MOST_PARTS) c.requires.steady.bounded c.requires.zxid (omega arith)
          (subst (λ t. ChangesNodesAlone t c.run.new.store.tree) here.tree stays.alone)
          (subst (λ t. AllNodes (IsWithin (MAX_RAISES * t.zxid + MOST_PARTS)) c.run.new.store.tree.nodes) here.tree stays.within));
      given = let same = c.raise.ensures.same.1 in let more = c.run.ensures.given in let before = here.same.1 in omega (arith, same, more, before);
    }

pub returns-in-Err-clause-done : goal.returns-in-Err-clause-done
returns-in-Err-clause-done c =
    let t = c.args.store.now.tree in
    let here = c.in_ok-mark.ensures.marked in
    let has = mark_after (length c.as_slice-parts.result.now) c.args.store.now c.mark.new.self c.run.new.store here (omega arith) c.run.ensures.mark in
    let back = back_at_mark c.args.store.now c.mark.new.self c.run.new.store c.back.new.self here has c.back.ensures.tree in
    let ran : run c.mark.new.self.tree c.args.client c.as_slice-parts.result.now ≡ run t c.args.client c.args.parts.now = λ i. run (here.tree i) c.args.client (c.as_slice-parts.ensures.parts i) in
    halted_is c.in-Err.halt c.halted.result t c.back.new.self.tree (run t c.args.client c.args.parts.now) back.0 (subst (λ (r : Run). IsHalt r c.in-Err.halt) ran c.in-Err.ensures.stopped) c.halted.ensures

pub returns-in-Err-clause-left : goal.returns-in-Err-clause-left
returns-in-Err-clause-left c =
    let here = c.in_ok-mark.ensures.marked in
    let has = mark_after (length c.as_slice-parts.result.now) c.args.store.now c.mark.new.self c.run.new.store here (omega arith) c.run.ensures.mark in
    let back = back_at_mark c.args.store.now c.mark.new.self c.run.new.store c.back.new.self here has c.back.ensures.tree in
    let same = c.back.ensures.given in
    let more = c.run.ensures.given in
    let before = here.same.1 in
    record { bounded = subst IsBounded (sym back.0) c.requires.steady.bounded; given = omega (arith, same, more, before) }

pub returns-in-Err-clause-err : goal.returns-in-Err-clause-err
returns-in-Err-clause-err c =
    let here = c.in_ok-mark.ensures.marked in
    let has = mark_after (length c.as_slice-parts.result.now) c.args.store.now c.mark.new.self c.run.new.store here (omega arith) c.run.ensures.mark in
    on_err c.halted.result _ (back_at_mark c.args.store.now c.mark.new.self c.run.new.store c.back.new.self here has c.back.ensures.tree)
