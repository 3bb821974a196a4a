use Rattle.std.proofs.Common.{◌≡◌, ◌<◌, true, nat_lt, Some, sym, ap, subst, ◌∙◌, arith, rules}
use Rattle.std.proofs.lemmas.Bool.Decides.{nat_tests}
use Rattle.std.specs.FinMap.{get, insert}
use Rattle.zcalls.specs.Cached.{last_of, entry_step}
use Rattle.zops.specs.Restored.{IsOfUpdate}
use Rattle.zops.proofs.OfUpdate.{made-of_update}
use Rattle.zops.proofs.machine.enter.Goals as goal

pub keep-requires : goal.keep-requires
keep-requires c =
    subst IsOfUpdate (sym c.in-Ok.ensures)
    (made-of_update c.args.store.now.tree c.args.entry.now.client c.args.entry.now.update c.update.new.store.tree c.in_ok-reply.reply
    c.keeps_few_parts.ensures c.in_ok-reply.ensures.done)

pub returns-then-number-last-clause-done : goal.returns-then-number-last-clause-done
unfolding entry_step
returns-then-number-last-clause-done c = search rules

pub returns-clause-done : goal.returns-clause-done
unfolding entry_step
returns-clause-done c =
    let last = last_of (get c.args.kept.now c.args.entry.now.client) in
    let is_less : last < c.args.entry.now.number = omega (arith, c.last_number-last.ensures, c.number-number.ensures.same, c.if-number-last.false) in
    let is_above : nat_lt last c.args.entry.now.number ≡ true = grind (arith, nat_tests, is_less) in
    let kept = c.args.kept.now in
    let client = c.args.entry.now.client in
    let number = c.args.entry.now.number in
    let did = c.in_ok-reply.ensures.done in
    let keeps : c.keep.new.self ≡ insert kept client (record { number = number; reply = c.in_ok-reply.reply }) = c.keep.ensures ∙ ap (λ r. insert kept client (record { number = number; reply = r })) c.in-Ok.ensures in
    rw is_above
    (ap (λ k. (record { plain = c.update.new.store.tree; kept = k }, Some c.in_ok-reply.reply)) keeps
    ∙ (λ i. (record { plain = (did i).0; kept = insert kept client (record { number = number; reply = (did i).1 }) }, Some (did i).1)))
