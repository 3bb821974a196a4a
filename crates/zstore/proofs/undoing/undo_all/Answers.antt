use Rattle.std.proofs.Common.{ap, sym, subst, ◌∙◌, arith}
use Rattle.zstore.specs.support.Undoing.{Owners, parts_of, all_undone, FitAll, all_returning}
use Rattle.zstore.proofs.parts.Undone.{all_undone-push, fit_all_last, all_returning-push}
use Rattle.zstore.proofs.undoing.undo_all.Goals as goal

pub undo_one-requires : goal.undo_one-requires
undo_one-requires c =
    let v = c.loop-undo.nodes in
    let fit =
    subst (λ us. FitAll v.owners us (parts_of v)) c.in-Some.ensures.items
    c.loop-undo.invariant.fit in
    let room = c.loop-undo.invariant.room in
    let count = ap all_returning c.in-Some.ensures.items
    ∙ all_returning-push c.pop.new.self.items c.in-Some.undo in
    record {
      fits = (fit_all_last v.owners c.pop.new.self.items c.in-Some.undo (parts_of v) fit).0;
      room = omega (arith, room, count);
    }

pub loop-undo-preserved : goal.loop-undo-preserved
loop-undo-preserved c =
    let v = c.loop-undo.nodes in
    let w = c.undo_one.new.nodes in
    let left = c.pop.new.self.items in
    let fit =
    subst (λ us. FitAll v.owners us (parts_of v)) c.in-Some.ensures.items
    c.loop-undo.invariant.fit in
    let last = fit_all_last v.owners left c.in-Some.undo (parts_of v) fit in
    let room = c.loop-undo.invariant.room in
    let count = ap all_returning c.in-Some.ensures.items ∙ all_returning-push left c.in-Some.undo in
    let parts = c.undo_one.ensures.parts in
    let owners = c.undo_one.ensures.owners in
    let after = c.undo_one.ensures.room in
    record {
      parts = ap (all_undone left) parts
          ∙ sym (all_undone-push left c.in-Some.undo (parts_of v))
          ∙ ap (λ us. all_undone us (parts_of v)) (sym c.in-Some.ensures.items)
          ∙ c.loop-undo.invariant.parts;
      fit = subst (λ (o : Owners). FitAll o left (parts_of w)) (sym owners)
          (subst (FitAll v.owners left) (sym parts) last.1);
      room = omega (arith, room, count, after);
      owners = owners ∙ c.loop-undo.invariant.owners;
      given = c.undo_one.ensures.given ∙ c.loop-undo.invariant.given;
    }
