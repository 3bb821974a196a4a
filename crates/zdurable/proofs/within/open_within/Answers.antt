use Rattle.std.proofs.Common.{refl, sym, subst, Bool}
use Rattle.zjournal.specs.Journal.{IsAtRest, Represents, device_of}
use Rattle.zdurable.specs.support.Opening.{AreNext}
use Rattle.zdurable.proofs.Opening.{if_err, if_ok, opened_leaves, renewed_leaves, rest_of}
use Rattle.zdurable.proofs.within.open_within.Goals as goal

pub returns-then-is_other-clause-journal : goal.returns-then-is_other-clause-journal
returns-then-is_other-clause-journal g c =
    let opened = c.in-Ok.ensures.journal in
    let same = c.number.ensures.same in
    if_ok c.renewed.result _ _
    (λ new next. (
      opened.0,
      next.0,
      subst (λ n. Represents n opened.0 (g.D.Device.seen c.args.device)) same opened.1,
      subst (λ n. IsAtRest g.D.Device.seen g.D.Device.may_leave n next.0 new) same next.1,
      subst (λ (b : Bool). AreNext b c.args.tree.now.tree opened.0 next.0) (sym c.if-is_other.true) (next.2, next.3),
    ))
    (c.renewed.ensures.kept c.number.result opened.0 opened.3 opened.2)

pub returns-then-is_other-clause-any_moment : goal.returns-then-is_other-clause-any_moment
returns-then-is_other-clause-any_moment g c batches stands =
    let opened = c.in-Ok.ensures.journal in
    let same = c.number.ensures.same in
    let own : Represents c.number.result batches (g.D.Device.seen c.args.device) =
    subst (λ n. Represents n batches (g.D.Device.seen c.args.device)) (sym same) stands in
    if_ok c.renewed.result _ _
    (λ new more. renewed_leaves g.D.Device.moment g.D.Device.left_since c.args.device (device_of c.in-Ok.journal) c.args.servers c.number.result
    same batches c.args.tree.now.tree c.args.is_other (c.in-Ok.ensures.any_moment batches own) (device_of new) c.if-is_other.true more)
    (c.renewed.ensures.any_moment c.number.result batches
    (rest_of g.D.Device.seen g.D.Device.may_leave c.number.result (g.D.Device.seen c.args.device) c.in-Ok.journal opened.0 batches opened.1 own
    opened.2))

pub returns-then-is_other-clause-any_moment_err : goal.returns-then-is_other-clause-any_moment_err
returns-then-is_other-clause-any_moment_err g c batches stands =
    let opened = c.in-Ok.ensures.journal in
    let same = c.number.ensures.same in
    let own : Represents c.number.result batches (g.D.Device.seen c.args.device) =
    subst (λ n. Represents n batches (g.D.Device.seen c.args.device)) (sym same) stands in
    if_err c.renewed.result _ _
    (λ e more. renewed_leaves g.D.Device.moment g.D.Device.left_since c.args.device (device_of c.in-Ok.journal) c.args.servers c.number.result
    same batches c.args.tree.now.tree c.args.is_other (c.in-Ok.ensures.any_moment batches own) e.1 c.if-is_other.true more)
    (c.renewed.ensures.any_moment_err c.number.result batches
    (rest_of g.D.Device.seen g.D.Device.may_leave c.number.result (g.D.Device.seen c.args.device) c.in-Ok.journal opened.0 batches opened.1 own
    opened.2))

pub returns-in-Ok-clause-journal : goal.returns-in-Ok-clause-journal
returns-in-Ok-clause-journal g c =
    let opened = c.in-Ok.ensures.journal in
    let same = c.number.ensures.same in (
      opened.0,
      opened.0,
      subst (λ n. Represents n opened.0 (g.D.Device.seen c.args.device)) same opened.1,
      subst (λ n. IsAtRest g.D.Device.seen g.D.Device.may_leave n opened.0 c.in-Ok.journal) same opened.2,
      subst (λ (b : Bool). AreNext b c.args.tree.now.tree opened.0 opened.0) (sym c.if-is_other.false) refl,
    )

pub returns-in-Ok-clause-any_moment : goal.returns-in-Ok-clause-any_moment
returns-in-Ok-clause-any_moment g c batches stands =
    let same = c.number.ensures.same in
    opened_leaves g.D.Device.moment g.D.Device.left_since c.args.device (device_of c.in-Ok.journal) c.args.servers c.number.result
    same batches c.args.tree.now.tree c.args.is_other
    (c.in-Ok.ensures.any_moment batches (subst (λ n. Represents n batches (g.D.Device.seen c.args.device)) (sym same) stands))

pub returns-clause-any_moment_err : goal.returns-clause-any_moment_err
returns-clause-any_moment_err g c batches stands =
    let same = c.number.ensures.same in
    opened_leaves g.D.Device.moment g.D.Device.left_since c.args.device c.in-Err.device c.args.servers c.number.result
    same batches c.args.tree.now.tree c.args.is_other
    (c.in-Err.ensures.any_moment_err batches (subst (λ n. Represents n batches (g.D.Device.seen c.args.device)) (sym same) stands))
