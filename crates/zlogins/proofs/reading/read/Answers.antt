use Rattle.std.proofs.Common.{◌+◌, ◌-◌, length, drop, take, Ok, arith, sym, ap, ◌∙◌}
use Rattle.std.proofs.lemmas.List.{length-take, length-drop}
use Rattle.std.proofs.lemmas.Result.{err_from_is_err_and}
use Rattle.zlogins.specs.Reading.{before}
use Rattle.zlogins.proofs.Lines.{first_logins, last_logins, last_added, line_added, line_failed, rest_of-drop}
use Rattle.zlogins.proofs.reading.read.Goals as goal

pub returns-in_err-add_line-clause-fault : goal.returns-in_err-add_line-clause-fault
returns-in_err-add_line-clause-fault c =
    let p = err_from_is_err_and c.from_residual.result c.from_residual.ensures.1 in
    let old = c.lines.logins.items in
    let first = first_logins c.lines.number c.lines.rest.now c.in-Some.end (λ j below. c.in-Some.ensures.0.before j (omega arith) below)
    c.in-Some.ensures.0.high c.in-Some.ensures.1 in
    rw (p.1, p.2) (line_failed _ old _ _ _ c.in_err-add_line.ensures.fault (ap (before (Ok old)) (sym first) ∙ c.lines.invariant.all))

pub lines-preserved : goal.lines-preserved
lines-preserved c =
    let old = c.lines.logins.items in
    let rest = c.lines.rest.now in
    let end = c.in-Some.end in
    let first = first_logins c.lines.number rest end (λ j below. c.in-Some.ensures.0.before j (omega arith) below)
    c.in-Some.ensures.0.high c.in-Some.ensures.1 in
    record {
      all = rw (rest_of-drop rest end) (line_added c.lines.number (take end rest) old c.add_line.new.logins.items _ _
          c.in_ok-add_line.ensures.added (ap (before (Ok old)) (sym first) ∙ c.lines.invariant.all));
      counted = omega (
        arith,
        length-take (length rest - (end + 1)) (drop (end + 1) rest),
        length-drop (end + 1) rest,
        c.in-Some.ensures.0.high,
        c.lines.invariant.counted,
      );
    }

pub returns-in_err-add_line-2-clause-fault : goal.returns-in_err-add_line-2-clause-fault
returns-in_err-add_line-2-clause-fault c =
    let p = err_from_is_err_and c.from_residual-in_err-add_line-2.result c.from_residual-in_err-add_line-2.ensures.1 in
    let old = c.lines.logins.items in
    rw (p.1, p.2) (line_failed _ old _ _ _ c.in_err-add_line-2.ensures.fault
    (ap (before (Ok old)) (sym (last_logins c.lines.number c.lines.rest.now (λ j below. c.in_default.ensures j (omega arith) below))) ∙ c.lines.invariant.all))

pub returns-clause-found : goal.returns-clause-found
returns-clause-found c =
    let old = c.lines.logins.items in
    last_added c.lines.number c.lines.rest.now old c.add_line-2.new.logins.items _ c.in_ok-add_line-2.ensures.added
    (ap (before (Ok old)) (sym (last_logins c.lines.number c.lines.rest.now (λ j below. c.in_default.ensures j (omega arith) below))) ∙ c.lines.invariant.all)
