use Rattle.std.proofs.Common.{ℕ, ◌∷◌, ◌++◌, ◌∙◌, ap, drop, sym, subst}
use Rattle.zjournal.specs.Checksum.{IsSum}
use Rattle.zjournal.specs.Faults.{IsSuch}
use Rattle.zjournal.specs.Journal.{head}
use Rattle.std.proofs.lemmas.Result.{err_from_is_err_and}
use Rattle.zjournal.proofs.Heads.{keeps_to, other_is_such}
use Rattle.zjournal.proofs.reading.look.Goals as goal

pub returns-in_err-text-clause-err : goal.returns-in_err-text-clause-err
returns-in_err-text-clause-err c =
    let starts = sym c.first.ensures.start in
    let headed = c.in_ok-start.ensures.ok.1 ∙ ap (λ (n : ℕ). 1 ∷ (head n c.args.servers ++ 0 ∷ drop 34 c.args.bytes.now)) starts in
    let p = err_from_is_err_and c.from_residual-in_err-text.result c.from_residual-in_err-text.ensures.1 in
    rw p.1 (subst (IsSuch c.args.servers c.args.bytes.now) (sym p.2) (other_is_such c.args.servers c.args.bytes.now c.first.result
    c.requires c.first.ensures.end (c.first.ensures.sum ∙ starts) (subst IsSum starts c.in_ok-start.ensures.ok.0) headed
    c.in_err-text.field-0.0 c.in_err-text.ensures.err))

pub returns-clause-ok : goal.returns-clause-ok
returns-clause-ok c =
    let starts = sym c.first.ensures.start in
    let headed = c.in_ok-start.ensures.ok.1 ∙ ap (λ (n : ℕ). 1 ∷ (head n c.args.servers ++ 0 ∷ drop 34 c.args.bytes.now)) starts in
    let read = c.in_ok-text.ensures.ok in (
      read.0,
      keeps_to c.args.servers c.args.bytes.now c.first.result c.requires c.first.ensures.end (c.first.ensures.sum ∙ starts)
          (subst IsSum starts c.in_ok-start.ensures.ok.0) headed read.0 c.in_ok-text.place read.1 read.3,
      read.2,
    )
