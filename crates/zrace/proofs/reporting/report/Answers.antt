use Rattle.std.proofs.Common.{rules, ℕ, List, inl, inr, sym, subst, ◌∙◌}
use Rattle.zdevices.specs.Device.{Between, TookBeginning}
use Rattle.zrace.proofs.Written.{on-failure, on-success}
use Rattle.zrace.proofs.reporting.report.Goals as goal

-- the text that was to be written is the outcome's
pub returns-then-is_err-clause-not_good : goal.returns-then-is_err-clause-not_good
returns-then-is_err-clause-not_good g c = λ one.
    let took = Between g.K.Sink.took c.args.sink.now c.write_all.new.sink in
    inr (inl (
      subst (λ (text : List ℕ). TookBeginning took text) (search rules) c.write_all.ensures.beginning,
      on-failure c.write_all.result (sym c.is_err.ensures.value ∙ c.if-is_err.true) c.write_all.ensures.failed,
      c.tell.ensures,
    ))

pub returns-clause-good : goal.returns-clause-good
returns-clause-good g c = λ zero.
    let took = Between g.K.Sink.took c.args.sink.now c.write_all.new.sink in
    let good = c.status_of.ensures.good zero in (
      good.0,
      good.1,
      subst (λ (text : List ℕ). took text) (search rules)
          (on-success c.write_all.result (sym c.is_err.ensures.value ∙ c.if-is_err.false) c.write_all.ensures.took),
    )

pub returns-clause-not_good : goal.returns-clause-not_good
returns-clause-not_good g c = λ one.
    let took = Between g.K.Sink.took c.args.sink.now c.write_all.new.sink in
    inr (inr (
      c.status_of.ensures.bad one,
      subst (λ (text : List ℕ). took text) (search rules)
          (on-success c.write_all.result (sym c.is_err.ensures.value ∙ c.if-is_err.false) c.write_all.ensures.took),
      g.met.F.Sink.took_nothing c.args.faults.now,
    ))
