use Rattle.std.proofs.Common.{ℕ, List, inr, sym, subst, ◌∙◌}
use Rattle.zdevices.specs.Device.{sink_run}
use Rattle.zarguments.specs.Reporting.{IsReported}
use Rattle.zarguments.proofs.Faults.{text-status_2}
use Rattle.zcommand.proofs.Reported.{text-status_1}
use Rattle.zcommand.proofs.program.command.Goals as goal

pub returns-in-Err-clause-refused : goal.returns-in-Err-clause-refused
returns-in-Err-clause-refused g c = λ two.
    subst (λ (text : List ℕ). IsReported (sink_run g.F.Sink.took g.F.Sink.failed c.args.faults.now c.refuse.new.faults) text)
    (text-status_2 c.in-Err.fault (sym c.refuse.ensures.status ∙ two))
    c.refuse.ensures.reported

-- where there is no memory for the words, nothing was read and nothing written
pub returns-in-Err-clause-cut : goal.returns-in-Err-clause-cut
returns-in-Err-clause-cut g c = λ one. inr (
  (g.met.S.Source.gave_nothing c.args.source.now, g.met.K.Sink.took_nothing c.args.sink.now),
  g.met.S.Source.failed_never c.args.source.now,
  g.met.K.Sink.failed_never c.args.sink.now,
  subst (λ (text : List ℕ). IsReported (sink_run g.F.Sink.took g.F.Sink.failed c.args.faults.now c.refuse.new.faults) text)
      (text-status_1 c.in-Err.fault (sym c.refuse.ensures.status ∙ one))
      c.refuse.ensures.reported,
)
