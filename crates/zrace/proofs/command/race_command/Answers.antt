use Rattle.std.proofs.Common.{ℕ, List, inl, inr, sym, subst, ◌∙◌}
use Rattle.zdevices.specs.Device.{sink_run}
use Rattle.zarguments.specs.Reporting.{IsReported}
use Rattle.zarguments.proofs.Faults.{bad-status_2, text-status_2}
use Rattle.zrace.proofs.Faults.{reported_either}
use Rattle.zrace.proofs.command.race_command.Goals as goal

pub returns-in-Err-clause-refused : goal.returns-in-Err-clause-refused
returns-in-Err-clause-refused g c = λ two.
    subst (λ (text : List ℕ). IsReported (sink_run g.F.Sink.took g.F.Sink.failed c.args.faults.now c.refuse.new.faults) text)
    (text-status_2 c.in-Err.fault (sym c.refuse.ensures.status ∙ two))
    c.refuse.ensures.reported

pub returns-in-Err-clause-bad : goal.returns-in-Err-clause-bad
returns-in-Err-clause-bad g c = λ two. c.in-Err.ensures.bad (bad-status_2 c.in-Err.fault (sym c.refuse.ensures.status ∙ two))

pub returns-in-Ok-race-clause-good : goal.returns-in-Ok-race-clause-good
returns-in-Ok-race-clause-good g c = λ zero. (
  c.in-Ok-race.outcome,
  (c.in-Ok.race, c.in-Ok.ensures.asked, c.in-Ok-race.ensures.nodes, c.in-Ok-race.ensures.run),
  search (c.report.ensures.good, zero),
)

pub returns-in-Ok-race-clause-not_good : goal.returns-in-Ok-race-clause-not_good
returns-in-Ok-race-clause-not_good g c = λ one. inr (
  c.in-Ok-race.outcome,
  (c.in-Ok.race, c.in-Ok.ensures.asked, c.in-Ok-race.ensures.nodes, c.in-Ok-race.ensures.run),
  search (c.report.ensures.not_good, one),
)

pub returns-in-Err-race-clause-not_good : goal.returns-in-Err-race-clause-not_good
returns-in-Err-race-clause-not_good g c = λ one.
    inl (
      g.met.K.Sink.took_nothing c.args.sink.now,
      reported_either (sink_run g.F.Sink.took g.F.Sink.failed c.args.faults.now c.refuse_start.new.faults) c.in-Err-race.fault
          c.refuse_start.ensures.reported,
    )
