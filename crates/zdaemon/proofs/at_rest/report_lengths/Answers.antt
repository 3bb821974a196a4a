use Rattle.std.proofs.Common.{◌≡◌, ℕ, List, refl, subst}
use Rattle.zdevices.specs.Device.{sink_run}
use Rattle.zarguments.specs.Reporting.{IsReported}
use Rattle.zdaemon.specs.AtRest.{compacted_text}
use Rattle.zdaemon.proofs.at_rest.report_lengths.Goals as goal

pub returns-in-Ok : goal.returns-in-Ok
returns-in-Ok g c =
    let said : c.as_str.result.now ≡ compacted_text c.args.after c.args.before =
    rw (c.as_str.ensures.value, c.in-Ok.ensures.bytes, c.new-text.ensures.bytes) refl in
    subst (λ (line : List ℕ). IsReported (sink_run g.K.Sink.took g.K.Sink.failed c.args.sink.now c.tell.new.faults) line) said c.tell.ensures
