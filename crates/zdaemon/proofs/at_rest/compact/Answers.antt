use Rattle.std.proofs.Common.{ℕ, List, subst}
use Rattle.zdevices.specs.Device.{sink_run}
use Rattle.zarguments.specs.Reporting.{IsReported}
use Rattle.zdaemon.specs.AtRest.{compacted_text}
use Rattle.zdaemon.proofs.at_rest.compact.Goals as goal

pub returns : goal.returns
returns g c =
    let was = c.in-Ok.ensures.stored in
    let is = c.in_default.ensures.kept c.args.servers was.0 was.2 in
    record {
      compacted = (
        c.in-Ok.stored,
        c.compact.new.self,
        record { batches = was.0; stands = was.1; was = was.2; next = is.0; is = is.1; alone = is.2 },
        subst (λ (line : List ℕ). IsReported (sink_run g.K.Sink.took g.K.Sink.failed c.args.sink.now c.report_lengths.new.sink) line)
            (λ i. compacted_text (c.size-after.ensures i) (c.size-before.ensures i)) c.in_ok-report_lengths.ensures,
      );
    }
