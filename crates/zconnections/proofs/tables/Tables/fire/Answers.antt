use Rattle.std.proofs.Common.{ap, ◌∙◌}
use Rattle.std.proofs.lemmas.Result.{IfOk-weaker}
use Rattle.zwatches.specs.Events.{reported}
use Rattle.zconnections.specs.Tables.{TablesView}
use Rattle.zconnections.specs.Reporting.{in_order}
use Rattle.zconnections.proofs.Rising.{in_order-Lists}
use Rattle.zconnections.proofs.tables.Tables.fire.Goals as goal

pub returns-clause-connections : goal.returns-clause-connections
returns-clause-connections c =
    IfOk-weaker c.changed.result _ _
    (λ connections is.
    in_order-Lists connections.items _ is
    ∙ ap (λ (t : TablesView). in_order (reported t.watches c.args.event.now.kind c.args.event.now.path)) c.self.view_is)
    c.changed.ensures.reported
