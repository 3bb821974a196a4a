use Rattle.std.proofs.Common.{◌≡◌, drop}
use Rattle.zconnections.specs.Reporting.{event_frame, sent_on}
use Rattle.zconnections.proofs.tables.Tables.send_on.Given as goal

-- the connections that are left lead to what all lead to
abbrev pub invariant-loop-connection : goal.invariant-loop-connection
invariant-loop-connection l =
    sent_on (drop l.connection-index l.connections) (event_frame l.event) l.self
    ≡ sent_on l.connections (event_frame l.event) l.fn.self
