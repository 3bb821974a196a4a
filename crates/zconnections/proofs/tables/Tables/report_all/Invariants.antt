use Rattle.std.proofs.Common.{◌≡◌, drop}
use Rattle.zconnections.specs.Reporting.{reported_all}
use Rattle.zconnections.proofs.tables.Tables.report_all.Given as goal

-- reporting the events that are left leads to what reporting all leads to
abbrev pub invariant-loop-event : goal.invariant-loop-event
invariant-loop-event l = reported_all (drop l.event-index l.events) l.self ≡ reported_all l.events l.fn.self
