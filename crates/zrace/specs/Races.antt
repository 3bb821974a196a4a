-- What a race leaves, and its outcome.
use Rattle.std.specs.Prelude.{◌≡◌, ◌+◌, true, false, Result, Err, OnOk, IsOkUnless, length}
use Rattle.zprotocol.specs.declared.limits.TheConstants.{MAX_SERVERS}
use Rattle.zprotocol.specs.world.History.{History}
use Rattle.zprotocol.specs.world.PlainTree.{IsExplained}
use Rattle.zprotocol.specs.declared.traces.trace.Traces.{Traces}
use Rattle.zprotocol.specs.traces.Audit.{is_any_cut, IsFound}
use Rattle.zprotocol.specs.traces.Lawful.{AreLawful}
use Rattle.zaudit.specs.declared.faults.AuditFault.{AuditFault}
use Rattle.zaudit.specs.declared.faults.AuditFault.TheVariants.{Cut, Memory}
use Rattle.zrun.specs.declared.clients.Clients.{Clients}
use Rattle.zrun.specs.Members.{AreReported, clients_run}
use Rattle.zrace.specs.declared.plan.Race.{Race}
use Rattle.zrace.specs.declared.outcome.Outcome.{Outcome}
use Rattle.zrace.specs.declared.racing.Finish.{Finish}
use Rattle.zrace.specs.Records.{AreInRecords}
use Rattle.zrace.specs.Seen.{AreSeenIn}

-- the traces are those of a run over the race's servers, with its clients and one that doesn't race
pub record AreOf (race : Race) (t : Traces) : Type 0 where
  pub last : t.last ≡ race.last
  pub servers : length t.servers.items ≡ MAX_SERVERS
  pub clients : length t.clients.items ≡ race.clients + 1
  pub lawful : is_any_cut t ≡ false → ∥ AreLawful t ∥₁

-- it is an audit of these traces: the run is linearizable, or a trace is cut, or memory ran out
pub record IsAuditOf {X : Type 0} (t : Traces) (audit : Result X AuditFault) : Type 0 where
  pub found : OnOk audit ((history : History) × IsFound t history × IsExplained history)
  pub cut : is_any_cut t ≡ true → audit ≡ Err Cut
  pub whole : is_any_cut t ≡ false → IsOkUnless audit Memory

-- the traces say what these clients did, and each node's version is one that a client of their run
-- received; unless a trace is cut, it is in the record of a client, in these traces
pub record IsFinishOf (race : Race) (f : Finish) : Type 0 where
  pub over : AreOf race f.traces
  pub clients : Clients
  pub reported : AreReported (race.clients + 1) f.traces clients
  pub seen : AreSeenIn (clients_run clients) f.versions.items
  pub recorded : AreInRecords f.traces f.versions.items

-- the outcome is that of a run of the race, and the audit is that of its traces
pub record IsOutcomeOf (race : Race) (outcome : Outcome) : Type 0 where
  pub finish : Finish
  pub run : IsFinishOf race finish
  pub versions : outcome.versions ≡ finish.versions
  pub audit : IsAuditOf finish.traces outcome.audit
