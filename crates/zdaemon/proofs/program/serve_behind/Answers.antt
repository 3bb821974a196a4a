use Rattle.std.proofs.Common.{◌∷◌, [], OnOk, subst}
use Rattle.zdevices.specs.Device.{Between}
use Rattle.zguard.specs.Guarding.{guard_of}
use Rattle.zdaemon.specs.Guarded.{HasReportedGuarded, KeepsGuarded, ReportsGuarded, TakesGuarded}
use Rattle.zdaemon.specs.declared.guarded.Guarded.{Guarded}
use Rattle.zdaemon.specs.pipe.Messages.{Keep}
use Rattle.zdaemon.specs.pipe.Serving.{ServesAll}
use Rattle.zdaemon.proofs.Running.{guarded_is}
use Rattle.zdaemon.proofs.program.serve_behind.Goals as goal

pub returns-in-Some-clause-all : goal.returns-in-Some-clause-all
returns-in-Some-clause-all g c =
    rw c.in-Some.is (subst (λ (first : Guarded g.row.V.Denot). OnOk c.serve.result ((last : Guarded g.row.V.Denot)
    × ServesAll (TakesGuarded g.V.Service.took) (KeepsGuarded g.V.Service.kept) (ReportsGuarded g.V.Service.reported)
    (HasReportedGuarded g.V.Service.has_reported) (Keep ∷ []) (Between g.S.Source.gave c.args.source.now c.serve.new.source)
    (Between g.K.Sink.took c.args.sink.now c.serve.new.sink) first last))
    (guarded_is c.new.result (guard_of c.in-Some.logins) c.args.service c.new.ensures.guard c.new.ensures.service)
    c.serve.ensures.all)
