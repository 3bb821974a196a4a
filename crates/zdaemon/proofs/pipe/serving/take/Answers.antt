use Rattle.zdevices.specs.Device.{Between}
use Rattle.zdaemon.proofs.pipe_lemmas.Going.{sends_none, on_err}
use Rattle.zdaemon.proofs.pipe.serving.take.Goals as goal

pub returns-in-Input-clause-some : goal.returns-in-Input-clause-some
returns-in-Input-clause-some g c = on_err c.take.result _ (sends_none g.V.Service.kept g.V.Service.reported
    (Between g.K.Sink.took c.args.sink.now c.args.sink.now) c.args.service.now (g.met.K.Sink.took_nothing c.args.sink.now))
