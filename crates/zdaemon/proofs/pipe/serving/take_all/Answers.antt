use Rattle.std.proofs.lemmas.Result.{err_from_is_err_and}
use Rattle.zdevices.specs.Device.{Between}
use Rattle.zdaemon.proofs.pipe_lemmas.Going.{front_fails}
use Rattle.zdaemon.proofs.pipe.serving.take_all.Goals as goal

pub returns-in_err-from_slice-clause-some : goal.returns-in_err-from_slice-clause-some
returns-in_err-from_slice-clause-some g c =
    let p = err_from_is_err_and c.from_residual-in_err-from_slice.result c.from_residual-in_err-from_slice.ensures.1 in
    rw p.1 (front_fails g.V.Service.took g.V.Service.kept g.V.Service.reported g.V.Service.has_reported
    (Between g.K.Sink.took c.args.sink.now c.take_whole.new.sink) c.args.bytes.now c.in_ok-rest.rest.now c.args.service.now
    c.take_whole.new.service c.in_ok-rest.ensures.front)
