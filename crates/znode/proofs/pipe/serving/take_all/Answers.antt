use Rattle.std.proofs.lemmas.Result.{err_from_is_err_and}
use Rattle.zdevices.specs.Device.{Between}
use Rattle.znode.specs.Node.{has_ended}
use Rattle.znode.specs.Steps.{Takes}
use Rattle.znode.proofs.pipe_lemmas.Serving.{front_fails}
use Rattle.znode.proofs.pipe.serving.take_all.Goals as goal

pub returns-in_err-from_slice-clause-some : goal.returns-in_err-from_slice-clause-some
returns-in_err-from_slice-clause-some g c =
    let p = err_from_is_err_and c.from_residual-in_err-from_slice.result c.from_residual-in_err-from_slice.ensures.1 in
    rw p.1 (front_fails Takes has_ended
    (Between g.K.Sink.took c.args.sink.now c.take_whole.new.sink) c.args.bytes.now c.in_ok-rest.rest.now c.args.node.now
    c.take_whole.new.node c.in_ok-rest.ensures.front)
