use Rattle.zdevices.specs.Device.{Between}
use Rattle.znode.specs.Steps.{Takes}
use Rattle.znode.specs.pipe.Inputs.{input_of}
use Rattle.znode.proofs.pipe_lemmas.Serving.{part_sent}
use Rattle.znode.proofs.pipe.serving.take.Goals as goal

pub returns-clause-some : goal.returns-clause-some
returns-clause-some g c =
    let taken = c.in_ok-take.ensures.taken in
    part_sent Takes (Between g.K.Sink.took c.args.sink.now c.write_all.new.sink) (input_of c.args.input.now) c.args.node.now c.take.new.self
    taken.0 c.new-out.result.items c.take.new.out.items c.deref.result.now taken.1 c.new-out.ensures.items taken.2 c.deref.ensures.value
    c.write_all.ensures.beginning
