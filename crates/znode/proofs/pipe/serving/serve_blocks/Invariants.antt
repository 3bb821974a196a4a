use Rattle.zdevices.specs.Device.{Between}
use Rattle.znode.specs.Node.{has_ended}
use Rattle.znode.specs.Steps.{Takes}
use Rattle.znode.specs.support.Serving.{IsGoing}
use Rattle.znode.proofs.pipe.serving.serve_blocks.Given as goal

abbrev pub invariant-loop-alloc : goal.invariant-loop-alloc
invariant-loop-alloc g l =
    IsGoing Takes has_ended (Between g.S.Source.gave l.initial.source l.source)
    (Between g.K.Sink.took l.initial.sink l.sink) l.begun.items l.initial.node l.node

abbrev pub decreases-loop-alloc : goal.decreases-loop-alloc
decreases-loop-alloc g l = g.S.Source.reads_left l.source
