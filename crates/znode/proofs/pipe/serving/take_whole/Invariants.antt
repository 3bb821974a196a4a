use Rattle.std.specs.Prelude.{length}
use Rattle.zdevices.specs.Device.{Between}
use Rattle.znode.specs.Node.{has_ended}
use Rattle.znode.specs.Steps.{Takes}
use Rattle.znode.specs.pipe.Serving.{ServesFront}
use Rattle.znode.proofs.pipe.serving.take_whole.Given as goal

abbrev pub invariant-loop-alloc : goal.invariant-loop-alloc
invariant-loop-alloc g l =
    ServesFront Takes has_ended (Between g.K.Sink.took l.initial.sink l.sink) l.initial.rest l.rest l.initial.node l.node

abbrev pub decreases-loop-alloc : goal.decreases-loop-alloc
decreases-loop-alloc g l = length l.rest
