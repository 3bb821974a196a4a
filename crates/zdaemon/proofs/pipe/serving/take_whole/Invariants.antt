use Rattle.zdevices.specs.Device.{Between}
use Rattle.std.specs.Prelude.{length}
use Rattle.zdaemon.specs.pipe.Serving.{ServesFront}
use Rattle.zdaemon.proofs.pipe.serving.take_whole.Given as goal

abbrev pub invariant-loop-message : goal.invariant-loop-message
invariant-loop-message g l =
    ServesFront g.V.Service.took g.V.Service.kept g.V.Service.reported g.V.Service.has_reported (Between g.K.Sink.took l.initial.sink l.sink)
    l.initial.rest l.rest l.initial.service l.service
    × g.V.Service.is_sound l.service

abbrev pub decreases-loop-message : goal.decreases-loop-message
decreases-loop-message g l = length l.rest
