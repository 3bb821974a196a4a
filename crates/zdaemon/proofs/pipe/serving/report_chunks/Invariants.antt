use Rattle.zdevices.specs.Device.{Between}
use Rattle.zdaemon.specs.pipe.Serving.{IsReporting}
use Rattle.zdaemon.proofs.pipe.serving.report_chunks.Given as goal

abbrev pub invariant-loop-chunk : goal.invariant-loop-chunk
invariant-loop-chunk g l =
    IsReporting g.V.Service.reported (Between g.K.Sink.took l.initial.sink l.sink) l.initial.service l.service l.out.items
    × g.V.Service.is_sound l.service

abbrev pub decreases-loop-chunk : goal.decreases-loop-chunk
decreases-loop-chunk g l = g.V.Service.chunks_left l.service
