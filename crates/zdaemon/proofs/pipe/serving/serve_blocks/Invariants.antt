use Rattle.zdevices.specs.Device.{Between}
use Rattle.zdaemon.proofs.pipe_lemmas.Going.{IsGoing}
use Rattle.zdaemon.proofs.pipe.serving.serve_blocks.Given as goal

abbrev pub invariant-loop-count : goal.invariant-loop-count
invariant-loop-count g l =
    IsGoing g.V.Service.took g.V.Service.kept g.V.Service.reported g.V.Service.has_reported (Between g.S.Source.gave l.initial.source l.source)
    (Between g.K.Sink.took l.initial.sink l.sink) l.begun.items l.initial.service l.service
    × g.V.Service.is_sound l.service

abbrev pub decreases-loop-count : goal.decreases-loop-count
decreases-loop-count g l = g.S.Source.reads_left l.source
