use Rattle.std.proofs.lemmas.Result.{err_from_is_err_and}
use Rattle.zdevices.specs.Device.{Between}
use Rattle.zdaemon.proofs.pipe_lemmas.Going.{sends_none, some_first, some_after, all_behind}
use Rattle.zdaemon.proofs.pipe.serving.serve_all.Goals as goal

pub returns-in_err-block-clause-some : goal.returns-in_err-block-clause-some
returns-in_err-block-clause-some g c =
    let p = err_from_is_err_and c.from_residual.result c.from_residual.ensures.1 in
    rw p.1 (some_first g.V.Service.took g.V.Service.kept g.V.Service.reported g.V.Service.has_reported
    (Between g.K.Sink.took c.args.sink.now c.args.sink.now) c.args.service.now
    (sends_none g.V.Service.kept g.V.Service.reported (Between g.K.Sink.took c.args.sink.now c.args.sink.now)
    c.args.service.now (g.met.K.Sink.took_nothing c.args.sink.now)))

pub returns-in_err-answer-clause-some : goal.returns-in_err-answer-clause-some
returns-in_err-answer-clause-some g c =
    let p = err_from_is_err_and c.from_residual-in_err-answer.result c.from_residual-in_err-answer.ensures.1 in
    rw p.1 (some_first g.V.Service.took g.V.Service.kept g.V.Service.reported g.V.Service.has_reported
    (Between g.K.Sink.took c.args.sink.now c.answer.new.sink) c.args.service.now c.in_err-answer.ensures.some)

pub returns-in_err-serve_blocks-clause-some : goal.returns-in_err-serve_blocks-clause-some
returns-in_err-serve_blocks-clause-some g c =
    let p = err_from_is_err_and c.from_residual-in_err-serve_blocks.result c.from_residual-in_err-serve_blocks.ensures.1 in
    rw p.1 (some_after g.V.Service.took g.V.Service.kept g.V.Service.reported g.V.Service.has_reported
    (Between g.K.Sink.took c.args.sink.now c.answer.new.sink) (Between g.K.Sink.took c.answer.new.sink c.serve_blocks.new.sink)
    (Between g.K.Sink.took c.args.sink.now c.serve_blocks.new.sink)
    c.args.service.now c.answer.new.service (λ a b. g.met.K.Sink.took_both _ _ _ a b) c.in_ok-answer.ensures.done c.in_err-serve_blocks.ensures.some)

pub returns-clause-all : goal.returns-clause-all
returns-clause-all g c =
    all_behind g.V.Service.took g.V.Service.kept g.V.Service.reported g.V.Service.has_reported
    (Between g.S.Source.gave c.args.source.now c.serve_blocks.new.source) (Between g.K.Sink.took c.args.sink.now c.answer.new.sink)
    (Between g.K.Sink.took c.answer.new.sink c.serve_blocks.new.sink) (Between g.K.Sink.took c.args.sink.now c.serve_blocks.new.sink)
    c.args.service.now c.answer.new.service c.serve_blocks.new.service (λ a b. g.met.K.Sink.took_both _ _ _ a b)
    (search (c.in_ok-answer.ensures.done)) (search (c.in_ok-serve_blocks.ensures.all))
