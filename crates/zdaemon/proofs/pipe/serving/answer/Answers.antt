use Rattle.std.proofs.lemmas.Result.{err_from_is_err_and}
use Rattle.zdevices.specs.Device.{Between}
use Rattle.zdaemon.proofs.pipe_lemmas.Sequences.{reporting_fails}
use Rattle.zdaemon.proofs.pipe_lemmas.Going.{sends_none, sends_some, sends_most, sends_all, on_err, on_ok}
use Rattle.zdaemon.proofs.pipe.serving.answer.Goals as goal

pub returns-in_err-keep-clause-some : goal.returns-in_err-keep-clause-some
returns-in_err-keep-clause-some g c =
    let p = err_from_is_err_and c.from_residual.result c.from_residual.ensures.1 in
    rw p.1 (sends_none g.V.Service.kept g.V.Service.reported (Between g.K.Sink.took c.args.sink.now c.args.sink.now)
    c.args.service.now (g.met.K.Sink.took_nothing c.args.sink.now))

pub returns-in_err-report_chunks-clause-some : goal.returns-in_err-report_chunks-clause-some
returns-in_err-report_chunks-clause-some g c =
    let p = err_from_is_err_and c.from_residual-in_err-report_chunks.result c.from_residual-in_err-report_chunks.ensures.1 in
    rw p.1 (sends_some g.V.Service.kept g.V.Service.reported (Between g.K.Sink.took c.args.sink.now c.report_chunks.new.sink)
    c.args.service.now c.keep.new.self c.in_ok-keep.ensures.kept c.in_err-report_chunks.ensures.some)

pub returns-in_err-put_end-clause-some : goal.returns-in_err-put_end-clause-some
returns-in_err-put_end-clause-some g c =
    let p = err_from_is_err_and c.from_residual-in_err-put_end.result c.from_residual-in_err-put_end.ensures.1 in
    rw p.1 (sends_some g.V.Service.kept g.V.Service.reported (Between g.K.Sink.took c.args.sink.now c.report_chunks.new.sink)
    c.args.service.now c.keep.new.self c.in_ok-keep.ensures.kept
    (reporting_fails g.V.Service.reported (Between g.K.Sink.took c.args.sink.now c.report_chunks.new.sink) c.keep.new.self
    c.report_chunks.new.service c.report_chunks.new.out.items c.in_ok-report_chunks.ensures.done.0))

pub returns-clause-some : goal.returns-clause-some
returns-clause-some g c =
    on_err c.tell.result _ (sends_most g.V.Service.kept g.V.Service.reported (Between g.K.Sink.took c.args.sink.now c.report_chunks.new.sink)
    (Between g.K.Sink.took c.report_chunks.new.sink c.tell.new.sink) (Between g.K.Sink.took c.args.sink.now c.tell.new.sink)
    c.args.service.now c.keep.new.self c.report_chunks.new.service c.report_chunks.new.out.items c.put_end.new.out.items
    (λ a b. g.met.K.Sink.took_both _ _ _ a b) c.in_ok-keep.ensures.kept c.in_ok-report_chunks.ensures.done.0
    c.in_ok-put_end.ensures.text c.tell.ensures.some)

pub returns-clause-done : goal.returns-clause-done
returns-clause-done g c =
    on_ok c.tell.result _ _ (λ wrote. sends_all g.V.Service.took g.V.Service.kept g.V.Service.reported g.V.Service.has_reported
    (Between g.K.Sink.took c.args.sink.now c.report_chunks.new.sink) (Between g.K.Sink.took c.report_chunks.new.sink c.tell.new.sink)
    (Between g.K.Sink.took c.args.sink.now c.tell.new.sink)
    c.args.service.now c.keep.new.self c.report_chunks.new.service c.report_chunks.new.out.items c.put_end.new.out.items
    (λ a b. g.met.K.Sink.took_both _ _ _ a b) (search (c.in_ok-keep.ensures.kept)) (search (c.in_ok-report_chunks.ensures.done.0))
    (search (c.in_ok-report_chunks.ensures.done.1))
    (search (c.in_ok-put_end.ensures.text)) wrote) c.tell.ensures.done
