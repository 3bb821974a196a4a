use Rattle.std.proofs.Common.{sym, ◌∙◌}
use Rattle.std.proofs.lemmas.Result.{err_from_is_err_and}
use Rattle.zdevices.specs.Device.{Between}
use Rattle.znode.specs.Node.{has_ended}
use Rattle.znode.specs.Steps.{Takes}
use Rattle.znode.proofs.pipe_lemmas.Serving.{some_none, all_ends, all_answers, answer_fails}
use Rattle.znode.proofs.pipe.serving.serve_node.Goals as goal

pub returns-in_err-block-clause-some : goal.returns-in_err-block-clause-some
returns-in_err-block-clause-some g c =
    let p = err_from_is_err_and c.from_residual.result c.from_residual.ensures.1 in
    rw p.1 (some_none Takes (Between g.K.Sink.took c.args.sink.now c.args.sink.now) c.args.node.now (g.met.K.Sink.took_nothing c.args.sink.now))

pub returns-then-not-has_ended-clause-all : goal.returns-then-not-has_ended-clause-all
returns-then-not-has_ended-clause-all g c =
    let going = c.in_ok-has_ended.ensures.all in
    all_ends Takes has_ended
    (Between g.S.Source.gave c.args.source.now c.serve_blocks.new.source) (Between g.K.Sink.took c.args.sink.now c.serve_blocks.new.sink)
    going.0 c.args.node.now c.serve_blocks.new.node going.1 (sym c.in_ok-has_ended.ensures.state ∙ c.if-not-has_ended.true)

pub returns-in_err-take-clause-some : goal.returns-in_err-take-clause-some
returns-in_err-take-clause-some g c =
    let going = c.in_ok-has_ended.ensures.all in
    let p = err_from_is_err_and c.from_residual-in_err-take.result c.from_residual-in_err-take.ensures.1 in
    rw p.1 (answer_fails Takes has_ended
    (Between g.S.Source.gave c.args.source.now c.serve_blocks.new.source) (Between g.K.Sink.took c.args.sink.now c.serve_blocks.new.sink)
    (Between g.K.Sink.took c.serve_blocks.new.sink c.take.new.sink) (Between g.K.Sink.took c.args.sink.now c.take.new.sink)
    going.0 c.args.node.now c.serve_blocks.new.node (λ a b. g.met.K.Sink.took_both _ _ _ a b) going.1 c.in_err-take.ensures.some)

pub returns-clause-all : goal.returns-clause-all
returns-clause-all g c =
    let going = c.in_ok-has_ended.ensures.all in
    all_answers Takes has_ended
    (Between g.S.Source.gave c.args.source.now c.serve_blocks.new.source) (Between g.K.Sink.took c.args.sink.now c.serve_blocks.new.sink)
    (Between g.K.Sink.took c.serve_blocks.new.sink c.take.new.sink) (Between g.K.Sink.took c.args.sink.now c.take.new.sink)
    going.0 c.args.node.now c.serve_blocks.new.node c.take.new.node (λ a b. g.met.K.Sink.took_both _ _ _ a b) going.1
    (sym c.in_ok-has_ended.ensures.state ∙ c.if-not-has_ended.false) c.in_ok-take.ensures.done
