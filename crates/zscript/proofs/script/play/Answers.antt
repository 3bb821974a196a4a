use Rattle.std.proofs.lemmas.Result.{err_from_is_err_and}
use Rattle.zdevices.specs.Device.{source_run, sink_run}
use Rattle.zscript.specs.declared.fault.PlayFault.TheVariants.{Memory}
use Rattle.zscript.proofs.Cutting.{IsCut-from_fault, cut_unread, ends-played, ends-cut, ends-fault}
use Rattle.zscript.specs.Outcome.{IsCutBy}
use Rattle.zscript.proofs.script.play.Given.{Over}
use Rattle.zscript.proofs.script.play.Goals as goal

unread : (g : Over) (c : goal.After-from_residual g)
    → IsCutBy c.args.last (source_run g.S.Source.gave g.S.Source.failed g.S.Source.has_ended c.args.source.now c.args.source.now)
    (sink_run g.K.Sink.took g.K.Sink.failed c.args.sink.now c.args.sink.now) Memory
unread g c = cut_unread c.args.last _ _ (g.met.S.Source.gave_nothing _) (g.met.K.Sink.took_nothing _) (g.met.S.Source.failed_never _)
    (g.met.K.Sink.failed_never _)

pub returns-in_err-block-clause-fault : goal.returns-in_err-block-clause-fault
returns-in_err-block-clause-fault g c = let p = err_from_is_err_and c.from_residual.result c.from_residual.ensures.1 in rw (p.1, p.2) (unread g c)

pub returns-in_err-block-clause-cut : goal.returns-in_err-block-clause-cut
returns-in_err-block-clause-cut g c = let p = err_from_is_err_and c.from_residual.result c.from_residual.ensures.1
    in rw p.1 (IsCut-from_fault c.args.last _ _ Memory (unread g c))

idle : (g : Over) (c : goal.After-drop-block g)
    → IsCutBy c.args.last (source_run g.S.Source.gave g.S.Source.failed g.S.Source.has_ended c.args.source.now c.args.source.now)
    (sink_run g.K.Sink.took g.K.Sink.failed c.args.sink.now c.args.sink.now) Memory
idle g c = cut_unread c.args.last _ _ (g.met.S.Source.gave_nothing _) (g.met.K.Sink.took_nothing _) (g.met.S.Source.failed_never _)
    (g.met.K.Sink.failed_never _)

pub returns-in_err-player-clause-fault : goal.returns-in_err-player-clause-fault
returns-in_err-player-clause-fault g c = let p = err_from_is_err_and c.from_residual-in_err-player.result c.from_residual-in_err-player.ensures.1
    in rw (p.1, p.2) (idle g c)

pub returns-in_err-player-clause-cut : goal.returns-in_err-player-clause-cut
returns-in_err-player-clause-cut g c = let p = err_from_is_err_and c.from_residual-in_err-player.result c.from_residual-in_err-player.ensures.1
    in rw p.1 (IsCut-from_fault c.args.last _ _ Memory (idle g c))

pub returns-clause-played : goal.returns-clause-played
returns-clause-played g c = ends-played c.args.last _ _ c.play_blocks-played.result
    (c.play_blocks-played.ensures c.args.last c.in_ok-player.ensures.world)

pub returns-clause-cut : goal.returns-clause-cut
returns-clause-cut g c = ends-cut c.args.last _ _ c.play_blocks-played.result (c.play_blocks-played.ensures c.args.last c.in_ok-player.ensures.world)

pub returns-clause-fault : goal.returns-clause-fault
returns-clause-fault g c = ends-fault c.args.last _ _ c.play_blocks-played.result
    (c.play_blocks-played.ensures c.args.last c.in_ok-player.ensures.world)
