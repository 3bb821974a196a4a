use Rattle.std.proofs.Common.{ℕ, [], ◌∙◌, subst, take}
use Rattle.std.proofs.lemmas.Result.{err_from_is_err_and}
use Rattle.zdevices.specs.Device.{Between}
use Rattle.zdaemon.proofs.pipe_lemmas.Going.{all_begins, going_on, going_ends, going_fails, going_stops}
use Rattle.zdaemon.proofs.pipe.serving.serve_blocks.Goals as goal

pub loop-count-init : goal.loop-count-init
loop-count-init g c = (
  all_begins g.V.Service.took g.V.Service.kept g.V.Service.reported g.V.Service.has_reported
      (Between g.S.Source.gave c.args.source.now c.args.source.now) (Between g.K.Sink.took c.args.sink.now c.args.sink.now)
      c.new-begun.result.items c.args.service.now c.new-begun.ensures.items (g.met.S.Source.gave_nothing c.args.source.now)
      (g.met.K.Sink.took_nothing c.args.sink.now),
  c.requires.sound,
)

pub returns-in_default-clause-some : goal.returns-in_default-clause-some
returns-in_default-clause-some g c =
    going_fails g.V.Service.took g.V.Service.kept g.V.Service.reported g.V.Service.has_reported
    (Between g.S.Source.gave c.args.source.now c.loop-count.source) (Between g.K.Sink.took c.args.sink.now c.loop-count.sink)
    c.loop-count.begun.items c.args.service.now c.loop-count.service c.loop-count.invariant.0

pub returns-then-count-eq0-clause-all : goal.returns-then-count-eq0-clause-all
returns-then-count-eq0-clause-all g c =
    let nothing : g.S.Source.gave c.loop-count.source [] c.read.new.self =
    subst (λ (n : ℕ). g.S.Source.gave c.loop-count.source (take n c.read.new.buffer) c.read.new.self) c.if-count-eq0.true c.in-Ok.ensures.gave in
    going_ends g.V.Service.took g.V.Service.kept g.V.Service.reported g.V.Service.has_reported
    (Between g.S.Source.gave c.args.source.now c.loop-count.source) (Between g.S.Source.gave c.loop-count.source c.read.new.self)
    (Between g.S.Source.gave c.args.source.now c.read.new.self) (Between g.K.Sink.took c.args.sink.now c.loop-count.sink)
    c.loop-count.begun.items c.args.service.now c.loop-count.service (λ a b. g.met.S.Source.gave_both _ _ _ a b) c.loop-count.invariant.0 nothing

pub returns-in_err-extend_from_slice-clause-some : goal.returns-in_err-extend_from_slice-clause-some
returns-in_err-extend_from_slice-clause-some g c =
    let p = err_from_is_err_and c.from_residual.result c.from_residual.ensures.1 in
    rw p.1 (going_fails g.V.Service.took g.V.Service.kept g.V.Service.reported g.V.Service.has_reported
    (Between g.S.Source.gave c.args.source.now c.loop-count.source) (Between g.K.Sink.took c.args.sink.now c.loop-count.sink)
    c.loop-count.begun.items c.args.service.now c.loop-count.service c.loop-count.invariant.0)

pub take_all-requires : goal.take_all-requires
take_all-requires g c = c.loop-count.invariant.1

pub returns-in_err-begun-clause-some : goal.returns-in_err-begun-clause-some
returns-in_err-begun-clause-some g c =
    let p = err_from_is_err_and c.from_residual-in_err-begun.result c.from_residual-in_err-begun.ensures.1 in
    rw p.1 (going_stops g.V.Service.took g.V.Service.kept g.V.Service.reported g.V.Service.has_reported
    (Between g.S.Source.gave c.args.source.now c.loop-count.source) (Between g.K.Sink.took c.args.sink.now c.loop-count.sink)
    (Between g.K.Sink.took c.loop-count.sink c.take_all.new.sink) (Between g.K.Sink.took c.args.sink.now c.take_all.new.sink)
    c.loop-count.begun.items c.args.service.now c.loop-count.service (λ a b. g.met.K.Sink.took_both _ _ _ a b)
    c.loop-count.invariant.0 c.in_err-begun.ensures.some)

pub loop-count-preserved : goal.loop-count-preserved
loop-count-preserved g c = (
  going_on g.V.Service.took g.V.Service.kept g.V.Service.reported g.V.Service.has_reported
      (Between g.S.Source.gave c.args.source.now c.loop-count.source) (Between g.S.Source.gave c.loop-count.source c.read.new.self)
      (Between g.S.Source.gave c.args.source.now c.read.new.self)
      (Between g.K.Sink.took c.args.sink.now c.loop-count.sink) (Between g.K.Sink.took c.loop-count.sink c.take_all.new.sink)
      (Between g.K.Sink.took c.args.sink.now c.take_all.new.sink)
      c.loop-count.begun.items (take c.in-Ok.count c.read.new.buffer) c.deref.result.now _ c.args.service.now
      c.loop-count.service c.take_all.new.service (λ a b. g.met.S.Source.gave_both _ _ _ a b) (λ a b. g.met.K.Sink.took_both _ _ _ a b)
      c.loop-count.invariant.0 c.in-Ok.ensures.gave (c.deref.ensures.value ∙ c.in_ok-extend_from_slice.ensures.items)
      (search (c.in_ok-begun.ensures.front)),
  c.in_ok-begun.ensures.sound,
)
