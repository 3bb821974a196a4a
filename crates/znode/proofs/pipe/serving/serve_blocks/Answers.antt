use Rattle.std.proofs.Common.{ℕ, [], ◌∙◌, subst, take}
use Rattle.std.proofs.lemmas.Result.{err_from_is_err_and}
use Rattle.zdevices.specs.Device.{Between}
use Rattle.znode.specs.Node.{has_ended}
use Rattle.znode.specs.Steps.{Takes}
use Rattle.znode.proofs.pipe_lemmas.Serving.{all_begins, going_on, going_last, going_fails, going_stops}
use Rattle.znode.proofs.pipe.serving.serve_blocks.Goals as goal

pub loop-alloc-init : goal.loop-alloc-init
loop-alloc-init g c =
    all_begins Takes has_ended
    (Between g.S.Source.gave c.args.source.now c.args.source.now) (Between g.K.Sink.took c.args.sink.now c.args.sink.now)
    c.new-begun.result.items c.args.node.now c.new-begun.ensures.items (g.met.S.Source.gave_nothing c.args.source.now)
    (g.met.K.Sink.took_nothing c.args.sink.now)

pub returns-then-has_ended-clause-all : goal.returns-then-has_ended-clause-all
returns-then-has_ended-clause-all g c = (c.loop-alloc.begun.items, c.loop-alloc.invariant)

pub returns-in_default-clause-some : goal.returns-in_default-clause-some
returns-in_default-clause-some g c =
    going_fails Takes has_ended
    (Between g.S.Source.gave c.args.source.now c.loop-alloc.source) (Between g.K.Sink.took c.args.sink.now c.loop-alloc.sink)
    c.loop-alloc.begun.items c.args.node.now c.loop-alloc.node c.loop-alloc.invariant

pub returns-then-count-eq0-clause-all : goal.returns-then-count-eq0-clause-all
returns-then-count-eq0-clause-all g c =
    let nothing : g.S.Source.gave c.loop-alloc.source [] c.read.new.self =
    subst (λ (n : ℕ). g.S.Source.gave c.loop-alloc.source (take n c.read.new.buffer) c.read.new.self) c.if-count-eq0.true c.in-Ok.ensures.gave in (
      c.loop-alloc.begun.items,
      going_last Takes has_ended
          (Between g.S.Source.gave c.args.source.now c.loop-alloc.source) (Between g.S.Source.gave c.loop-alloc.source c.read.new.self)
          (Between g.S.Source.gave c.args.source.now c.read.new.self) (Between g.K.Sink.took c.args.sink.now c.loop-alloc.sink)
          c.loop-alloc.begun.items c.args.node.now c.loop-alloc.node (λ a b. g.met.S.Source.gave_both _ _ _ a b) c.loop-alloc.invariant nothing,
    )

pub returns-in_err-extend_from_slice-clause-some : goal.returns-in_err-extend_from_slice-clause-some
returns-in_err-extend_from_slice-clause-some g c =
    let p = err_from_is_err_and c.from_residual.result c.from_residual.ensures.1 in
    rw p.1 (going_fails Takes has_ended
    (Between g.S.Source.gave c.args.source.now c.loop-alloc.source) (Between g.K.Sink.took c.args.sink.now c.loop-alloc.sink)
    c.loop-alloc.begun.items c.args.node.now c.loop-alloc.node c.loop-alloc.invariant)

pub returns-in_err-begun-clause-some : goal.returns-in_err-begun-clause-some
returns-in_err-begun-clause-some g c =
    let p = err_from_is_err_and c.from_residual-in_err-begun.result c.from_residual-in_err-begun.ensures.1 in
    rw p.1 (going_stops Takes has_ended
    (Between g.S.Source.gave c.args.source.now c.loop-alloc.source) (Between g.K.Sink.took c.args.sink.now c.loop-alloc.sink)
    (Between g.K.Sink.took c.loop-alloc.sink c.take_all.new.sink) (Between g.K.Sink.took c.args.sink.now c.take_all.new.sink)
    c.loop-alloc.begun.items c.args.node.now c.loop-alloc.node (λ a b. g.met.K.Sink.took_both _ _ _ a b)
    c.loop-alloc.invariant c.in_err-begun.ensures.some)

pub loop-alloc-preserved : goal.loop-alloc-preserved
loop-alloc-preserved g c =
    going_on Takes has_ended
    (Between g.S.Source.gave c.args.source.now c.loop-alloc.source) (Between g.S.Source.gave c.loop-alloc.source c.read.new.self)
    (Between g.S.Source.gave c.args.source.now c.read.new.self)
    (Between g.K.Sink.took c.args.sink.now c.loop-alloc.sink) (Between g.K.Sink.took c.loop-alloc.sink c.take_all.new.sink)
    (Between g.K.Sink.took c.args.sink.now c.take_all.new.sink)
    c.loop-alloc.begun.items (take c.in-Ok.count c.read.new.buffer) c.deref.result.now _ c.args.node.now
    c.loop-alloc.node c.take_all.new.node (λ a b. g.met.S.Source.gave_both _ _ _ a b) (λ a b. g.met.K.Sink.took_both _ _ _ a b)
    c.loop-alloc.invariant c.in-Ok.ensures.gave (c.deref.ensures.value ∙ c.in_ok-extend_from_slice.ensures.items)
    (search (c.in_ok-begun.ensures.front))
