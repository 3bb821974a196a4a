use Rattle.std.proofs.Common.{◌≡◌, ℕ, List, ◌+◌, ◌++◌, [], true, false, Some, sym, subst, ◌∙◌, arith}
use Rattle.std.proofs.lemmas.List.{nil_from_length}
use Rattle.std.specs.FinMap.{get}
use Rattle.ztree.proofs.Maps.{is_there}
use Rattle.zsnapshots.specs.export.support.Counting.{text_for}
use Rattle.zsnapshots.proofs.export_lemmas.Counting.{IsWriting, writing_all, writing_done, writing_next, writing_part, writing_there, writing_within}
use Rattle.zsnapshots.proofs.export.export.write_export.Goals as goal

pub loop-path-init : goal.loop-path-init
loop-path-init g c = (
  [],
  g.met.K.Sink.took_nothing _,
  g.met.K.Sink.failed_never _,
  writing_all c.args.machine.now.state.service.plain c.into_iter-path-iterator.result.rest.items
      (c.into_iter-path-iterator.ensures.into_iter_gives.0 ∙ c.in_ok-paths.ensures.paths),
)

pub unreachable-requires : goal.unreachable-requires
unreachable-requires g c =
    let t = c.args.machine.now.state.service.plain in
    let so_far = c.loop-path.invariant in
    let left = subst (IsWriting t so_far.0) c.in-Some.ensures.steps.0 so_far.3 in
    let there = writing_there t so_far.0 c.in-Some.path c.next.new.self.rest.items left in
    let clash : false ≡ true = c.in_default.ensures.there ∙ is_there (get t.nodes c.in-Some.path) there.0 there.1 in
    cc clash

pub loop-path-preserved : goal.loop-path-preserved
loop-path-preserved g c =
    let t = c.args.machine.now.state.service.plain in
    let so_far = c.loop-path.invariant in
    let left = subst (IsWriting t so_far.0) c.in-Some.ensures.steps.0 so_far.3 in
    let found = rw c.in-Some-node.is at c.node.ensures.node in
    let n = c.in-Some-node.node.now in (
      so_far.0 ++ text_for c.in-Some.path n,
      g.met.K.Sink.took_both _ _ _ _ _ so_far.1 c.in-Ok.ensures.took,
      g.met.K.Sink.failed_both _ _ _ 0 0 so_far.2 c.in-Ok.ensures.sound,
      writing_next t so_far.0 c.in-Some.path c.next.new.self.rest.items n found c.in-Ok.ensures.within left,
    )

pub loop-path-preserved-in-Ok : goal.loop-path-preserved-in-Ok
loop-path-preserved-in-Ok g c =
    let t = c.args.machine.now.state.service.plain in
    let so_far = c.loop-path.invariant in
    let left = subst (IsWriting t so_far.0) c.in-Some.ensures.steps.0 so_far.3 in
    let found = rw c.in-Some-node.is at c.node.ensures.node in
    let n = c.in-Some-node.node.now in (
      so_far.0 ++ text_for c.in-Some.path n,
      g.met.K.Sink.took_both _ _ _ _ _ so_far.1 c.in-Ok.ensures.took,
      g.met.K.Sink.failed_both _ _ _ 0 0 so_far.2 c.in-Ok.ensures.sound,
      writing_next t so_far.0 c.in-Some.path c.next.new.self.rest.items n found c.in-Ok.ensures.within left,
    )

pub returns-in-Err-clause-beginning : goal.returns-in-Err-clause-beginning
returns-in-Err-clause-beginning g c =
    let t = c.args.machine.now.state.service.plain in
    let so_far = c.loop-path.invariant in
    let left = subst (IsWriting t so_far.0) c.in-Some.ensures.steps.0 so_far.3 in
    let found = rw c.in-Some-node.is at c.node.ensures.node in
    let part = c.in-Err.ensures.beginning in (
      so_far.0 ++ part.0,
      writing_part t so_far.0 c.in-Some.path c.next.new.self.rest.items c.in-Some-node.node.now part.0 part.1.0 found part.1.1 left,
      g.met.K.Sink.took_both _ _ _ _ _ so_far.1 part.2,
    )

pub returns-in-Err-clause-failed : goal.returns-in-Err-clause-failed
returns-in-Err-clause-failed g c is =
    let so_far = c.loop-path.invariant in
    let failed = c.in-Err.ensures.failed is in
    (0 + failed.0, omega (arith, failed.1), g.met.K.Sink.failed_both _ _ _ 0 failed.0 so_far.2 failed.2)

pub returns-clause-took : goal.returns-clause-took
returns-clause-took g c =
    let t = c.args.machine.now.state.service.plain in
    let so_far = c.loop-path.invariant in
    let none : c.loop-path.path-iterator.rest.items
    ≡ [] = nil_from_length _ (omega (arith, c.in-None.ensures.steps.0, c.loop-path.path-iterator.rest.ok)) in
    subst (λ (x : List ℕ). g.K.Sink.took c.args.sink.now x c.loop-path.sink)
    (writing_done t so_far.0 (subst (IsWriting t so_far.0) none so_far.3)) so_far.1

pub returns-clause-has_lines : goal.returns-clause-has_lines
returns-clause-has_lines g c =
    let t = c.args.machine.now.state.service.plain in
    let so_far = c.loop-path.invariant in
    let none : c.loop-path.path-iterator.rest.items
    ≡ [] = nil_from_length _ (omega (arith, c.in-None.ensures.steps.0, c.loop-path.path-iterator.rest.ok)) in
    record {
      lawful = c.keeps_lawful.ensures.lawful;
      paths = c.keeps_lawful.ensures.paths;
      within = writing_within t so_far.0 (subst (IsWriting t so_far.0) none so_far.3);
    }
