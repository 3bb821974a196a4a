use Rattle.std.proofs.Common.{◌≡◌, true, false, Some, length, sym, ap, subst, ◌∙◌, arith}
use Rattle.std.specs.FinMap.{get}
use Rattle.std.specs.FinMap as finite
use Rattle.ztree.proofs.Maps.{is_there}
use Rattle.zsnapshots.proofs.export_lemmas.Counting.{IsCounting, counting_all, counting_next, counting_room, counting_there, len_keys}
use Rattle.zsnapshots.proofs.export.tally.counts.Goals as goal

pub loop-path-init : goal.loop-path-init
loop-path-init c =
    let t = c.args.machine.now.state.service.plain in
    let many : c.len.result ≡ length c.in_ok-paths.paths.items = omega (arith, c.len.ensures, c.in_ok-paths.paths.ok) in
    let others : c.len-2.result ≡ length c.in_ok-sessions.sessions.items = omega (arith, c.len-2.ensures, c.in_ok-sessions.sessions.ok) in
    let nodes : c.len.result ≡ finite.len t.nodes = many ∙ len_keys t.nodes c.in_ok-paths.paths.items c.in_ok-paths.ensures.paths in
    let sessions : c.len-2.result ≡ finite.len t.sessions = others ∙ len_keys t.sessions c.in_ok-sessions.sessions.items c.in_ok-sessions.ensures in
    let changes : c.number.result ≡ t.zxid = c.number.ensures ∙ c.zxid.ensures in
    counting_all t _ c.into_iter-path-iterator.result.rest.items (c.into_iter-path-iterator.ensures.into_iter_gives.0 ∙ c.in_ok-paths.ensures.paths)
    (let lawful = c.in_ok-paths.ensures.settled.lawful in
    let few = lawful.few_nodes in
    let most = lawful.allowed.few_nodes in
    omega (arith, few, most))
    (λ i. record { nodes = nodes i; bytes = 0; ephemerals = 0; counters = 0; sessions = sessions i; changes = changes i; ticks = c.time.ensures i })

pub unreachable-requires : goal.unreachable-requires
unreachable-requires c =
    let t = c.args.machine.now.state.service.plain in
    let left = subst (IsCounting t c.loop-path.counts) c.in-Some.ensures.steps.0 c.loop-path.invariant in
    let there = counting_there t c.loop-path.counts c.in-Some.path c.next.new.self.rest.items left in
    let clash : false ≡ true = c.in_default.ensures.there ∙ is_there (get t.nodes c.in-Some.path) there.0 there.1 in
    cc clash

pub add-requires : goal.add-requires
add-requires c =
    let t = c.args.machine.now.state.service.plain in
    let left = subst (IsCounting t c.loop-path.counts) c.in-Some.ensures.steps.0 c.loop-path.invariant in
    counting_room t c.loop-path.counts c.in-Some.path c.next.new.self.rest.items left

pub loop-path-preserved : goal.loop-path-preserved
loop-path-preserved c =
    let t = c.args.machine.now.state.service.plain in
    let left = subst (IsCounting t c.loop-path.counts) c.in-Some.ensures.steps.0 c.loop-path.invariant in
    let found = rw c.in-Some-node.is at c.node.ensures.node in
    subst (λ d. IsCounting t d c.next.new.self.rest.items) (sym c.add.ensures.counted)
    (counting_next t c.loop-path.counts c.in-Some.path c.next.new.self.rest.items c.in-Some-node.node.now found c.add.ensures.short left)

pub loop-path-preserved-in-Some-node : goal.loop-path-preserved-in-Some-node
loop-path-preserved-in-Some-node c =
    let t = c.args.machine.now.state.service.plain in
    let left = subst (IsCounting t c.loop-path.counts) c.in-Some.ensures.steps.0 c.loop-path.invariant in
    let found = rw c.in-Some-node.is at c.node.ensures.node in
    subst (λ d. IsCounting t d c.next.new.self.rest.items) (sym c.add.ensures.counted)
    (counting_next t c.loop-path.counts c.in-Some.path c.next.new.self.rest.items c.in-Some-node.node.now found c.add.ensures.short left)
