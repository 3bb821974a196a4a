use Rattle.std.proofs.Common.{◌<◌, ℕ, length, sym, ◌∙◌, arith}
use Rattle.std.proofs.lemmas.Result.{err_from_is_err_and}
use Rattle.std.specs.BinaryHeap.{heap_items}
use Rattle.zworld.specs.Steps.{world_in}
use Rattle.zprotocol.specs.traces.support.Places.{place_count}
use Rattle.zprotocol.proofs.traces_lemmas.Places.{code_replays, code_refuses, code_reads}
use Rattle.zaudit.proofs.Heaps.{holds_on}
use Rattle.zaudit.proofs.replaying.replay_next.Goals as goal

pub returns-in_err-replay_act-clause-disorder : goal.returns-in_err-replay_act-clause-disorder
returns-in_err-replay_act-clause-disorder c =
    let t = c.args.traces.now in
    let read = c.args.read.now in
    let best : ℕ × ℕ = (c.in-Some.place, c.in-Some.event.now.stamp) in
    let there : c.in-Some.place < length read = omega (arith, c.in-Some.ensures.next.0.0, c.requires.read) in
    let x = c.in-Some.event.now in
    let is = c.in-Some.ensures.next.1 in
    let refuses = code_refuses t read (world_in c.args.world.now) best x c.requires.replayed c.in-Some.ensures.next.0
    there is c.process_in.result c.process_in.ensures in
    let p = err_from_is_err_and c.from_residual.result c.from_residual.ensures.1 in
    rw p.1 (λ same. refuses (c.in_err-replay_act.ensures.disorder (sym p.2 ∙ same)))

pub returns-clause-replayed : goal.returns-clause-replayed
returns-clause-replayed c =
    let t = c.args.traces.now in
    let read = c.args.read.now in
    let best : ℕ × ℕ = (c.in-Some.place, c.in-Some.event.now.stamp) in
    let there : c.in-Some.place < length read = omega (arith, c.in-Some.ensures.next.0.0, c.requires.read) in
    let x = c.in-Some.event.now in
    let is = c.in-Some.ensures.next.1 in
    code_replays t read (world_in c.args.world.now) best x c.requires.replayed c.in-Some.ensures.next.0 there is
    c.process_in.result (world_in c.replay_act.new.world) c.process_in.ensures
    c.in_ok-replay_act.ensures.ok.0 c.in_ok-replay_act.ensures.ok.1

pub returns-clause-fewer : goal.returns-clause-fewer
returns-clause-fewer c more =
    let t = c.args.traces.now in
    let read = c.args.read.now in
    let best : ℕ × ℕ = (c.in-Some.place, c.in-Some.event.now.stamp) in
    let there : c.in-Some.place < length read = omega (arith, c.in-Some.ensures.next.0.0, c.requires.read) in
    let x = c.in-Some.event.now in
    let is = c.in-Some.ensures.next.1 in
    code_reads t read (world_in c.args.world.now) best x c.requires.replayed c.in-Some.ensures.next.0 there is

pub returns-clause-heads : goal.returns-clause-heads
returns-clause-heads c more =
    let t = c.args.traces.now in
    let next = c.in-Some.ensures.next in
    holds_on t c.args.read.now (place_count t) c.in-Some.place c.in-Some.event.now.stamp (heap_items c.args.heads.now)
    (heap_items c.next_event.new.heads)
    (heap_items c.put_head.new.heads) c.requires.heads next.0.0 next.0.1 next.2 c.in_ok-put_head.ensures.put
