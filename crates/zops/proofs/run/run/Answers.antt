use Rattle.std.proofs.Common.{◌≡◌, ◌+◌, ◌*◌, [], ◌∷◌, ◌++◌, ◌<◌, ◌^◌, Err, List, ℕ, length, drop, get_or, ap, sym, subst, ◌∙◌, arith}
use Rattle.std.proofs.lemmas.List.{length-append, drop_more, drop_all}
use Rattle.zcalls.specs.declared.call.Part.{Part}
use Rattle.zcalls.specs.declared.limits.TheConstants.{MAX_RAISES}
use Rattle.zcalls.specs.support.Alone.{ChangesNodesAlone}
use Rattle.zcalls.specs.Multi.{run}
use Rattle.zcalls.proofs.Bounds.{IsWithinAll, part_roomy, within_more, has_room}
use Rattle.zcalls.proofs.Leaving.{Leaves}
use Rattle.zcalls.proofs.NodesAlone.{alone_itself, part-alone, alone_then}
use Rattle.zcalls.proofs.Runs.{behind_all, run-start, run-part, run-refused, run-end}
use Rattle.zstore.specs.StoreView.{StoreView}
use Rattle.zops.specs.support.Ready.{HasMark}
use Rattle.zops.proofs.Marks.{mark_fewer}
use Rattle.zops.proofs.run.run.Goals as goal

-- the parts that are left are this one, and those after it
next : (parts : List Part) (at : ℕ) (part : Part) → at < length parts → part ≡ get_or parts at part → drop at parts ≡ part ∷ drop (at + 1) parts
next parts at part l is = drop_more parts at part l ∙ ap (λ p. p ∷ drop (at + 1) parts) (sym is)

pub loop-wanted-init : goal.loop-wanted-init
loop-wanted-init c =
    let t = c.args.store.now.tree in
    let none = c.in_ok-replies.ensures.items in
    let no_length = ap length none in
    record {
      ran = run-start (run t c.args.client c.args.parts.now) ∙ (λ i. behind_all (sym none i) (run t c.args.client c.args.parts.now));
      within = λ path n e. within_more _ _ n (omega arith) (c.requires.ready.steady.bounded.counters path n e);
      stays = alone_itself t;
      count = omega (arith, no_length);
      given = omega arith;
      mark = λ m has. has;
    }

pub part-requires : goal.part-requires
part-requires c =
    let here = c.loop-wanted.invariant in
    let bounded = c.requires.ready.steady.bounded in
    let steps = ap length (next c.args.parts.now c.loop-wanted.wanted-index c.wanted-item.result c.loop-wanted-test.true c.wanted-item.is) in
    let few : MAX_RAISES * c.args.store.now.tree.zxid + length c.loop-wanted.replies.items + 1 < 2 ^ 62 = omega (arith, here.count, c.requires.few, bounded.zxid) in
    record {
      ready = record {
        counters = λ path n e. has_room (MAX_RAISES * c.args.store.now.tree.zxid + length c.loop-wanted.replies.items) n few (here.within path n e);
        zxid = rw here.stays.zxid c.requires.ready.zxid;
        given = let left = c.requires.ready.steady.given in let more = here.given in omega (arith, steps, here.count, c.requires.few, left, more);
      };
    }

pub loop-wanted-preserved : goal.loop-wanted-preserved
loop-wanted-preserved c =
    let old = c.args.store.now.tree in
    let before = c.loop-wanted.store.tree in
    let here = c.loop-wanted.invariant in
    let wanted = c.wanted-item.result in
    let rest = drop (c.loop-wanted.wanted-index + 1) c.args.parts.now in
    let replies = c.loop-wanted.replies.items in
    let steps = next c.args.parts.now c.loop-wanted.wanted-index wanted c.loop-wanted-test.true c.wanted-item.is in
    let did = c.in-Ok.ensures.done.step_is in
    let pushed : c.push.new.self.items ≡ replies ++ c.in-Ok.reply ∷ [] = c.in_ok-push-in-Ok.ensures.items in
    let longer : length c.push.new.self.items ≡ length replies + 1 = ap length pushed ∙ length-append replies (c.in-Ok.reply ∷ []) in
    let shorter = ap length steps in
    let roomy = subst (Leaves (IsWithinAll _)) did (part_roomy _ before c.args.client wanted here.within) in
    let alone = subst (Leaves (ChangesNodesAlone before)) did (part-alone before c.args.client wanted) in
    record {
      ran = here.ran
          ∙ ap (λ parts. behind_all replies (run before c.args.client parts)) steps
          ∙ run-part before c.part.new.store.tree c.args.client replies wanted rest c.in-Ok.reply did
          ∙ ap (λ replies. behind_all replies (run c.part.new.store.tree c.args.client rest)) (sym pushed);
      within = λ path n e. within_more _ _ n (omega (arith, longer)) (roomy path n e);
      stays = alone_then old before c.part.new.store.tree here.stays alone;
      count = omega (arith, longer, shorter, here.count);
      given = let one = c.in-Ok.ensures.done.given in omega (arith, longer, one, here.given);
      mark = λ m has. c.in-Ok.ensures.done.mark (length rest) m (subst (λ n. HasMark n m c.loop-wanted.store) (shorter ∙ omega arith) (here.mark m has));
    }

pub returns-in-Err-Refused-clause-stopped : goal.returns-in-Err-Refused-clause-stopped
returns-in-Err-Refused-clause-stopped c =
    let here = c.loop-wanted.invariant in
    let wanted = c.wanted-item.result in
    let rest = drop (c.loop-wanted.wanted-index + 1) c.args.parts.now in
    let steps = next c.args.parts.now c.loop-wanted.wanted-index wanted c.loop-wanted-test.true c.wanted-item.is in
    let stopped = rw c.in-Err-Refused.field-0-is at c.in-Err-Refused.ensures.stopped in
    here.ran
    ∙ ap (λ parts. behind_all c.loop-wanted.replies.items (run c.loop-wanted.store.tree c.args.client parts)) steps
    ∙ run-refused c.loop-wanted.store.tree c.args.client c.loop-wanted.replies.items wanted rest _ stopped
    ∙ rw c.in-Err-Refused.field-0-is (λ i. Err (sym (c.len.ensures ∙ c.loop-wanted.replies.ok.0) i + 1, c.in-Err-Refused.refusal))

pub returns-clause-done : goal.returns-clause-done
returns-clause-done c =
    let here = c.loop-wanted.invariant in
    let ended = drop_all c.loop-wanted.wanted-index c.args.parts.now c.loop-wanted-test.false in
    here.ran ∙ ap (λ parts. behind_all c.loop-wanted.replies.items (run c.loop-wanted.store.tree c.args.client parts)) ended ∙ run-end c.loop-wanted.store.tree c.args.client c.loop-wanted.replies.items

pub returns-clause-stays : goal.returns-clause-stays
returns-clause-stays c =
    let here = c.loop-wanted.invariant in
    let few = c.requires.few in
    let count = here.count in
    record {
      alone = here.stays;
      within = λ path n e. within_more _ _ n (omega (arith, few, count)) (here.within path n e);
    }

pub returns-in_err-push-in-Ok-clause-mark : goal.returns-in_err-push-in-Ok-clause-mark
returns-in_err-push-in-Ok-clause-mark c = λ m has.
    let rest = drop (c.loop-wanted.wanted-index + 1) c.args.parts.now in
    let steps = next c.args.parts.now c.loop-wanted.wanted-index c.wanted-item.result c.loop-wanted-test.true c.wanted-item.is in
    let left : length (drop c.loop-wanted.wanted-index c.args.parts.now) ≡ length rest + 1 = ap length steps ∙ omega arith in
    mark_fewer (length rest) 0 m c.part.new.store (omega arith) (c.in-Ok.ensures.done.mark (length rest) m (subst (λ n. HasMark n m c.loop-wanted.store) left (c.loop-wanted.invariant.mark m has)))

pub returns-in-Err-Refused-clause-mark : goal.returns-in-Err-Refused-clause-mark
returns-in-Err-Refused-clause-mark c = λ m has.
    let left = length (drop c.loop-wanted.wanted-index c.args.parts.now) in
    mark_fewer left 0 m c.part.new.store (omega arith) (subst (λ (s : StoreView). HasMark left m s) (sym c.in-Err-Refused.ensures.same) (c.loop-wanted.invariant.mark m has))

pub returns-in-Err-Memory-clause-mark : goal.returns-in-Err-Memory-clause-mark
returns-in-Err-Memory-clause-mark c = λ m has.
    let left = length (drop c.loop-wanted.wanted-index c.args.parts.now) in
    mark_fewer left 0 m c.part.new.store (omega arith) (subst (λ (s : StoreView). HasMark left m s) (sym c.in-Err-Memory.ensures.same) (c.loop-wanted.invariant.mark m has))

pub returns-clause-mark : goal.returns-clause-mark
returns-clause-mark c = λ m has.
    mark_fewer (length (drop c.loop-wanted.wanted-index c.args.parts.now)) 0 m c.loop-wanted.store (omega arith) (c.loop-wanted.invariant.mark m has)

pub returns-in_err-replies-clause-mark : goal.returns-in_err-replies-clause-mark
returns-in_err-replies-clause-mark c = λ m has. mark_fewer (length c.args.parts.now) 0 m c.args.store.now (omega arith) has
