use Rattle.std.proofs.Common.{◌≡◌, ◌≤◌, ◌-◌, suc, length, drop, sym, subst, ◌∙◌, arith}
use Rattle.std.proofs.lemmas.List.{drop_all}
use Rattle.std.specs.List.{AllByRecursion}
use Rattle.zworld.specs.links.support.Order.{IsBefore, is_before}
use Rattle.zworld.proofs.links_lemmas.Order.{before_is, from_is}
use Rattle.zworld.proofs.links_lemmas.Sorted.{sorted_from, one_more}
use Rattle.zworld.proofs.links.search.count_from.Goals as goal

pub loop-count-init : goal.loop-count-init
loop-count-init g c =
    let channels = c.args.queues.now in
    record {
      within = omega arith;
      before = subst (λ cs. AllByRecursion (λ queue. IsBefore queue c.args.from c.args.to) cs)
          (sym (drop_all (length channels) channels (omega arith))) tt;
    }

pub offset_bounds-queues-count : goal.offset_bounds-queues-count
offset_bounds-queues-count g c = omega (arith, c.loop-count.invariant.within)

pub bounds-queues-count : goal.bounds-queues-count
bounds-queues-count g c = omega (arith, c.loop-count.invariant.within, c.loop-count-test.true)

-- one that doesn't come before these positions: it and all in front of it are counted
pub returns-then-not-is_before : goal.returns-then-not-is_before
returns-then-not-is_before g c =
    let channels = c.args.queues.now in let queue = c.index-queues-count.result in let count = c.loop-count.count in
    let from = c.args.from in let to = c.args.to in
    let within : count ≤ length channels = search (c.loop-count.invariant.within) in
    let last : suc (count - 1) ≡ count = omega (arith, c.loop-count-test.true) in
    let tested : c.is_before.result ≡ is_before queue from to = search (c.is_before.ensures) in
    record {
      within = within;
      counted = sorted_from channels queue (count - 1) count last within c.index-queues-count.is from to c.requires
          (from_is queue from to (sym tested ∙ c.if-not-is_before.true));
      before = c.loop-count.invariant.before;
    }

-- one more that does
pub loop-count-preserved : goal.loop-count-preserved
loop-count-preserved g c =
    let channels = c.args.queues.now in let queue = c.index-queues-count.result in let count = c.loop-count.count in
    let from = c.args.from in let to = c.args.to in
    let within : count ≤ length channels = search (c.loop-count.invariant.within) in
    let last : suc (count - 1) ≡ count = omega (arith, c.loop-count-test.true) in
    let tested : c.is_before.result ≡ is_before queue from to = search (c.is_before.ensures) in
    record {
      within = omega (arith, within);
      before = one_more channels queue (count - 1) count last within c.index-queues-count.is from to
          (before_is queue from to (sym tested ∙ c.if-not-is_before.false)) c.loop-count.invariant.before;
    }

-- all come before them
pub returns : goal.returns
returns g c =
    let none : c.loop-count.count ≡ 0 = omega (arith, c.loop-count-test.false) in
    record {
      within = omega arith;
      counted = tt;
      before = subst (λ n. AllByRecursion (λ queue. IsBefore queue c.args.from c.args.to) (drop n c.args.queues.now)) none
          c.loop-count.invariant.before;
    }
