use Rattle.std.proofs.lemmas.List.Sorted.{sum_by_popped}
use Rattle.std.specs.BinaryHeap.{heap_items}
use Rattle.zaudit.specs.support.Heads.{Head}
use Rattle.zaudit.proofs.heads.take_first.Goals as goal

pub returns-in-Some-clause-first : goal.returns-in-Some-clause-first
returns-in-Some-clause-first c = (
  λ f. sum_by_popped (λ (head : Head). f head.0) c.in-Some.field-0 (heap_items c.args.heads.now) (heap_items c.pop.new.self)
      c.in-Some.ensures.permutation,
  (c.in-Some.ensures.heap_order c.requires).1,
)
