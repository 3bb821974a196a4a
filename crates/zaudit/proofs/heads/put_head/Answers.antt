use Rattle.std.proofs.Common.{ap, ◌+◌, ◌∙◌}
use Rattle.std.proofs.lemmas.List.Sorted.{sum_by_pushed}
use Rattle.std.specs.BinaryHeap.{heap_items}
use Rattle.zaudit.specs.support.Heads.{Head, count_of, count_at}
use Rattle.zaudit.proofs.heads.put_head.Goals as goal

pub returns-in_ok-push-clause-put : goal.returns-in_ok-push-clause-put
returns-in_ok-push-clause-put c = λ f.
    sum_by_pushed (λ (head : Head). f head.0) _ (heap_items c.args.heads.now) (heap_items c.push.new.self) c.in_ok-push.ensures.permutation
    ∙ ap (λ h. count_at f c.args.place h + count_of f (heap_items c.args.heads.now)) c.in-Some.ensures
