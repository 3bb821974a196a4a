use Rattle.std.proofs.Common.{◌≡◌, List, ◌∷◌, Option, ap, subst, sym, ◌∙◌}
use Rattle.zpeers.specs.Outgoing.{WaitingView}
use Rattle.zpeers.specs.support.Waiting.{queue_of, IsQueueWritten}
use Rattle.zpeers.proofs.Waits.{queue_is, queue_last}
use Rattle.zpeers.proofs.queue.Queue.write_next.Goals as goal

pub returns-then-not-more-clause-some : goal.returns-then-not-more-clause-some
returns-then-not-more-clause-some c = λ yes_some.
    let others = c.self.inside.others.items in
    let left = c.pop_front-next.new.self.items in
    let new = queue_of c.replace.new.dest left in
    let same : new ≡ others =
    ap (λ (o : Option WaitingView). queue_of o left) c.replace.ensures.after ∙ sym (queue_is c.pop_front-next.result left)
    ∙ sym c.pop_front-next.ensures.items in
    let old : c.in-Some.first ∷ others ≡ c.args.self.now =
    ap (λ (o : Option WaitingView). queue_of o others) (sym c.in-Some.is) ∙ c.self.view_is in
    subst (λ (q : List WaitingView). IsQueueWritten c.args.own c.args.to q new c.args.out.now.items c.write_next.new.out.items) old
    (queue_last c.args.own c.args.to c.in-Some.first others new c.args.out.now.items c.write_next.new.out.items
    (c.in_ok-more.ensures.last c.if-not-more.true) same)
