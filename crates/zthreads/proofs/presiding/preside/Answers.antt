use Rattle.std.proofs.Common.{[], sym, subst, ap, ◌∙◌}
use Rattle.zchannels.specs.Console.{said, taken_of}
use Rattle.zchannels.specs.Outcomes.{AreSaid}
use Rattle.zchannels.proofs.Same.{same_inbox}
use Rattle.zthreads.specs.Endpoints.{trace_of}
use Rattle.zthreads.proofs.Wires.{same_endpoint}
use Rattle.zthreads.specs.Acts.{HasFollowed, orders_in}
use Rattle.zthreads.specs.Outcomes.{unfollowed, unsaid}
use Rattle.zthreads.specs.Said.{spoken, WereSaid}
use Rattle.zthreads.proofs.Outcomes.{few_unsaid, said_same}
use Rattle.zthreads.proofs.Said.{all_still_said, words_said}
use Rattle.zthreads.proofs.presiding.preside.Goals as goal

pub loop-preserved : goal.loop-preserved
loop-preserved g c =
    let i = c.loop.invariant in
    let start = c.args.chief.host.endpoint in
    let a = c.loop.chief.host.endpoint in
    let m = c.go_round.new.host.endpoint in
    let b = c.obey-owed.new.chief.host.endpoint in
    let old = c.loop.inbox in
    let flushed = c.flush.new.self in
    let taken = c.next_order-owed.new.inbox in
    let reported = c.say-owed.new.inbox in
    let round = c.go_round.ensures in
    let next = c.next_order-owed in
    let obeyed = c.obey-owed in
    let say = c.say-owed in
    let first = c.args.inbox in (
      same_endpoint start m b (same_endpoint start a m i.0 round.went.same) obeyed.ensures.same,
      round.seat,
      same_inbox first taken reported (same_inbox first flushed taken (same_inbox first old flushed i.2 c.flush.ensures.ends) next.ensures.ends)
          say.ensures.ends,
      λ before cut.
          say.ensures.taken
          ∙ subst (λ o. HasFollowed b (taken_of taken) o) (sym say.ensures.followed)
          (obeyed.ensures.followed (taken_of taken)
          (λ whole. next.ensures.taken (orders_in (trace_of m)) (c.flush.ensures.taken
          ∙ round.went.orders (taken_of old) (unfollowed c.loop.owed) (i.3 before) whole)))
          cut,
      λ before.
          say.ensures.said
          (subst (λ orders. AreSaid taken orders) (sym obeyed.ensures.unsaid)
          (next.ensures.said (said_same old flushed (unsaid c.loop.owed) c.flush.ensures.taken c.flush.ensures.said (i.4 before)))),
      λ followed are were.
          let on = all_still_said a m [] (spoken (said old) c.loop.owed) round.went.same round.went.goes (i.5 followed are were) in
          let words = next.ensures.words ∙ ap (λ os. spoken os c.loop.owed) c.flush.ensures.said in
          let now_are = next.ensures.said (said_same old flushed (unsaid c.loop.owed) c.flush.ensures.taken c.flush.ensures.said (i.4 are)) in
          subst (λ os. WereSaid b [] os) (sym say.ensures.words)
          (obeyed.ensures.said (said taken)
          (λ whole. sym now_are ∙ next.ensures.taken (orders_in (trace_of m)) (c.flush.ensures.taken
          ∙ round.went.orders (taken_of old) (unfollowed c.loop.owed) (i.3 followed) whole))
          (subst (λ os. WereSaid m [] os) (sym words) on)),
    )

pub returns-in_default-clause-orders : goal.returns-in_default-clause-orders
returns-in_default-clause-orders g c before =
    (unfollowed c.loop.owed, c.go_round.ensures.went.orders (taken_of c.loop.inbox) (unfollowed c.loop.owed) (c.loop.invariant.3 before))

pub returns-in_default-clause-outcomes : goal.returns-in_default-clause-outcomes
returns-in_default-clause-outcomes g c before = (unsaid c.loop.owed, few_unsaid c.loop.owed, c.loop.invariant.4 before)

pub returns-in_default-clause-said : goal.returns-in_default-clause-said
returns-in_default-clause-said g c followed are were =
    let a = c.loop.chief.host.endpoint in
    let m = c.go_round.new.host.endpoint in
    let round = c.go_round.ensures.went in
    let outcomes = said c.loop.inbox in
    words_said m outcomes c.loop.owed
    (all_still_said a m [] (spoken outcomes c.loop.owed) round.same round.goes (c.loop.invariant.5 followed are were))
