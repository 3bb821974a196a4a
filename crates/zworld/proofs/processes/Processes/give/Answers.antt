use Rattle.std.proofs.Common.{◌<◌, List, length, set, subst, sym, ◌∙◌, arith}
use Rattle.zactor.specs.Acting.{TreeStanding}
use Rattle.zworld.specs.Held.{Held}
use Rattle.zworld.specs.support.Posting.{IsPosted}
use Rattle.zworld.specs.support.Standing.{IsFull}
use Rattle.zworld.proofs.FullThen.{counts_on, full_ended, full_posted}
use Rattle.zworld.proofs.Giving.{given_posted, given_ended}
use Rattle.zworld.proofs.processes.Processes.give.Goals as goal

-- what it sent is put on its channels
pub returns-clause-given : goal.returns-clause-given
returns-clause-given c =
    let held : Held = record { actors = c.self.inside.actors.items; links = c.self.inside.links } in
    let inside : c.place.result < length c.self.inside.actors.items = omega (arith, c.place.ensures.small, c.self.invariant.all) in
    given_posted c.args.self.now held c.args.process.now c.place.result c.index_mut.result.now c.act.new.self c.args.input c.in_ok-done.done
    c.self.inside.out c.act.new.out
    c.post.new.links c.self.view_is c.place.ensures.place inside c.self.invariant.all c.index_mut.ensures.value c.self.invariant.stand
    c.in_ok-done.ensures.acted
    c.self.invariant.sent (sym c.is_end.ensures ∙ c.if-is_end.false)
    (subst (λ (actors : List TreeStanding). IsPosted actors c.self.inside.links c.args.process.now c.act.new.out.posts c.post.new.links)
    c.deref.ensures.value c.in-Ok.ensures.posted)

-- or it has stopped
pub returns-then-is_end-clause-given : goal.returns-then-is_end-clause-given
returns-then-is_end-clause-given c =
    let held : Held = record { actors = c.self.inside.actors.items; links = c.self.inside.links } in
    let inside : c.place.result < length c.self.inside.actors.items = omega (arith, c.place.ensures.small, c.self.invariant.all) in
    given_ended c.args.self.now held c.args.process.now c.place.result c.index_mut.result.now c.act.new.self c.args.input c.in_ok-done.done
    c.self.inside.out c.act.new.out
    c.end.new.links c.self.view_is c.place.ensures.place inside c.self.invariant.all c.index_mut.ensures.value c.self.invariant.stand
    c.in_ok-done.ensures.acted
    (sym c.is_end.ensures ∙ c.if-is_end.true) c.end.ensures

-- it can be counted
pub waiting_after-self-inside-requires : goal.waiting_after-self-inside-requires
waiting_after-self-inside-requires c =
    let inside : c.place.result < length c.self.inside.actors.items = omega (arith, c.place.ensures.small, c.self.invariant.all) in
    counts_on c.self.inside.actors.items c.self.inside.links c.self.inside.waiting c.args.process.now c.place.result c.index_mut.result.now
    c.act.new.self c.args.input c.in_ok-done.done
    c.self.inside.out c.act.new.out c.self.invariant c.place.ensures.place inside c.index_mut.ensures.value c.in_ok-done.ensures.acted

-- all are there: where it has stopped
pub invariant_of-self-then-is_end : goal.invariant_of-self-then-is_end
invariant_of-self-then-is_end c =
    let inside : c.place.result < length c.self.inside.actors.items = omega (arith, c.place.ensures.small, c.self.invariant.all) in
    subst (λ n. IsFull (set c.self.inside.actors.items c.place.result c.act.new.self) c.end.new.links c.act.new.out.posts n)
    (sym c.waiting_after-self-inside.ensures)
    (full_ended c.self.inside.actors.items c.self.inside.links c.self.inside.waiting c.args.process.now c.place.result c.index_mut.result.now
    c.act.new.self c.args.input c.in_ok-done.done
    c.self.inside.out c.act.new.out c.self.invariant c.place.ensures.place inside c.index_mut.ensures.value c.in_ok-done.ensures.acted
    c.end.new.links (sym c.is_end.ensures ∙ c.if-is_end.true) c.end.ensures)

-- where there was no memory for what it sends
pub invariant_of-self-in_default : goal.invariant_of-self-in_default
invariant_of-self-in_default c =
    let inside : c.place.result < length c.self.inside.actors.items = omega (arith, c.place.ensures.small, c.self.invariant.all) in
    subst (λ n. IsFull (set c.self.inside.actors.items c.place.result c.act.new.self) c.post.new.links c.post.new.out.posts n)
    (sym c.waiting_after-self-inside.ensures)
    (full_posted c.self.inside.actors.items c.self.inside.links c.self.inside.waiting c.args.process.now c.place.result c.index_mut.result.now
    c.act.new.self c.args.input c.in_ok-done.done
    c.self.inside.out c.act.new.out c.self.invariant c.place.ensures.place inside c.index_mut.ensures.value c.in_ok-done.ensures.acted
    c.post.new.links c.post.new.out.posts c.in_default.ensures.notices c.in_default.ensures.emptied)

-- and where there was
pub invariant_of-self-2 : goal.invariant_of-self-2
invariant_of-self-2 c =
    let inside : c.place.result < length c.self.inside.actors.items = omega (arith, c.place.ensures.small, c.self.invariant.all) in
    subst (λ n. IsFull (set c.self.inside.actors.items c.place.result c.act.new.self) c.post.new.links c.post.new.out.posts n)
    (sym c.waiting_after-self-inside.ensures)
    (full_posted c.self.inside.actors.items c.self.inside.links c.self.inside.waiting c.args.process.now c.place.result c.index_mut.result.now
    c.act.new.self c.args.input c.in_ok-done.done
    c.self.inside.out c.act.new.out c.self.invariant c.place.ensures.place inside c.index_mut.ensures.value c.in_ok-done.ensures.acted
    c.post.new.links c.post.new.out.posts c.in-Ok.ensures.notices c.in-Ok.ensures.emptied)
