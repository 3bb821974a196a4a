use Rattle.std.proofs.Common.{List, ap, subst, sym, ◌∙◌}
use Rattle.std.proofs.Math.ListN.{length-set}
use Rattle.zpeers.specs.Outgoing.{WaitingView, IsFirstLong}
use Rattle.zpeers.proofs.Receivers.{put_back}
use Rattle.zpeers.proofs.Outs.{if_ok, if_err, on_err, view_of, waits, is_written}
use Rattle.zpeers.proofs.outgoing.Outgoing.write_next.Goals as goal

pub invariant_of-self : goal.invariant_of-self
invariant_of-self c = length-set c.self.inside.queues.items c.place.result c.write_next.new.self ∙ c.self.invariant

pub returns-clause-some : goal.returns-clause-some
returns-clause-some c =
    if_ok c.write_next.result _ _ c.write_next.ensures.some (λ some so yes.
    is_written c.args.self.now c.self.inside.queues.items c.self.view_is c.place.result c.args.to c.place.ensures.place c.place.ensures.small
    c.self.invariant c.index_mut.result.now c.index_mut.ensures.value c.args.own c.write_next.new.self _ _ (so yes))

pub returns-clause-none : goal.returns-clause-none
returns-clause-none c =
    if_ok c.write_next.result _ _ c.write_next.ensures.none (λ some so no.
    sym (waits c.args.self.now c.self.inside.queues.items c.self.view_is c.place.result c.args.to c.place.ensures.place c.place.ensures.small
    c.self.invariant c.index_mut.result.now c.index_mut.ensures.value) ∙ so no)

pub returns-clause-same : goal.returns-clause-same
returns-clause-same c =
    if_ok c.write_next.result _ _ c.write_next.ensures.same (λ some so no.
    ap view_of (put_back c.self.inside.queues.items c.place.result c.index_mut.result.now c.write_next.new.self (so no) c.index_mut.ensures.value)
    ∙ c.self.view_is)

pub returns-clause-long : goal.returns-clause-long
returns-clause-long c =
    if_err c.write_next.result _ _ c.write_next.ensures.long (λ error so.
    subst (λ (q : List WaitingView). IsFirstLong c.args.own c.args.to q error)
    (waits c.args.self.now c.self.inside.queues.items c.self.view_is c.place.result c.args.to c.place.ensures.place c.place.ensures.small
    c.self.invariant c.index_mut.result.now c.index_mut.ensures.value) so)

pub returns-clause-err : goal.returns-clause-err
returns-clause-err c =
    on_err c.write_next.result _ _ c.write_next.ensures.err (λ same.
    ap view_of (put_back c.self.inside.queues.items c.place.result c.index_mut.result.now c.write_next.new.self same c.index_mut.ensures.value)
    ∙ c.self.view_is)
