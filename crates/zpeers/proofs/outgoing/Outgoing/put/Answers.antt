use Rattle.std.proofs.Common.{ap, ◌∙◌}
use Rattle.std.proofs.Math.ListN.{length-set}
use Rattle.zpeers.proofs.Receivers.{put_back}
use Rattle.zpeers.proofs.Outs.{on_ok, on_err, view_of, put_last, others_wait, records_after}
use Rattle.zpeers.proofs.outgoing.Outgoing.put.Goals as goal

pub invariant_of-self : goal.invariant_of-self
invariant_of-self c = length-set c.self.inside.queues.items c.place.result c.put.new.self ∙ c.self.invariant

pub returns-clause-waits : goal.returns-clause-waits
returns-clause-waits c =
    on_ok c.put.result _ _ c.put.ensures.ok (λ put.
    put_last c.args.self.now c.self.inside.queues.items c.self.view_is c.place.result c.args.to c.place.ensures.place c.place.ensures.small
    c.self.invariant c.index_mut.result.now c.index_mut.ensures.value c.put.new.self c.args.message put)

pub returns-clause-records : goal.returns-clause-records
returns-clause-records c =
    on_ok c.put.result _ _ c.put.ensures.ok (λ put own.
    records_after c.args.self.now _ own c.args.to c.args.message
    (put_last c.args.self.now c.self.inside.queues.items c.self.view_is c.place.result c.args.to c.place.ensures.place c.place.ensures.small
    c.self.invariant c.index_mut.result.now c.index_mut.ensures.value c.put.new.self c.args.message put))

pub returns-clause-others : goal.returns-clause-others
returns-clause-others c =
    others_wait c.args.self.now c.self.inside.queues.items c.self.view_is c.place.result c.args.to c.place.ensures.place c.place.ensures.small
    c.self.invariant c.index_mut.result.now c.index_mut.ensures.value c.put.new.self

pub returns-clause-err : goal.returns-clause-err
returns-clause-err c =
    on_err c.put.result _ _ c.put.ensures.err (λ same.
    ap view_of (put_back c.self.inside.queues.items c.place.result c.index_mut.result.now c.put.new.self same c.index_mut.ensures.value)
    ∙ c.self.view_is)
