use Rattle.std.proofs.Common.{ap, ◌∙◌}
use Rattle.std.proofs.Math.ListN.{length-set}
use Rattle.zpeers.proofs.Receivers.{put_back}
use Rattle.zpeers.proofs.Outs.{if_ok, if_err}
use Rattle.zpeers.proofs.Ins.{view_of, others_arrive, accepts, refuses}
use Rattle.zpeers.proofs.incoming.Incoming.take.Goals as goal

pub invariant_of-self : goal.invariant_of-self
invariant_of-self c = length-set c.self.inside.slots.items c.place.result c.take_at.new.slot ∙ c.self.invariant

pub returns-clause-accepted : goal.returns-clause-accepted
returns-clause-accepted c =
    if_ok c.take_at.result _ _ c.take_at.ensures.accepted (λ it so.
    accepts c.args.self.now c.self.inside.slots.items c.self.view_is c.place.result c.args.from c.place.ensures.place c.place.ensures.small
    c.self.invariant c.index_mut.result.now c.index_mut.ensures.value c.args.own (record { tag = c.args.tag; bytes = c.args.bytes.now })
    c.take_at.new.slot it so)

pub returns-clause-others : goal.returns-clause-others
returns-clause-others c =
    others_arrive c.args.self.now c.self.inside.slots.items c.self.view_is c.place.result c.args.from c.place.ensures.place c.place.ensures.small
    c.self.invariant c.index_mut.result.now c.index_mut.ensures.value c.take_at.new.slot

pub returns-clause-fault : goal.returns-clause-fault
returns-clause-fault c =
    if_err c.take_at.result _ _ c.take_at.ensures.fault (λ fault so.
    refuses c.args.self.now c.self.inside.slots.items c.self.view_is c.place.result c.args.from c.place.ensures.place c.place.ensures.small
    c.self.invariant c.index_mut.result.now c.index_mut.ensures.value c.args.own (record { tag = c.args.tag; bytes = c.args.bytes.now }) fault so)

pub returns-clause-same : goal.returns-clause-same
returns-clause-same c =
    if_err c.take_at.result _ _ c.take_at.ensures.same (λ fault so other.
    ap view_of (put_back c.self.inside.slots.items c.place.result c.index_mut.result.now c.take_at.new.slot (so other) c.index_mut.ensures.value)
    ∙ c.self.view_is)
