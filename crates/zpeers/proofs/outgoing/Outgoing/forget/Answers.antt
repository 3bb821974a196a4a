use Rattle.std.proofs.Common.{[], ◌∙◌}
use Rattle.std.proofs.Math.ListN.{length-set}
use Rattle.zpeers.proofs.Receivers.{new_is}
use Rattle.zpeers.proofs.Outs.{others_wait}
use Rattle.zpeers.proofs.outgoing.Outgoing.forget.Goals as goal

pub invariant_of-self : goal.invariant_of-self
invariant_of-self c = length-set c.self.inside.queues.items c.place.result c.clear.new.self ∙ c.self.invariant

pub returns-clause-none : goal.returns-clause-none
returns-clause-none c =
    new_is [] c.self.inside.queues.items c.place.result c.args.to c.place.ensures.place c.place.ensures.small c.self.invariant c.clear.new.self
    ∙ c.clear.ensures

pub returns-clause-others : goal.returns-clause-others
returns-clause-others c =
    others_wait c.args.self.now c.self.inside.queues.items c.self.view_is c.place.result c.args.to c.place.ensures.place c.place.ensures.small
    c.self.invariant c.index_mut.result.now c.index_mut.ensures.value c.clear.new.self
