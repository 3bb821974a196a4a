use Rattle.std.proofs.Common.{None, ◌∙◌}
use Rattle.std.proofs.Math.ListN.{length-set}
use Rattle.zpeers.proofs.Receivers.{new_is}
use Rattle.zpeers.proofs.Ins.{others_arrive}
use Rattle.zpeers.proofs.incoming.Incoming.forget.Goals as goal

pub invariant_of-self : goal.invariant_of-self
invariant_of-self c = length-set c.self.inside.slots.items c.place.result None ∙ c.self.invariant

pub returns-clause-none : goal.returns-clause-none
returns-clause-none c =
    new_is None c.self.inside.slots.items c.place.result c.args.from c.place.ensures.place c.place.ensures.small c.self.invariant None

pub returns-clause-others : goal.returns-clause-others
returns-clause-others c =
    others_arrive c.args.self.now c.self.inside.slots.items c.self.view_is c.place.result c.args.from c.place.ensures.place c.place.ensures.small
    c.self.invariant c.index_mut.result.now c.index_mut.ensures.value None
