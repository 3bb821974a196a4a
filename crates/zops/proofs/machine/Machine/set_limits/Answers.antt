use Rattle.zops.proofs.Limited.{limited-sound}
use Rattle.zops.proofs.machine.Machine.set_limits.Goals as goal

pub invariant_of-self : goal.invariant_of-self
invariant_of-self c =
    let s = c.self.inside in
    let set = c.set_limits in
    limited-sound s.store set.new.self s.applied s.is_broken c.args.limits set.result c.self.invariant
    set.ensures.tree set.ensures.same set.ensures.fits set.ensures.err
