use Rattle.std.proofs.Common.{sym, subst}
use Rattle.zthreads.specs.Endpoints.{Stands, pending}
use Rattle.zthreads.proofs.Hosted.{hosted_still}
use Rattle.zthreads.proofs.Pending.{pending_same}
use Rattle.zthreads.proofs.Wires.{same_endpoint}
use Rattle.zthreads.proofs.host.Host.flush.Goals as goal

pub invariant_of-self : goal.invariant_of-self
invariant_of-self c =
    let t = c.args.self.now in
    let a = c.settle.new.self in
    let d = c.flush.new.self in
    let same = c.flush.ensures.same in
    record {
      hosted =
          hosted_still t.endpoint d t.actor t.learnt t.front t.front (same_endpoint t.endpoint a d c.settle.ensures.same same.endpoint) t.hosted
          (subst (λ w. Stands d t.actor t.front w) (sym (pending_same a d same.held same.out))
          (c.flush.ensures.keeps t.actor t.front (pending a) (c.settle.ensures.stands t.actor t.front t.hosted.at)));
    }
