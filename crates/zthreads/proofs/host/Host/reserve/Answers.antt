use Rattle.std.proofs.Common.{sym, subst}
use Rattle.zthreads.specs.Endpoints.{Stands, pending}
use Rattle.zthreads.proofs.Hosted.{hosted_still}
use Rattle.zthreads.proofs.Pending.{pending_same}
use Rattle.zthreads.proofs.host.Host.reserve.Goals as goal

pub invariant_of-self : goal.invariant_of-self
invariant_of-self c =
    let t = c.args.self.now in
    let d = c.reserve.new.self in
    let same = c.reserve.ensures.same in
    record {
      hosted =
          hosted_still t.endpoint d t.actor t.learnt t.front t.front same.endpoint t.hosted
          (subst (λ w. Stands d t.actor t.front w) (sym (pending_same t.endpoint d same.held same.out))
          (c.reserve.ensures.keeps t.actor t.front (pending t.endpoint) t.hosted.at));
    }
