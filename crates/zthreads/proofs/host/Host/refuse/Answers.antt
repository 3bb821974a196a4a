use Rattle.std.proofs.Common.{[], List, None, refl, sym, ◌∙◌, subst}
use Rattle.zprotocol.specs.declared.traces.trace.Act.TheVariants.{Ordered}
use Rattle.zthreads.specs.Endpoints.{IsEvent, Stands, IsSettled, process_of, TreePost}
use Rattle.zthreads.proofs.ActorRows.{master_refuses}
use Rattle.zthreads.proofs.Entered.{entered_before, is_entered}
use Rattle.zthreads.proofs.Hosted.{hosted_still, stamped_given}
use Rattle.zthreads.proofs.Pending.{nothing_waits, pending_same}
use Rattle.zthreads.proofs.Wires.{same_endpoint}
use Rattle.zthreads.proofs.host.Host.refuse.Goals as goal

pub invariant_of-self : goal.invariant_of-self
invariant_of-self c =
    let t = c.args.self.now in
    record {
      hosted =
          hosted_still t.endpoint c.settle.new.self t.actor t.learnt t.front t.front c.settle.ensures.same t.hosted
          (c.settle.ensures.stands t.actor t.front t.hosted.at);
    }

pub invariant_of-self-2 : goal.invariant_of-self-2
invariant_of-self-2 c =
    let t = c.args.self.now in
    let s = t.actor in
    let a = c.settle.new.self in
    let b = c.enter.new.self in
    let order = c.args.order.now in
    let next = c.next_stamp-stamp.result in
    let all : IsSettled a = c.settle.ensures.all c.if-not-settle.false in
    let rest = c.enter.ensures.rest in
    let settled : Stands a s t.front [] = subst (λ (w : List TreePost). Stands a s t.front w) (nothing_waits a all)
    (c.settle.ensures.stands s t.front t.hosted.at) in
    let stands = c.enter.ensures.beside s s t.front [] settled
    (λ below. subst (λ p. IsEvent p a.stamp s None (Ordered order) next s [] []) (sym c.settle.ensures.same.me)
    (master_refuses (process_of t.endpoint) a.stamp s order next c.requires
    (stamped_given (process_of t.endpoint) a.stamp t.learnt next t.hosted.reported c.next_stamp-stamp.ensures below))) in
    record {
      hosted =
          hosted_still t.endpoint b s t.learnt t.front t.front (same_endpoint t.endpoint a b c.settle.ensures.same c.enter.ensures.same) t.hosted
          (subst (λ (w : List TreePost). Stands b s t.front w) (sym (pending_same a b rest.0 rest.1 ∙ nothing_waits a all)) stands);
    }

pub returns-clause-refused : goal.returns-clause-refused
returns-clause-refused c is =
    let t = c.args.self.now in
    let a = c.settle.new.self in
    let b = c.enter.new.self in
    record {
      stands = refl;
      entered = λ whole.
          is_entered t.endpoint b c.next_stamp-stamp.result (Ordered c.args.order.now) (Ordered c.args.order.now) [] []
          (entered_before t.endpoint a b c.settle.ensures.books (record { stamp = c.next_stamp-stamp.result; act = Ordered c.args.order.now }) []
          (c.enter.ensures.entered whole)) refl refl;
    }
