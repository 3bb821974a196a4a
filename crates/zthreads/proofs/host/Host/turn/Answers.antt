use Rattle.std.proofs.Common.{◌≡◌, [], List, None, refl, sym, ap, ◌∙◌, subst, max}
use Rattle.std.proofs.lemmas.Option.{IfSome_then}
use Rattle.zactor.specs.declared.done.Done.{Done}
use Rattle.zactor.specs.declared.input.Input.TheVariants.{Hear}
use Rattle.zprotocol.specs.traces.Stamps.{next_stamp}
use Rattle.zthreads.specs.Endpoints.{Stands, IsSettled, pending, process_of, TreePost, TreeTaken}
use Rattle.zthreads.specs.Hosting.{Did}
use Rattle.zthreads.proofs.Hosted.{did_before, fits_still, hosted_at, hosted_still, learns_still, stamped_heard}
use Rattle.zthreads.proofs.Pending.{nothing_waits, pending_same}
use Rattle.zthreads.proofs.Wires.{same_books, same_endpoint}
use Rattle.zthreads.proofs.host.Host.turn.Goals as goal

pub invariant_of-self : goal.invariant_of-self
invariant_of-self g c =
    let t = c.args.self.now in
    record {
      hosted =
          hosted_still t.endpoint c.settle.new.self t.actor t.learnt t.front t.front c.settle.ensures.same t.hosted
          (c.settle.ensures.stands t.actor t.front t.hosted.at);
    }

pub invariant_of-self-in_default : goal.invariant_of-self-in_default
invariant_of-self-in_default g c =
    let t = c.args.self.now in
    let s = t.actor in
    let a = c.settle.new.self in
    let z = c.front_of.new.endpoint in
    let same = c.front_of.ensures.same in
    let taken = c.in_default.ensures.taken s (pending a) (c.settle.ensures.stands s t.front t.hosted.at) in
    record {
      hosted =
          hosted_still t.endpoint z s t.learnt t.front c.front_of.new.front (same_endpoint t.endpoint a z c.settle.ensures.same same.endpoint) t.hosted
          (subst (λ (x : TreeTaken). Stands z s x (pending z)) (sym c.front_of.ensures.front)
          (subst (λ (w : List TreePost). Stands z s None w) (sym (pending_same a z same.held same.out)) taken));
    }

pub hear-requires-clause-fits : goal.hear-requires-clause-fits
hear-requires-clause-fits g c =
    let t = c.args.self.now in
    let z = c.front_of.new.endpoint in
    fits_still t.endpoint z (same_endpoint t.endpoint c.settle.new.self z c.settle.ensures.same c.front_of.ensures.same.endpoint) t.actor t.hosted.fits

pub hear-requires-clause-next : goal.hear-requires-clause-next
hear-requires-clause-next g c below =
    let t = c.args.self.now in
    let z = c.front_of.new.endpoint in
    let same = same_endpoint t.endpoint c.settle.new.self z c.settle.ensures.same c.front_of.ensures.same.endpoint in
    stamped_heard (process_of z) z.stamp t.learnt c.in-Some.stamped.0 c.next_stamp-next.result (learns_still t.endpoint z same t.learnt t.hosted.reported)
    (c.next_stamp-next.ensures ∙ ap (λ n. next_stamp (max z.stamp n)) c.later.ensures) below

pub invariant_of-self-2 : goal.invariant_of-self-2
invariant_of-self-2 g c =
    let t = c.args.self.now in
    let s = t.actor in
    let a = c.settle.new.self in
    let z = c.front_of.new.endpoint in
    let b = c.hear.new.endpoint in
    let all : IsSettled a = c.settle.ensures.all c.if-not-settle.false in
    let settled : Stands a s t.front [] = subst (λ (w : List TreePost). Stands a s t.front w) (nothing_waits a all)
    (c.settle.ensures.stands s t.front t.hosted.at) in
    record {
      hosted =
          hosted_at t.endpoint b s c.hear.new.actor t.learnt t.front c.hear.new.front
          (same_endpoint t.endpoint a b c.settle.ensures.same (same_endpoint a z b c.front_of.ensures.same.endpoint c.hear.ensures.same)) t.hosted c.hear.ensures.fits
          (c.hear.ensures.stands (c.in-Some.ensures.taken s [] settled));
    }

pub returns-clause-received : goal.returns-clause-received
returns-clause-received g c =
    let t = c.args.self.now in
    let s = t.actor in
    let a = c.settle.new.self in
    let z = c.front_of.new.endpoint in
    let b = c.hear.new.endpoint in
    let m = c.in-Some.stamped.1 in
    let stamp = c.in-Some.stamped.0 in
    let next = c.next_stamp-next.result in
    let input = Hear c.in-Some.from m in
    let same = same_endpoint t.endpoint a z c.settle.ensures.same c.front_of.ensures.same.endpoint in
    let books = same_books t.endpoint a z c.settle.ensures.books c.front_of.ensures.same.books in
    let known = next_stamp (max t.endpoint.stamp (max t.learnt stamp)) in
    let same_next : next ≡ known = c.next_stamp-next.ensures ∙ ap (λ n. next_stamp (max n c.later.result)) books.stamp ∙ ap
    (λ n. next_stamp (max t.endpoint.stamp n)) c.later.ensures in
    IfSome_then c.hear.result c.hear.ensures.did
    (λ (done : Done) heard. (
      c.in-Some.from,
      (stamp, m),
      record {
        did = did_before t.endpoint z b same books s c.hear.new.actor input known done
            (subst (λ n. Did z s b c.hear.new.actor input n done) same_next heard.0);
        learnt = refl;
      },
      heard.1,
    ))
