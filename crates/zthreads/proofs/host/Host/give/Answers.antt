use Rattle.std.proofs.Common.{◌≡◌, [], List, refl, sym, ap, ◌∙◌, subst, max}
use Rattle.std.proofs.lemmas.Result.{IfErr-weaker, IfOk-weaker}
use Rattle.std.specs.Option.{option_map}
use Rattle.zactor.specs.declared.act_fault.ActFault.{ActFault}
use Rattle.zactor.specs.declared.done.Done.{Done}
use Rattle.zprotocol.specs.traces.Deeds.{IsStamped, stamp_of}
use Rattle.zprotocol.specs.traces.Stamps.{next_stamp}
use Rattle.zthreads.specs.Endpoints.{Stands, IsSettled, process_of, TreePost, TreeTaken}
use Rattle.zthreads.specs.Hosting.{Did, DidNot}
use Rattle.zthreads.specs.Hosts.{host_stamp}
use Rattle.zthreads.proofs.Hosted.{did_before, fits_still, hosted_at, hosted_still, learns_still, none_taken, stamped_given}
use Rattle.zthreads.proofs.Hosted.{stands_given}
use Rattle.zthreads.proofs.Pending.{nothing_waits}
use Rattle.zthreads.proofs.Wires.{same_books, same_endpoint}
use Rattle.zthreads.proofs.host.Host.give.Goals as goal

pub invariant_of-self : goal.invariant_of-self
invariant_of-self c =
    let t = c.args.self.now in
    record {
      hosted =
          hosted_still t.endpoint c.settle.new.self t.actor t.learnt t.front t.front c.settle.ensures.same t.hosted
          (c.settle.ensures.stands t.actor t.front t.hosted.at);
    }

pub act-done-requires-clause-fits : goal.act-done-requires-clause-fits
act-done-requires-clause-fits c = let t = c.args.self.now in fits_still t.endpoint c.settle.new.self c.settle.ensures.same t.actor t.hosted.fits

pub act-done-requires-clause-next : goal.act-done-requires-clause-next
act-done-requires-clause-next c below =
    let t = c.args.self.now in
    let a = c.settle.new.self in
    let next = c.next_stamp-next.result in
    let none = none_taken c.args.input c.zero.result c.requires in
    subst (λ (x : TreeTaken). IsStamped (process_of a) a.stamp (stamp_of (option_map (λ y. y.1) x)) next) (sym none)
    (stamped_given (process_of a) a.stamp t.learnt next
    (learns_still t.endpoint a c.settle.ensures.same t.learnt t.hosted.reported) c.next_stamp-next.ensures below)

pub invariant_of-self-2 : goal.invariant_of-self-2
invariant_of-self-2 c =
    let t = c.args.self.now in
    let a = c.settle.new.self in
    let b = c.act-done.new.endpoint in
    let all : IsSettled a = c.settle.ensures.all c.if-not-settle.false in
    let settled : Stands a t.actor t.front [] = subst (λ (w : List TreePost). Stands a t.actor t.front w) (nothing_waits a all)
    (c.settle.ensures.stands t.actor t.front t.hosted.at) in
    record {
      hosted =
          hosted_at t.endpoint b t.actor c.act-done.new.actor t.learnt t.front t.front
          (same_endpoint t.endpoint a b c.settle.ensures.same c.act-done.ensures.same) t.hosted c.act-done.ensures.fits
          (stands_given a b t.actor c.act-done.new.actor c.args.input c.zero.result t.front c.act-done.result c.requires c.act-done.ensures.goes c.act-done.ensures.undone
          settled);
    }

pub returns-clause-gave : goal.returns-clause-gave
returns-clause-gave c =
    let t = c.args.self.now in
    let a = c.settle.new.self in
    let b = c.act-done.new.endpoint in
    let new = c.act-done.new.actor in
    let input = c.args.input in
    let next = c.next_stamp-next.result in
    let known = next_stamp (host_stamp t) in
    let books = c.settle.ensures.books in
    let same_next : next ≡ known = c.next_stamp-next.ensures ∙ ap (λ n. next_stamp (max n t.learnt)) books.stamp in
    IfOk-weaker c.act-done.result (λ (done : Done). Did a t.actor b new input next done) _
    (λ done did. record {
      did = did_before t.endpoint a b c.settle.ensures.same books t.actor new input known done
          (subst (λ n. Did a t.actor b new input n done) same_next did);
      learnt = refl;
    })
    c.act-done.ensures.did

pub returns-clause-undone : goal.returns-clause-undone
returns-clause-undone c =
    let t = c.args.self.now in
    let a = c.settle.new.self in
    let b = c.act-done.new.endpoint in
    IfErr-weaker c.act-done.result (λ (fault : ActFault). DidNot a t.actor b c.act-done.new.actor c.args.input fault) _
    (λ fault not. (record { books = same_books t.endpoint a b c.settle.ensures.books not.books; stands = not.kept; learnt = refl }, not.fault))
    c.act-done.ensures.undone
