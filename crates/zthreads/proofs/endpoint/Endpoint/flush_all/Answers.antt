use mathlib.Core.Logic.{∥∥₁_map}
use Rattle.std.proofs.Common.{◌<◌, ◌≤◌, ◌∙◌, length, length-set, refl, arith}
use Rattle.zchannels.specs.Rings.{IsFlushed, ring_of_tx}
use Rattle.zthreads.specs.Waiting.{IsEmpty}
use Rattle.zthreads.proofs.Endings.{neither}
use Rattle.zthreads.proofs.Waiting.{all_below, below_set}
use Rattle.zthreads.specs.Endpoints.{self_of, books_of}
use Rattle.atomic_table.proofs.Lists.{at_index}
use Rattle.zthreads.proofs.Wires.{map_same, out_same}
use Rattle.zthreads.proofs.endpoint.Endpoint.flush_all.Goals as goal

pub loop-link-preserved : goal.loop-link-preserved
loop-link-preserved c =
    let d = c.loop-link.self in
    let k = c.loop-link.link in
    let i = c.loop-link.invariant in
    let old = c.index_mut-out.result.now in
    let lt : k < length d.outs.items = let a = i.2 in let b = c.loop-link-test.true in omega arith in
    let at = at_index d.outs.items k old lt c.index_mut-out.ensures.value in
    let r = i.1 in (
      (λ s t waits h cut. ∥∥₁_map (i.0 s t waits h cut)
          (λ a. (a.0, out_same (self_of d) (books_of d) s a.0 t waits k old c.flush-is_moved.new.self a.1 at c.flush-is_moved.ensures.put))),
      record {
        endpoint = record {
          me = r.endpoint.me;
          last = r.endpoint.last;
          clients = r.endpoint.clients;
          traced = r.endpoint.traced;
          links = r.endpoint.links;
          ins = r.endpoint.ins;
          outs = map_same ring_of_tx d.outs.items k old c.flush-is_moved.new.self lt c.index_mut-out.ensures.value c.flush-is_moved.ensures.ends
              ∙ r.endpoint.outs;
        };
        books = record {
          trace = r.books.trace;
          reported = r.books.reported;
          stamp = r.books.stamp;
          is_cut = r.books.is_cut;
          lost = r.books.lost;
          room = r.books.room;
        };
        held = r.held;
        out = r.out;
      },
      (let a = i.2 in omega (arith, length-set d.outs.items k c.flush-is_moved.new.self)),
      i.3,
      (λ none.
          let each = neither c.loop-link.waits c.has_waiting-waits.result none in
          below_set IsEmpty d.outs.items k c.flush-is_moved.new.self (i.4 each.0) (c.has_waiting-waits.ensures.none each.1)),
      below_set IsFlushed d.outs.items k c.flush-is_moved.new.self i.5 c.flush-is_moved.ensures.flushed,
    )

pub loop-link-init : goal.loop-link-init
loop-link-init c = (
  (λ s t waits h. h),
  record {
    endpoint = record { me = refl; last = refl; clients = refl; traced = refl; links = refl; ins = refl; outs = refl };
    books = record { trace = refl; reported = refl; stamp = refl; is_cut = refl; lost = refl; room = λ r. r };
    held = refl;
    out = refl;
  },
  (let m = c.len-link-end.ensures in let o = c.args.self.now.outs.ok in omega arith),
  c.requires,
  (λ none i x lt at. absurd (omega arith)),
  λ i x lt at. absurd (omega arith),
)

pub returns-clause-none : goal.returns-clause-none
returns-clause-none c none =
    let d = c.loop-link.self in
    let i = c.loop-link.invariant in
    let most : length d.outs.items ≤ c.loop-link.link = let a = i.2 in let b = c.loop-link-test.false in omega arith in
    all_below IsEmpty d.outs.items c.loop-link.link most (i.4 none)

pub returns-clause-flushed : goal.returns-clause-flushed
returns-clause-flushed c =
    let d = c.loop-link.self in
    let i = c.loop-link.invariant in
    let most : length d.outs.items ≤ c.loop-link.link = let a = i.2 in let b = c.loop-link-test.false in omega arith in
    all_below IsFlushed d.outs.items c.loop-link.link most i.5
