use mathlib.Core.Logic.{∥∥₁_map}
use Rattle.std.proofs.Common.{refl, sym, subst, set, Some, length-set}
use Rattle.zchannels.specs.Rings.{ring_of_rx}
use Rattle.zthreads.specs.Endpoints.{self_of, books_of, Accounts}
use Rattle.atomic_table.proofs.Lists.{at_index}
use Rattle.zthreads.proofs.Wires.{map_same, in_none, in_some}
use Rattle.zthreads.proofs.endpoint.Endpoint.take.Goals as goal

pub returns-in_default-take-clause-taken : goal.returns-in_default-take-clause-taken
returns-in_default-take-clause-taken c s waits h cut =
    let d = c.args.self.now in
    let old = c.index_mut.result.now in
    let at = at_index d.ins.items c.args.link old c.requires c.index_mut.ensures.value in
    ∥∥₁_map (h cut) (λ a. (a.0, in_none (self_of d) (books_of d) s a.0 waits c.args.link old c.take.new.self a.1 at c.in_default-take.ensures.taken))

pub returns-in_default-take-clause-same : goal.returns-in_default-take-clause-same
returns-in_default-take-clause-same c =
    let d = c.args.self.now in
    record {
      endpoint = record {
        me = refl;
        last = refl;
        clients = refl;
        traced = refl;
        links = length-set d.ins.items c.args.link
            c.take.new.self;
        ins = map_same ring_of_rx d.ins.items c.args.link c.index_mut.result.now c.take.new.self
            c.requires c.index_mut.ensures.value c.take.ensures.ends;
        outs = refl;
      };
      books = record { trace = refl; reported = refl; stamp = refl; is_cut = refl; lost = refl; room = λ r. r };
      held = refl;
      out = refl;
    }

pub returns-clause-taken : goal.returns-clause-taken
returns-clause-taken c s waits h cut =
    let d = c.args.self.now in
    let old = c.index_mut.result.now in
    let at = at_index d.ins.items c.args.link old c.requires c.index_mut.ensures.value in
    let is = c.in-Some.ensures.some in
    ∥∥₁_map (h cut) (λ a.
    let more = in_some (self_of d) (books_of d) s a.0 waits c.args.link old c.take.new.self c.in-Some-take.message a.1
    c.requires at c.in-Some-take.ensures.taken in (
      a.0,
      subst (λ p. Accounts (self_of d) (record (books_of d) { ins = set d.ins.items c.args.link c.take.new.self })
          s (Some (p, c.in-Some-take.message)) waits a.0) (sym is) more,
    ))

pub returns-clause-same : goal.returns-clause-same
returns-clause-same c =
    let d = c.args.self.now in
    record {
      endpoint = record {
        me = refl;
        last = refl;
        clients = refl;
        traced = refl;
        links = length-set d.ins.items c.args.link
            c.take.new.self;
        ins = map_same ring_of_rx d.ins.items c.args.link c.index_mut.result.now c.take.new.self
            c.requires c.index_mut.ensures.value c.take.ensures.ends;
        outs = refl;
      };
      books = record { trace = refl; reported = refl; stamp = refl; is_cut = refl; lost = refl; room = λ r. r };
      held = refl;
      out = refl;
    }
