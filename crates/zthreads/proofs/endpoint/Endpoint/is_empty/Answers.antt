use mathlib.Core.Logic.{∥∥₁_map}
use Rattle.std.proofs.Common.{refl, length-set}
use Rattle.zchannels.specs.Rings.{ring_of_rx}
use Rattle.zthreads.specs.Endpoints.{self_of, books_of}
use Rattle.atomic_table.proofs.Lists.{at_index}
use Rattle.zthreads.proofs.Wires.{map_same, in_looked}
use Rattle.zthreads.proofs.endpoint.Endpoint.is_empty.Goals as goal

pub returns-clause-keeps : goal.returns-clause-keeps
returns-clause-keeps c s t waits h cut =
    let d = c.args.self.now in
    let old = c.index_mut.result.now in
    let at = at_index d.ins.items c.args.link old c.requires c.index_mut.ensures.value in
    ∥∥₁_map (h cut) (λ a. (a.0, in_looked (self_of d) (books_of d) s a.0 t waits c.args.link old c.is_empty.new.self a.1 at c.is_empty.ensures.taken))

pub returns-clause-same : goal.returns-clause-same
returns-clause-same c =
    let d = c.args.self.now in
    record {
      endpoint = record {
        me = refl;
        last = refl;
        clients = refl;
        traced = refl;
        links = length-set d.ins.items c.args.link
            c.is_empty.new.self;
        ins = map_same ring_of_rx d.ins.items c.args.link c.index_mut.result.now c.is_empty.new.self
            c.requires c.index_mut.ensures.value c.is_empty.ensures.ends;
        outs = refl;
      };
      books = record { trace = refl; reported = refl; stamp = refl; is_cut = refl; lost = refl; room = λ r. r };
      held = refl;
      out = refl;
    }
