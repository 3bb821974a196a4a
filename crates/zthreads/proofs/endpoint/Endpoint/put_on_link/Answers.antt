use Rattle.std.proofs.Common.{◌<◌, ◌∷◌, ◌++◌, ◌∙◌, Option, Some, refl, ap, sym, subst, length, set, option_to_list, ◌≤◌, arith}
use Rattle.zchannels.specs.Rings.{ring_of_tx}
use Rattle.zthreads.specs.Endpoints.{self_of, books_of, Accounts, TreePost}
use Rattle.atomic_table.proofs.Lists.{at_index}
use Rattle.zthreads.proofs.Wires.{map_same, out_lost, out_more, out_same}
use Rattle.zthreads.proofs.Waiting.{nothing_more, nothing_noticed}
use Rattle.zthreads.proofs.endpoint.Endpoint.put_on_link.Goals as goal

pub invariant_of-self-clause-noticed : goal.invariant_of-self-clause-noticed
invariant_of-self-clause-noticed c =
    let d = c.args.self.now in
    nothing_noticed d.outs.items c.place-place.result c.put.new.self d.waits c.has_waiting.result d.noticed c.has_waiting.ensures.none

pub invariant_of-self-in-Err-clause-noticed : goal.invariant_of-self-in-Err-clause-noticed
invariant_of-self-in-Err-clause-noticed c none =
    let d = c.args.self.now in
    let k = c.place-place.result in
    let old = c.index_mut-out.result.now in
    let lt : k < length d.outs.items = let n = c.if-place-len.false in let m = c.len.ensures in let o = d.outs.ok in omega arith in
    nothing_more d.outs.items k old c.put.new.self (at_index d.outs.items k old lt c.index_mut-out.ensures.value)
    c.in-Err.ensures.waits (d.noticed none)

pub returns-then-place-len-clause-steps : goal.returns-then-place-len-clause-steps
returns-then-place-len-clause-steps c s t deeds a =
    let d = c.args.self.now in
    let beyond : length d.outs.items ≤ c.place-place.result = let n = c.if-place-len.true in let m = c.len.ensures
    in let o = d.outs.ok in omega arith in
    subst (λ (w : Option TreePost). Accounts (self_of d) (books_of d) s t (option_to_list w ++ d.out.posts) deeds) (sym c.requires)
    (out_lost (self_of d) (books_of d) s deeds t c.args.to c.args.message d.out.posts c.place-place.result a c.place-place.ensures.back beyond)

pub returns-in-Ok-clause-steps : goal.returns-in-Ok-clause-steps
returns-in-Ok-clause-steps c s t deeds a =
    let d = c.args.self.now in
    let k = c.place-place.result in
    let old = c.index_mut-out.result.now in
    let lt : k < length d.outs.items = let n = c.if-place-len.false in let m = c.len.ensures in let o = d.outs.ok in omega arith in
    let at = at_index d.outs.items k old lt c.index_mut-out.ensures.value in
    let more = out_more (self_of d) (books_of d) s deeds t c.args.to c.args.message d.out.posts k old c.put.new.self a
    at c.place-place.ensures.back c.in-Ok.ensures.ok in
    subst (λ (w : Option TreePost). Accounts (self_of d) (record (books_of d) { outs = set d.outs.items k c.put.new.self })
    s t (option_to_list w ++ d.out.posts) deeds) (sym c.requires) more

pub returns-in-Ok-clause-same : goal.returns-in-Ok-clause-same
returns-in-Ok-clause-same c =
    let d = c.args.self.now in
    let k = c.place-place.result in
    let lt : k < length d.outs.items = let n = c.if-place-len.false in let m = c.len.ensures in let o = d.outs.ok in omega arith in
    record {
      me = refl;
      last = refl;
      clients = refl;
      traced = refl;
      links = refl;
      ins = refl;
      outs = map_same ring_of_tx
          d.outs.items k c.index_mut-out.result.now c.put.new.self lt c.index_mut-out.ensures.value c.put.ensures.ends;
    }

pub returns-in-Err-clause-steps : goal.returns-in-Err-clause-steps
returns-in-Err-clause-steps c s t deeds a =
    let d = c.args.self.now in
    let k = c.place-place.result in
    let old = c.index_mut-out.result.now in
    let lt : k < length d.outs.items = let n = c.if-place-len.false in let m = c.len.ensures in let o = d.outs.ok in omega arith in
    let at = at_index d.outs.items k old lt c.index_mut-out.ensures.value in
    let e = c.in-Err.ensures.err in
    subst (λ (w : Option TreePost). Accounts (self_of d) (record (books_of d) { outs = set d.outs.items k c.put.new.self })
    s t (option_to_list w ++ d.out.posts) deeds)
    (ap (λ m. Some (c.args.to, m)) (sym (ap (λ x. x.1) e.0)) ∙ sym c.replace.ensures.after)
    (out_same (self_of d) (books_of d) s deeds t ((c.args.to, c.args.message) ∷ d.out.posts) k old c.put.new.self a at e.1)

pub returns-in-Err-clause-same : goal.returns-in-Err-clause-same
returns-in-Err-clause-same c =
    let d = c.args.self.now in
    let k = c.place-place.result in
    let lt : k < length d.outs.items = let n = c.if-place-len.false in let m = c.len.ensures in let o = d.outs.ok in omega arith in
    record {
      me = refl;
      last = refl;
      clients = refl;
      traced = refl;
      links = refl;
      ins = refl;
      outs = map_same ring_of_tx
          d.outs.items k c.index_mut-out.result.now c.put.new.self lt c.index_mut-out.ensures.value c.put.ensures.ends;
    }
