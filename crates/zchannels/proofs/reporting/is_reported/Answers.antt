use mathlib.Core.Option.{some}
use lib.ListN.{get_elem?}
use Rattle.std.proofs.Common.{◌≡◌, ◌<◌, ◌++◌, IsTrue, length, map, sym, ap, ◌∙◌, subst, append_assoc, arith}
use Rattle.std.proofs.lemmas.List.{length-map}
use Rattle.std.specs.declared.alloc.Global.{Global}
use Rattle.std.specs.declared.vec.Vec.{Vec}
use Rattle.zchannels.specs.declared.rings.Rx.{Rx}
use Rattle.zchannels.specs.Rings.{in_ring, put_of, ring_of_rx, ring_of_tx, taken_of, waiting}
use Rattle.zchannels.proofs.Said.{end_at, if_some, long, one_there, row_at, said, said_same}
use Rattle.zchannels.proofs.reporting.is_reported.Goals as goal

pub index_mut-requires-2 : goal.index_mut-requires-2
index_mut-requires-2 g c =
    let row = c.index_mut.result.now in
    let from = c.requires.from in
    let ok = c.args.outs.now.ok in
    let here = row_at ring_of_tx c.args.outs.now.items c.args.from row from c.index_mut.ensures.value in
    let wide = long ring_of_tx row _ (c.requires.woven.each_row c.args.from _ here) in
    let to = c.requires.to in
    let long = row.ok in
    omega (arith, wide, to, long)

pub index_mut-requires-4 : goal.index_mut-requires-4
index_mut-requires-4 g c =
    let M = g.row.M.Denot in
    let column = c.index_mut-3.result.now in
    let ins = c.args.ins.now.items in
    let columns = sym (length-map ins (λ (v : Vec (Rx M) Global). map ring_of_rx v.items)) ∙ c.requires.woven.columns in
    let to = c.requires.to in
    let here = row_at ring_of_rx ins c.args.to column (omega (arith, columns, to)) c.index_mut-3.ensures.value in
    let tall = long ring_of_rx column _ (c.requires.woven.each_column c.args.to _ here) in
    let from = c.requires.from in
    let long = column.ok in
    omega (arith, tall, from, long)

pub reported-requires : goal.reported-requires
reported-requires g c =
    let M = g.row.M.Denot in
    let outs = c.args.outs.now.items in
    let ins = c.args.ins.now.items in
    let row = c.index_mut.result.now in
    let column = c.index_mut-3.result.now in
    let tx = c.index_mut-2.result.now in
    let rx = c.index_mut-4.result.now in
    let from = c.requires.from in
    let to = c.requires.to in
    let columns = sym (length-map ins (λ (v : Vec (Rx M) Global). map ring_of_rx v.items)) ∙ c.requires.woven.columns in
    let at_row = row_at ring_of_tx outs c.args.from row from c.index_mut.ensures.value in
    let at_column = row_at ring_of_rx ins c.args.to column (omega (arith, columns, to)) c.index_mut-3.ensures.value in
    let wide = long ring_of_tx row _ (c.requires.woven.each_row c.args.from _ at_row) in
    let tall = long ring_of_rx column _ (c.requires.woven.each_column c.args.to _ at_column) in
    c.requires.woven.ends c.args.from c.args.to (map ring_of_tx row.items) (map ring_of_rx column.items) (ring_of_tx tx) (ring_of_rx rx)
    at_row (end_at ring_of_tx row c.args.to tx (omega (arith, wide, to)) c.index_mut-2.ensures.value)
    at_column (end_at ring_of_rx column c.args.from rx (omega (arith, tall, from)) c.index_mut-4.ensures.value)

pub returns-clause-outs : goal.returns-clause-outs
returns-clause-outs g c =
    said_same put_of c.args.outs.now.items c.args.from c.args.to c.index_mut.result.now c.index_mut-2.result.now c.reported.new.tx
    c.index_mut.ensures.value c.index_mut-2.ensures.value c.reported.ensures.same.0

pub returns-clause-ins : goal.returns-clause-ins
returns-clause-ins g c =
    said_same taken_of c.args.ins.now.items c.args.to c.args.from c.index_mut-3.result.now c.index_mut-4.result.now c.reported.new.rx
    c.index_mut-3.ensures.value c.index_mut-4.ensures.value c.reported.ensures.same.1

pub returns-clause-out_rings : goal.returns-clause-out_rings
returns-clause-out_rings g c =
    said_same ring_of_tx c.args.outs.now.items c.args.from c.args.to c.index_mut.result.now c.index_mut-2.result.now c.reported.new.tx
    c.index_mut.ensures.value c.index_mut-2.ensures.value c.reported.ensures.tx

pub returns-clause-in_rings : goal.returns-clause-in_rings
returns-clause-in_rings g c =
    said_same ring_of_rx c.args.ins.now.items c.args.to c.args.from c.index_mut-3.result.now c.index_mut-4.result.now c.reported.new.rx
    c.index_mut-3.ensures.value c.index_mut-4.ensures.value c.reported.ensures.rx

pub returns-clause-reported : goal.returns-clause-reported
returns-clause-reported g c is row column put taken at_row at_put at_column at_taken =
    let M = g.row.M.Denot in
    let outs = c.args.outs.now.items in
    let ins = c.args.ins.now.items in
    let r = c.index_mut.result.now in
    let k = c.index_mut-3.result.now in
    let tx = c.index_mut-2.result.now in
    let rx = c.index_mut-4.result.now in
    let from = c.requires.from in
    let to = c.requires.to in
    let columns = sym (length-map ins (λ (v : Vec (Rx M) Global). map ring_of_rx v.items)) ∙ c.requires.woven.columns in
    let lt : c.args.to < length ins = omega (arith, columns, to) in
    let ring_row = row_at ring_of_tx outs c.args.from r from c.index_mut.ensures.value in
    let ring_column = row_at ring_of_rx ins c.args.to k lt c.index_mut-3.ensures.value in
    let wide = long ring_of_tx r _ (c.requires.woven.each_row c.args.from _ ring_row) in
    let tall = long ring_of_rx k _ (c.requires.woven.each_column c.args.to _ ring_column) in
    let row_is = one_there (said put_of outs) c.args.from (map put_of r.items) row (row_at put_of outs c.args.from r from c.index_mut.ensures.value) at_row in
    let column_is = one_there (said taken_of ins) c.args.to (map taken_of k.items) column (row_at taken_of ins c.args.to k lt c.index_mut-3.ensures.value) at_column in
    let put_is = one_there (map put_of r.items) c.args.to (put_of tx) put (end_at put_of r c.args.to tx (omega (arith, wide, to)) c.index_mut-2.ensures.value) (subst (λ l. get_elem? l c.args.to ≡ some put) (sym row_is) at_put) in
    let taken_is = one_there (map taken_of k.items) c.args.from (taken_of rx) taken (end_at taken_of k c.args.from rx (omega (arith, tall, from)) c.index_mut-4.ensures.value) (subst (λ l. get_elem? l c.args.from ≡ some taken) (sym column_is) at_taken) in
    let law = (if_some c.reported.result c.reported.ensures.law (subst IsTrue c.is_some.ensures is)).1 in
    let same = c.reported.ensures.same in (
      in_ring c.reported.new.rx ++ waiting c.reported.new.tx,
      sym put_is ∙ sym same.0 ∙ law ∙ append_assoc (taken_of c.reported.new.rx) (in_ring c.reported.new.rx) (waiting c.reported.new.tx)
          ∙ ap (λ l. l ++ (in_ring c.reported.new.rx ++ waiting c.reported.new.tx)) (same.1 ∙ taken_is),
    )
