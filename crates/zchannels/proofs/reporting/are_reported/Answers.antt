use Rattle.std.proofs.Common.{List, length, map, sym, ap, ◌∙◌, subst, refl, ⊎_elim, arith}
use Rattle.std.proofs.lemmas.List.{length-map}
use Rattle.std.specs.declared.alloc.Global.{Global}
use Rattle.std.specs.declared.vec.Vec.{Vec}
use Rattle.zchannels.specs.declared.rings.Rx.{Rx}
use Rattle.zchannels.specs.declared.rings.Tx.{Tx}
use Rattle.zchannels.specs.Rings.{put_of, ring_of_rx, taken_of}
use Rattle.zchannels.specs.Reported.{in_lists, IsReportedAt, out_lists}
use Rattle.zchannels.proofs.Said.{at_most, within}
use Rattle.zchannels.proofs.reporting.are_reported.Goals as goal

pub loop-to-preserved : goal.loop-to-preserved
loop-to-preserved g c =
    let M = g.row.M.Denot in
    let i = c.loop-to.invariant in
    let e = c.is_reported.ensures in
    let outs = c.args.mesh.outs.items in
    let ins = c.args.mesh.ins.items in (
      e.outs ∙ i.0,
      e.ins ∙ i.1,
      e.out_rings ∙ i.2,
      e.in_rings ∙ i.3,
      sym (length-map c.is_reported.new.outs.items (λ (v : Vec (Tx M) Global). map put_of v.items)) ∙ ap length e.outs
          ∙ length-map c.loop-to.outs.items (λ (v : Vec (Tx M) Global). map put_of v.items) ∙ i.4,
      i.5,
      i.6,
      i.7,
      λ j lt. ⊎_elim (λ before. i.8 j before) (λ is. subst (λ k. IsReportedAt (out_lists outs) (in_lists ins) c.loop-from.from k) (sym is)
          (subst (λ (ls : List (List (List M)) × List (List (List M))). IsReportedAt ls.0 ls.1 c.loop-from.from c.loop-to.to) (λ k. (i.0 k, i.1 k))
          (c.if-not-is_reported.ensures.reported refl))) (at_most j c.loop-to.to lt),
    )

pub loop-from-preserved : goal.loop-from-preserved
loop-from-preserved g c =
    let i = c.loop-to.invariant in
    let all = c.loop-to-test.false in
    let count = i.5 in (
      i.0,
      i.1,
      i.2,
      i.3,
      i.4,
      i.5,
      λ p j lt few. ⊎_elim (λ before. i.7 p j before few)
          (λ is. subst (λ k. IsReportedAt (out_lists c.args.mesh.outs.items) (in_lists c.args.mesh.ins.items) k j) (sym is) (i.8 j (omega (arith, all, count, few))))
          (at_most p c.loop-from.from lt),
    )

pub returns : goal.returns
returns g c is i j row column put taken at_row at_put at_column at_taken =
    let M = g.row.M.Denot in
    let outs = c.args.mesh.outs.items in
    let ins = c.args.mesh.ins.items in
    let inv = c.loop-from.invariant in
    let all = c.loop-from-test.false in
    let count = inv.5 in
    let rows = length-map outs (λ (v : Vec (Tx M) Global). map put_of v.items) in
    let columns = length-map ins (λ (v : Vec (Rx M) Global). map taken_of v.items) in
    let rings = length-map ins (λ (v : Vec (Rx M) Global). map ring_of_rx v.items) in
    let square = c.requires.columns in
    let in_row = within (out_lists outs) i row at_row in
    let in_column = within (in_lists ins) j column at_column in
    inv.6 i j (omega (arith, all, count, rows, in_row)) (omega (arith, columns, rings, square, in_column))
    row column put taken at_row at_put at_column at_taken
