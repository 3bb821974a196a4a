use Rattle.std.proofs.Common.{◌≡◌, [], ◌∷◌, ◌++◌, List, map, length, sym, ap, ◌∙◌, subst, ◌+◌, arith}
use Rattle.std.specs.Prelude.{All}
use Rattle.std.proofs.lemmas.List.{length-map, map-append}
use Rattle.std.proofs.lemmas.List.Elements.{All-nil, All-push, All-same}
use Rattle.std.specs.declared.alloc.Global.{Global}
use Rattle.std.specs.declared.vec.Vec.{Vec}
use Rattle.zchannels.specs.declared.rings.Tx.{Tx}
use Rattle.zchannels.specs.declared.rings.Rx.{Rx}
use Rattle.zchannels.specs.Rings.{Ring, put_of, ring_of_rx, ring_of_tx}
use Rattle.zchannels.specs.Woven.{in_rings, out_rings}
use Rattle.zchannels.proofs.MeshRows.{AreFirst, none_yet, one_more, wide_from}
use Rattle.zchannels.proofs.mesh.weave.Goals as goal

pub loop-init : goal.loop-init
loop-init g c =
    let M = g.row.M.Denot in
    let n = c.args.count in
    let none = c.in_ok-outs.ensures.items in
    let Q : Vec (Tx M) Global → Type 0 = λ v. All (λ t. put_of t ≡ []) v.items in (
      subst (λ (o : List (Vec (Tx M) Global)). AreFirst n 0 (out_rings o) (in_rings c.in_ok-ins.ins.items)) (sym none)
          (subst (λ (cs : List (List Ring)). AreFirst n 0 [] cs) (sym c.in_ok-ins.ensures.rings) (none_yet n)),
      All-same Q c.in_ok-outs.outs.items [] none (All-nil Q),
      c.in_ok-ins.ensures.blank,
    )

pub loop-preserved : goal.loop-preserved
loop-preserved g c =
    let M = g.row.M.Denot in
    let n = c.args.count in
    let k = c.loop.counter in
    let i = c.loop.invariant in
    let outs = c.loop.outs.items in
    let ins = c.loop.ins.items in
    let row = c.in_ok-row.row in
    let is = c.in_ok-row.ensures in
    let grown = c.in_ok-push.ensures.items in
    let f : Vec (Tx M) Global → List Ring = λ v. map ring_of_tx v.items in
    let Q : Vec (Tx M) Global → Type 0 = λ v. All (λ t. put_of t ≡ []) v.items in
    let wide : length (f row) ≡ n =
    length-map row.items ring_of_tx ∙ is.length ∙ sym (length-map ins (λ (v : Vec (Rx M) Global). map ring_of_rx v.items)) ∙ i.0.columns in (
      subst (λ (o : List (List Ring)). AreFirst n (k + 1) o (in_rings c.add_row.new.ins.items)) (sym (ap out_rings grown ∙ map-append f outs (row ∷ [])))
          (subst (λ (cs : List (List Ring)). AreFirst n (k + 1) (out_rings outs ++ f row ∷ []) cs) (sym is.rings) (one_more n k (out_rings outs) (in_rings ins) (f row) i.0 wide)),
      All-same Q c.push.new.self.items (outs ++ row ∷ []) grown (All-push Q outs row i.1 is.outs),
      is.ins i.2,
    )

pub returns-clause-wide : goal.returns-clause-wide
returns-clause-wide g c =
    let first = c.loop.invariant.0 in
    let n = c.args.count in
    let all : c.loop.counter ≡ n = let a = c.loop-test.false in let b = c.loop.auto.counter-end in omega arith in (
      wide_from ring_of_tx n c.loop.outs.items first.each_row,
      wide_from ring_of_rx n c.loop.ins.items (λ j column at. first.each_column j column at ∙ all),
    )
