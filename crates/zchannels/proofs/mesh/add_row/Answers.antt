use Rattle.std.proofs.Common.{◌≡◌, ◌<◌, [], ◌∷◌, ◌++◌, map, length, sym, ap, ◌∙◌, subst, refl, length-set, length-append, ◌+◌, arith}
use Rattle.std.specs.Prelude.{All}
use Rattle.std.proofs.lemmas.List.{length-map}
use Rattle.std.proofs.lemmas.List.Elements.{All-get_or, All-nil, All-push, All-same, All-set}
use Rattle.std.specs.declared.alloc.Global.{Global}
use Rattle.std.specs.declared.vec.Vec.{Vec}
use Rattle.zchannels.specs.declared.rings.Rx.{Rx}
use Rattle.zchannels.specs.Rings.{put_of, ring_of_rx, ring_of_tx, taken_of}
use Rattle.zchannels.specs.Woven.{in_rings, with_row}
use Rattle.zchannels.proofs.MeshRows.{column_more, with_none}
use Rattle.zchannels.proofs.mesh.add_row.Goals as goal

pub loop-to-init : goal.loop-to-init
loop-to-init g c =
    let none = c.in_ok-row.ensures.items in
    let cs = in_rings c.args.ins.now.items in (
      sym (ap (λ l. with_row cs (map ring_of_tx l)) none ∙ with_none cs),
      ap length none,
      refl,
      (let n = c.len-to-end.ensures in let o = c.args.ins.now.ok in omega arith),
      All-same (λ tx. put_of tx ≡ []) c.in_ok-row.row.items [] none (All-nil (λ tx. put_of tx ≡ [])),
      λ h. h,
    )

pub loop-to-preserved : goal.loop-to-preserved
loop-to-preserved g c =
    let M = g.row.M.Denot in
    let i = c.loop-to.invariant in
    let ins = c.loop-to.ins.items in
    let row = c.loop-to.row.items in
    let to = c.loop-to.to in
    let old = c.index_mut.result.now in
    let new = c.push-in-loop-to.new.self in
    let tx = c.in_ok-tx.tx in
    let rx = c.in_ok-tx.rx in
    let start = c.args.ins.now.items in
    let cs = in_rings start in
    let grown = c.in_ok-push.ensures.items in
    let R : Rx M → Type 0 = λ r. taken_of r ≡ [] in
    let Q : Vec (Rx M) Global → Type 0 = λ v. All R v.items in
    let lt : to < length ins = let a = i.2 in let b = i.3 in let t = c.loop-to-test.true in omega arith in (
      column_more ins cs row to old new tx rx i.0 i.1 lt (i.2 ∙ sym (length-map start (λ (v : Vec (Rx M) Global). map ring_of_rx v.items)))
          c.index_mut.ensures.value c.in_ok-push-2.ensures.items c.in_ok-tx.ensures.ends
          ∙ ap (λ l. with_row cs (map ring_of_tx l)) (sym grown),
      ap length grown ∙ length-append row (tx ∷ []) ∙ ap (λ n. n + 1) i.1,
      length-set ins to new ∙ i.2,
      i.3,
      All-same (λ t. put_of t ≡ []) c.push.new.self.items (row ++ tx ∷ []) grown (All-push (λ t. put_of t ≡ []) row tx i.4 c.in_ok-tx.ensures.empty.0),
      λ h.
          let before : Q old = subst Q (sym c.index_mut.ensures.value) (All-get_or Q ins to old lt (i.5 h)) in
          All-set Q ins to new (All-same R new.items (old.items ++ rx ∷ []) c.in_ok-push-2.ensures.items (All-push R old.items rx before c.in_ok-tx.ensures.empty.1)) (i.5 h),
    )
