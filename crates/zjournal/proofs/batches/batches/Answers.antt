use Rattle.std.proofs.Common.{◌++◌, [], ◌∷◌, List, ℕ, sym, ◌∙◌, ap, arith}
use Rattle.zjournal.proofs.Scan.{more_batches, joined_more, short_end, shut_end}
use Rattle.zjournal.proofs.batches.batches.Goals.{then-loop-place-test+else-bytes-place-eq1, else-loop-place-test}
use Rattle.zjournal.proofs.batches.batches.Goals as goal

pub loop-place-preserved : goal.loop-place-preserved
loop-place-preserved c =
    let so_far = c.loop-place.invariant in
    let one = c.in_ok-place.ensures.ok in
    let within = c.loop-place-test.true in (
      so_far.0 ++ one.0 ∷ [],
      more_batches c.args.bytes.now c.args.start c.loop-place.place c.in_ok-place.place so_far.0 one.0 so_far.1 (omega (arith, within))
          c.if-bytes-place-eq1.true one.1,
      one.2 ∙ ap (λ (l : List ℕ). l ++ one.0) so_far.2 ∙ sym (joined_more so_far.0 one.0),
    )

pub returns-clause-ok : goal.returns-clause-ok
returns-clause-ok c =
    let so_far = c.loop-place.invariant in (
      so_far.0,
      so_far.1,
      so_far.2,
      elim c.loop-place-test.branch [
        | then-loop-place-test+else-bytes-place-eq1 w ↦ shut_end c.args.bytes.now c.loop-place.place.end
            (let within = w.loop-place-test.true in omega (arith, within)) w.if-bytes-place-eq1.false
        | else-loop-place-test w ↦ short_end c.args.bytes.now c.loop-place.place.end w.loop-place-test.false
      ],
    )
