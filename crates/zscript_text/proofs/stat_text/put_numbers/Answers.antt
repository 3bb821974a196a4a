use Rattle.std.proofs.Common.{◌≡◌, ◌-◌, ◌<◌, ◌∷◌, ◌++◌, suc, length, drop, get_or, sym, ap, ◌∙◌, arith, drop-cons}
use Rattle.std.specs.List.{flat_map}
use Rattle.zscript_text.specs.Reply.{spaced_number}
use Rattle.zscript_text.proofs.StatText.{ascii_before}
use Rattle.zscript_text.proofs.stat_text.put_numbers.Goals as goal

pub loop-left-preserved : goal.loop-left-preserved
loop-left-preserved c =
    let numbers = c.args.numbers.now in
    let so_far = c.loop-left.invariant in
    let before = c.loop-left.left - 1 in
    let put = c.put_number-start.ensures in
    let within : c.loop-left.left - 1 < length numbers = omega (arith, so_far.few, c.loop-left-test.true) in
    let next : suc (c.loop-left.left - 1) ≡ c.loop-left.left = omega (arith, c.loop-left-test.true) in
    let more = drop-cons numbers before 0 within ∙ ap (λ k. get_or numbers before 0 ∷ drop k numbers) next in
    record {
      reported = put.reported ∙ ap (λ rest. spaced_number (get_or numbers before 0) ++ rest) so_far.reported ∙ ap (flat_map spaced_number) (sym more);
      ascii = ascii_before (spaced_number (get_or numbers before 0)) (drop c.loop-left.start c.loop-left.place) _ put.reported put.ascii so_far.ascii;
      len = put.len ∙ so_far.len;
      room = omega (arith, put.len, put.room, so_far.room, next);
      within = omega (arith, put.len, put.before, so_far.within);
      few = omega (arith, so_far.few);
    }
