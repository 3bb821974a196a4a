use Rattle.std.proofs.Common.{◌≡◌, ◌+◌, ◌-◌, ap, sym, ◌∙◌, arith, length, lit<, suc, ℕ}
use Rattle.std.specs.List.{range_with_len}
use Rattle.std.proofs.lemmas.List.FromFn.{length-map-range_with_len, map-range_with_len_more}
use Rattle.zprotocol.specs.server.View.{Neighbour}
use Rattle.zmaster.proofs.Marks.{number_behind}
use Rattle.zmaster.proofs.knowledge.Knowledge.new.Goals as goal

pub push-requires : goal.push-requires
push-requires c =
    let count = ap length c.loop-number.invariant.0 in
    let long = length-map-range_with_len {X = Neighbour} (λ (s : ℕ). (s, 0)) 1 (c.loop-number.number - 1) in
    (lit< tt, omega (arith, count, long, c.number-number-end.ensures.small))

pub loop-number-preserved : goal.loop-number-preserved
loop-number-preserved c =
    let n = c.loop-number.number in
    let same : (n + 1) - 1 ≡ (n - 1) + 1 = omega arith in
    let server : c.in-Some.server ≡ n = c.in-Some.ensures.server.0 in
    let next : suc (n - 1) ≡ (n - 1) + 1 = omega arith in (
      rw (c.push.ensures.items, c.new-in-loop-number.ensures, server, c.opening.ensures, c.loop-number.invariant.0, same)
          (sym (map-range_with_len_more {X = Neighbour} (λ (s : ℕ). (s, 0)) 1 (n - 1) n (omega arith))),
      rw (c.mark_used.ensures, server, c.loop-number.invariant.1, same)
          (number_behind 1 (n - 1) n (omega arith) ∙ ap (λ k. range_with_len 1 k) next),
    )
