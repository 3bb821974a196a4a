use Rattle.std.proofs.Common.{◌≡◌, ◌+◌, ◌-◌, [], sym, refl, ap, ◌∙◌, subst, All, arith}
use Rattle.zchannels.specs.Given.{hand}
use Rattle.zchannels.specs.Passes.{tickets_of}
use Rattle.zchannels.proofs.Fair.{deals, all_more}
use Rattle.zchannels.proofs.tickets.Tickets.new.Goals as goal

pub split_seat-one-requires : goal.split_seat-one-requires
split_seat-one-requires c =
    let i = c.loop.invariant in
    let lt = c.loop-test.true in
    let words = c.in_ok-table.ensures.0 in (
      i.0,
      omega arith,
      deals c.in_ok-table.table.shared.key c.loop.seat.id c.loop.seat.me.0 (let p = ap (λ h. h.parts) i.3 in omega arith) (ap (λ h. h.drawn) i.3),
    )

pub loop-preserved : goal.loop-preserved
loop-preserved c =
    let i = c.loop.invariant in
    let lt = c.loop-test.true in
    let s = c.split_seat-one.ensures in
    let p = c.push_reserved.ensures in
    let t = c.in_ok-table.table.shared.table_id in
    let fresh = c.fresh.ensures in
    let parts : c.loop.seat.me.0.parts - 1 ≡ c.args.n - (c.loop.counter + 1) = let q = ap (λ h. h.parts) i.3 in omega arith in (
      s.0 ∙ i.0,
      refl,
      refl,
      ap (λ m. m.0) s.2 ∙ (λ k. hand (parts k) (i.3 k).drawn),
      (let a = p.len in let b = i.4 in omega arith),
      (let a = p.capacity in let b = i.5 in omega arith),
      subst (λ ps. All (λ q. (q.seat.table_id ≡ t) × (tickets_of q ≡ [])) ps) (sym p.items)
          (all_more (λ q. (q.seat.table_id ≡ t) × (tickets_of q ≡ [])) c.loop.passes.items c.fresh.result i.6
          (ap (λ q. q.table_id) fresh ∙ s.3 ∙ i.0, ap (λ q. q.me.0.drawn) fresh ∙ ap (λ m. m.0.drawn) s.4)),
    )
