use Rattle.std.proofs.Common.{◌≡◌, ◌+◌, ◌-◌, sym, ap, ◌∙◌, subst, All, arith}
use Rattle.std.proofs.lemmas.List.Elements.{All-push}
use Rattle.zchannels.specs.declared.halts.HaltSeat.{HaltSeat}
use Rattle.zchannels.specs.HaltSeats.{known_of}
use Rattle.zchannels.specs.Raised.{known}
use Rattle.zchannels.proofs.Stays.{opens, seats}
use Rattle.zchannels.proofs.halts.Halt.new.Goals as goal

pub of_words-requires : goal.of_words-requires
of_words-requires c = opens _

pub split_seat-one-requires : goal.split_seat-one-requires
split_seat-one-requires c =
    let i = c.loop.invariant in
    let lt = c.loop-test.true in
    let words = c.in_ok-table.ensures.0 in (
      i.0,
      omega arith,
      seats c.in_ok-table.table.shared.key c.loop.seat.id c.loop.seat.me.0 (let p = ap (λ h. h.parts) i.4 in omega arith) (ap (λ h. h.bits) i.4),
    )

pub loop-preserved : goal.loop-preserved
loop-preserved c =
    let i = c.loop.invariant in
    let lt = c.loop-test.true in
    let s = c.split_seat-one.ensures in
    let p = c.push_reserved.ensures in
    let t = c.in_ok-table.table.shared.table_id in
    let fresh = c.fresh.ensures in
    let parts : c.loop.seat.me.0.parts - 1 ≡ c.args.n - (c.loop.counter + 1) = let q = ap (λ h. h.parts) i.4 in omega arith in (
      s.0 ∙ i.0,
      (let a = p.len in let b = i.1 in omega arith),
      (let a = p.capacity in let b = i.2 in omega arith),
      subst (λ hs. All (λ (h : HaltSeat). (h.seat.table_id ≡ t) × (known_of h ≡ 0)) hs) (sym p.items)
          (All-push (λ (h : HaltSeat). (h.seat.table_id ≡ t) × (known_of h ≡ 0)) c.loop.seats.items c.fresh.result i.3
          (ap (λ q. q.table_id) fresh ∙ s.3 ∙ i.0, ap (λ q. q.me.0.bits) fresh ∙ ap (λ m. m.0.bits) s.4)),
      ap (λ m. m.0) s.2 ∙ (λ k. known (parts k) (i.4 k).bits),
    )
