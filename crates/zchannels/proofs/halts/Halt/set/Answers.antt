use Rattle.std.proofs.Common.{arith, ap, sym, subst, ◌∙◌, w64, bit_or}
use Rattle.std.proofs.lemmas.Nat.{one_shl}
use Rattle.zchannels.specs.declared.halt_rule.Known.{Known}
use Rattle.zchannels.specs.Raised.{Within}
use Rattle.zchannels.proofs.Stays.{sets, or_within}
use Rattle.atomic_table.specs.Table.{Me}
use Rattle.std.specs.Int.{bit_at}
use Rattle.std.proofs.lemmas.Nat.Bits.{bit_at_set_same}
use Rattle.zchannels.proofs.halts.Halt.set.Goals as goal

pub fetch_or-requires : goal.fetch_or-requires
fetch_or-requires c =
    let p = c.args.seat.now.seat in (
      c.requires.own,
      (let h = c.args.self.now.one_word in omega arith),
      sets c.args.self.now.table.shared.key c.args.self.now.table.shared.table_id.slots p.id p.me.0 _ p.me.1 c.args.seat.now.one,
    )

pub returns-clause-set : goal.returns-clause-set
returns-clause-set c =
    let p = c.args.seat.now.seat in
    let b = c.requires.bit in
    ap (λ (m : Me (Unit {0}) Known). bit_at m.0.bits c.args.s) c.fetch_or.ensures.2 ∙ bit_at_set_same w64 p.me.0.bits c.args.s (omega arith)

pub returns-clause-kept : goal.returns-clause-kept
returns-clause-kept c =
    let p = c.args.seat.now.seat in
    subst (λ (m : Me (Unit {0}) Known). Within p.me.0.bits m.0.bits) (sym c.fetch_or.ensures.2) (or_within p.me.0.bits _)

pub returns-clause-only : goal.returns-clause-only
returns-clause-only c =
    let p = c.args.seat.now.seat in
    let b = c.requires.bit in
    ap (λ (m : Me (Unit {0}) Known). m.0.bits) c.fetch_or.ensures.2 ∙ ap (λ k. bit_or p.me.0.bits k) (one_shl c.args.s 64 (omega arith))
