use Rattle.std.proofs.Common.{◌<◌, ◌-◌, ◌/◌, length, ap, ◌∙◌, arith, lit<, length-append}
use Rattle.std.proofs.Math.Nat.{mod-lt}
use Rattle.std.proofs.lemmas.Str.{encode_ascii}
use Rattle.zpath.specs.Numbered.{digits}
use Rattle.zpath.proofs.Digits.{length-digits}
use Rattle.zpath.proofs.numbered.+push_digits.Goals as goal

pub push-requires : goal.push-requires
push-requires t c =
    let small : c.from.result < 128 = omega (arith, c.from.ensures, mod-lt c.args.number {m = 10} (lit< tt)) in
    let one = ap length (encode_ascii c.from.result small) in
    let before = ap length c.push_digits.ensures ∙ length-append c.args.text.now.bytes (digits (c.args.width - 1) (c.args.number / 10)) in
    (lit< tt, omega (arith, one, before, length-digits (c.args.width - 1) (c.args.number / 10), c.requires, c.if-width-eq0.false))
