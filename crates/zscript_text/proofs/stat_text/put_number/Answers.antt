use Rattle.std.proofs.Common.{◌≡◌, ◌+◌, ◌-◌, ◌<◌, ◌≤◌, ◌∷◌, length, drop, ap, ◌∙◌, arith}
use Rattle.std.specs.Fmt.{decimal}
use Rattle.std.proofs.lemmas.List.{drop-set}
use Rattle.zscript_text.proofs.StatText.{ascii_number, few_digits}
use Rattle.zscript_text.proofs.stat_text.put_number.Goals as goal

pub write_digits-start-requires : goal.write_digits-start-requires
write_digits-start-requires c =
    let few : length (decimal c.args.number) ≤ 20 = few_digits c.args.number c.ranges.number.fits in
    (omega (arith, few, c.requires.room), c.requires.within)

pub overflow_sub-start : goal.overflow_sub-start
overflow_sub-start c =
    let few : length (decimal c.args.number) ≤ 20 = few_digits c.args.number c.ranges.number.fits in
    omega (arith, few, c.requires.room, c.write_digits-start.ensures.start)

pub returns-clause-reported : goal.returns-clause-reported
returns-clause-reported c =
    let digits = c.write_digits-start in
    let few : length (decimal c.args.number) ≤ 20 = few_digits c.args.number c.ranges.number.fits in
    let some : 1 ≤ digits.result = omega (arith, few, c.requires.room, digits.ensures.start) in
    let next : digits.result - 1 + 1 ≡ digits.result = omega (arith, some) in
    let within : digits.result - 1 < length digits.new.buf = omega (arith, some, few, c.requires.within, digits.ensures.start, digits.auto.buf) in
    drop-set digits.new.buf (digits.result - 1) 32 within ∙ ap (λ k. 32 ∷ drop k digits.new.buf) next ∙ ap (λ rest. 32 ∷ rest) digits.ensures.written

pub returns-clause-room : goal.returns-clause-room
returns-clause-room c =
    let few : length (decimal c.args.number) ≤ 20 = few_digits c.args.number c.ranges.number.fits in
    omega (arith, few, c.requires.room, c.write_digits-start.ensures.start)

pub returns-clause-ascii : goal.returns-clause-ascii
returns-clause-ascii c = ascii_number c.args.number c.ranges.number.fits
