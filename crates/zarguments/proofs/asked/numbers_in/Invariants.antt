use Rattle.std.proofs.Common.{◌≡◌, map, drop}
use Rattle.clap.specs.Walk.{rows_of}
use Rattle.clap.specs.Matches.{found_of}
use Rattle.zarguments.specs.Asked.{numbers_of, spelling_of}
use Rattle.zarguments.proofs.Numbers.{joined}
use Rattle.zarguments.proofs.asked.numbers_in.Given as goal

abbrev pub invariant-loop-option : goal.invariant-loop-option
invariant-loop-option l =
    let rows = rows_of (found_of l.given) in
    joined l.numbers.items (numbers_of (map spelling_of (drop l.option-index l.options)) rows) ≡ numbers_of (map spelling_of l.options) rows
