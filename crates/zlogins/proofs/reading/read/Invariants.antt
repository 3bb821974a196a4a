use Rattle.std.proofs.Common.{◌≡◌, ◌+◌, ◌≤◌, length, Ok}
use Rattle.zlogins.specs.Reading.{before, lines_of, logins_on}
use Rattle.zlogins.proofs.reading.read.Given as goal

-- the logins so far and those of the rest are those of all; each line has a byte, but for the last
abbrev pub invariant-lines : goal.invariant-lines
invariant-lines l = record {
  all : before (Ok l.logins.items) (logins_on l.number (lines_of l.rest)) ≡ logins_on 1 (lines_of l.text);
  counted : l.number + length l.rest ≤ 1 + length l.text;
}

abbrev pub decreases-lines : goal.decreases-lines
decreases-lines l = length l.rest
