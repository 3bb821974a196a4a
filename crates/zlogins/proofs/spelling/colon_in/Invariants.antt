use Rattle.std.proofs.Common.{◌≡◌, ◌+◌, ◌-◌, ◌≤◌, drop, length}
use Rattle.zlogins.specs.Logins.{colon_in}
use Rattle.zlogins.proofs.spelling.colon_in.Given as goal

-- the colon is not before this place
abbrev pub invariant-bytes : goal.invariant-bytes
invariant-bytes l = record {
  place : l.place + colon_in (drop l.place l.text) ≡ colon_in l.text;
  bound : l.place ≤ length l.text;
}

abbrev pub decreases-bytes : goal.decreases-bytes
decreases-bytes l = length l.text - l.place
