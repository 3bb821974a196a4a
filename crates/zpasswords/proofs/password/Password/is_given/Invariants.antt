use Rattle.std.proofs.Common.{◌≡◌, drop, nat_eq}
use lib.Pointwise.{pointwise}
use Rattle.zpasswords.proofs.Differences.{reported}
use Rattle.zpasswords.proofs.password.Password.is_given.Given as goal

-- the result so far, and the rests, determine whether all are the same
abbrev pub invariant-bytes : goal.invariant-bytes
invariant-bytes l = reported l.difference (drop l.i l.given) (drop l.i l.own) ≡ pointwise nat_eq l.given l.own
