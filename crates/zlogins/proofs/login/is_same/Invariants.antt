use Rattle.std.proofs.Common.{◌≡◌, bytes_eq, drop}
use Rattle.zlogins.proofs.Differences.{reported}
use Rattle.zlogins.proofs.login.is_same.Given as goal

-- the result so far, and the rests, determine whether all are the same
abbrev pub invariant-bytes : goal.invariant-bytes
invariant-bytes l = reported l.difference (drop l.i l.given) (drop l.i l.own) ≡ bytes_eq l.given l.own
