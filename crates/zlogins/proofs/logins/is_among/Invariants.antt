use Rattle.std.proofs.Common.{◌≡◌, ◌||◌, drop}
use Rattle.zlogins.specs.Logins.{is_among}
use Rattle.zlogins.proofs.logins.is_among.Given as goal

-- the login is one of those so far, or of the rest
abbrev pub invariant-all : goal.invariant-all
invariant-all l = (l.has || is_among l.login (drop l.one-index l.all)) ≡ is_among l.login l.all
