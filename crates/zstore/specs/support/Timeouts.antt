-- The timeouts of sessions.
use Rattle.std.specs.Prelude.{◌≡◌, ℕ, ◌≤◌, Some}
use Rattle.std.specs.FinMap.{get}
use Rattle.ztree.specs.declared.session.Session.{Session}
use Rattle.ztree.specs.Tree.{Sessions}

-- the session, if it exists, has at most this timeout
abbrev pub HasTimeoutWithin : Sessions → ℕ → ℕ → Type 0
HasTimeoutWithin sessions most id = (s : Session) → get sessions id ≡ Some s → s.timeout ≤ most
