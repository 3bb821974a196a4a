-- Laws of all tables. The functions of `src/laws.rt` promise them.
use Rattle.std.specs.Prelude.{◌≡◌, ℕ, List}
use Rattle.zconnections.specs.Tables.{TablesView, closed, sent}

-- after the last chunk of a connection no other chunk is queued for it
abbrev pub NothingGoesBehind : Type 0
NothingGoesBehind = (c : ℕ) (bytes : List ℕ) (t : TablesView) → sent c bytes (closed c t) ≡ closed c t

-- and there is exactly one last chunk
abbrev pub ClosedOnce : Type 0
ClosedOnce = (c : ℕ) (t : TablesView) → closed c (closed c t) ≡ closed c t
