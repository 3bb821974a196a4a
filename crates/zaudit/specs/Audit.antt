-- What an audit requires of traces first.
use Rattle.std.specs.Prelude.{◌≡◌, false}
use Rattle.zprotocol.specs.declared.traces.trace.Traces.{Traces}
use Rattle.zprotocol.specs.traces.Audit.{is_any_cut}

-- no trace is cut
abbrev pub AreUncut : Traces → Type 0
AreUncut t = is_any_cut t ≡ false
