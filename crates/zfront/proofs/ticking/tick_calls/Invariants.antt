use Rattle.std.proofs.Common.{◌≡◌, take}
use Rattle.std.specs.Prelude.{map}
use Rattle.zfront.specs.Ticking.{ping}
use Rattle.zfront.proofs.ticking.tick_calls.Given as goal

abbrev pub invariant-loop-session : goal.invariant-loop-session
invariant-loop-session l = l.calls.items ≡ map ping (take l.session-index l.sessions)
