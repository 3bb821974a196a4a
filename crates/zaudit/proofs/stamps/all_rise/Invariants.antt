use Rattle.std.proofs.Common.{◌≡◌, ◌<◌, ℕ, true}
use Rattle.zprotocol.specs.traces.Traces.{trace_of, stamps_rise}
use Rattle.zprotocol.specs.traces.support.Places.{process_at}
use Rattle.zaudit.proofs.stamps.all_rise.Given as goal

abbrev pub invariant-loop-place : goal.invariant-loop-place
invariant-loop-place l = (j : ℕ) → j < l.place → stamps_rise (trace_of l.traces (process_at l.traces j)) ≡ true
