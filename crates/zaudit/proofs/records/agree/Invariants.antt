use Rattle.std.proofs.Common.{◌≡◌, ◌<◌, ℕ}
use Rattle.zprotocol.specs.traces.Traces.{reported_of, record_of}
use Rattle.zaudit.proofs.records.agree.Given as goal

abbrev pub invariant-loop-place : goal.invariant-loop-place
invariant-loop-place l = (c : ℕ) → c < l.place → reported_of c l.history ≡ record_of l.traces c
