use Rattle.std.proofs.Common.{◌≡◌, ◌++◌, drop}
use Rattle.zresponses.specs.Results.{part_results}
use Rattle.zresponses.proofs.parts.results_of.Given as goal

abbrev pub invariant-loop-place : goal.invariant-loop-place
invariant-loop-place l =
    l.results.items ++ part_results l.clock l.at (drop l.place l.asked) (drop l.place l.parts) (drop l.place l.replies)
    ≡ part_results l.clock l.at l.asked l.parts l.replies
