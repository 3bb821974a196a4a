use Rattle.std.proofs.Common.{◌≡◌, ◌++◌}
use Rattle.std.specs.Prelude.{replicate}
use Rattle.zjute.specs.declared.reply.PartResult.TheVariants as result_of
use Rattle.zresponses.proofs.parts.add_errors.Given as goal

abbrev pub invariant-loop-place : goal.invariant-loop-place
invariant-loop-place l = l.results.items ≡ l.initial.results.items ++ replicate l._place (result_of.Error l.code)
