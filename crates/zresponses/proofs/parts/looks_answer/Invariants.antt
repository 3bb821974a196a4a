use Rattle.std.proofs.Common.{◌≡◌, take}
use Rattle.std.specs.Prelude.{map}
use Rattle.zresponses.specs.Results.{look_result}
use Rattle.zresponses.proofs.parts.looks_answer.Given as goal

abbrev pub invariant-loop-reply : goal.invariant-loop-reply
invariant-loop-reply l = l.results.items ≡ map (look_result l.clock) (take l.reply-index l.replies)
