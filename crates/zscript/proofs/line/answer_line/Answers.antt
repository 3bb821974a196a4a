use Rattle.std.proofs.lemmas.Result.{on_ok_weaker}
use Rattle.zscript.proofs.line.answer_line.Goals as goal

pub returns : goal.returns
returns c = record { done = on_ok_weaker c.answer.result (λ done. done.0) c.answer.ensures.done }
