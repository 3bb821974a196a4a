use Rattle.zscript.proofs.Unended.{unended_lines_have_no_answer}
use Rattle.zscript.proofs.laws.unended_lines_have_no_answer.Goals as goal

pub returns : goal.returns
returns c = unended_lines_have_no_answer
