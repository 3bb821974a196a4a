use Rattle.zscript_text.proofs.Prefixes.{stripped, unstripped}
use Rattle.zscript_text.proofs.words.behind.Goals as goal

pub returns-clause-rest : goal.returns-clause-rest
returns-clause-rest c = stripped c.args.front.now c.args.word.now c.strip_prefix.result c.strip_prefix.ensures.cases

pub returns-clause-none : goal.returns-clause-none
returns-clause-none c = unstripped c.args.front.now c.args.word.now c.strip_prefix.result c.strip_prefix.ensures.cases
