use Rattle.std.proofs.Common.{rules}
use Rattle.zscript_text.proofs.words.client_in.Goals as goal

pub returns-in_default : goal.returns-in_default
returns-in_default c = search rules
