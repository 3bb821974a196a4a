use Rattle.std.proofs.Common.{rules}
use Rattle.zscript_text.proofs.words.server_in.Goals as goal

pub returns-in-Some : goal.returns-in-Some
returns-in-Some c = search rules
