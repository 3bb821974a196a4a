use Rattle.std.proofs.Common.{refl}
use Rattle.zscript_text.proofs.rows.words.Goals as goal

pub returns-clause-no_client : goal.returns-clause-no_client
returns-clause-no_client c = refl
