use Rattle.std.proofs.Common.{refl}
use Rattle.zscript_text.proofs.rows.process_words.Goals as goal

pub returns-clause-server_zero : goal.returns-clause-server_zero
returns-clause-server_zero c = refl

pub returns-clause-no_client : goal.returns-clause-no_client
returns-clause-no_client c = refl
