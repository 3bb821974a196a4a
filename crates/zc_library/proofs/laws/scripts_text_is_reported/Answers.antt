use Rattle.zc_library.proofs.Uses.{scripts_text_is_reported}
use Rattle.zc_library.proofs.laws.scripts_text_is_reported.Goals as goal

pub returns : goal.returns
returns c = scripts_text_is_reported
