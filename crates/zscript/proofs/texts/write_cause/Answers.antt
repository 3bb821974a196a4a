use Rattle.std.proofs.Common.{rules}
use Rattle.zscript.proofs.texts.write_cause.Goals as goal

pub returns-in_ok-push_str-in-Begin-Busy : goal.returns-in_ok-push_str-in-Begin-Busy
returns-in_ok-push_str-in-Begin-Busy c = search rules
