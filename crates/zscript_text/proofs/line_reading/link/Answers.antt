use Rattle.std.proofs.Common.{rules}
use Rattle.zscript_text.proofs.line_reading.link.Goals as goal

pub returns : goal.returns
returns c = search rules
