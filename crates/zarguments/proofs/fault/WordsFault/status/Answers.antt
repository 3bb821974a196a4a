use Rattle.std.proofs.Common.{rules}
use Rattle.zarguments.proofs.fault.WordsFault.status.Goals as goal

pub returns-in-BadWords : goal.returns-in-BadWords
returns-in-BadWords c = search rules
