use Rattle.std.proofs.Common.{rules}
use Rattle.zops.proofs.kept.Cached.copied.Goals as goal

pub returns : goal.returns
returns c = search rules
