use Rattle.std.proofs.Common.{rules}
use Rattle.zpath.proofs.scan.is_reserved_child.Goals as goal

pub returns-then-is_empty : goal.returns-then-is_empty
returns-then-is_empty c = search rules
