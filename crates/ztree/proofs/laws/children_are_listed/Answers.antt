use Rattle.ztree.proofs.Listed.{lists_children}
use Rattle.ztree.proofs.laws.children_are_listed.Goals as goal

pub returns : goal.returns
returns c = lists_children
