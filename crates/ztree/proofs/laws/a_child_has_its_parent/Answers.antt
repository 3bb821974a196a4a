use Rattle.ztree.proofs.Listed.{is_parent_of_child}
use Rattle.ztree.proofs.laws.a_child_has_its_parent.Goals as goal

pub returns : goal.returns
returns c = is_parent_of_child
