use Rattle.std.proofs.Common.{true, false, [], ◌∷◌, ◌∙◌}
use Rattle.ztree.specs.declared.term.Term.TheVariants.{Timed}
use Rattle.ztree.specs.Tree.{new_node, with_child, without_child}
use Rattle.ztree.specs.support.Samples.{a, b, some_node}
use Rattle.ztree.proofs.Worked.{found_changed, found_beside, root_is_above, child_is_below, second_is_below, second_still, root_still, third_there, three, one, root_left, second_gone}
use Rattle.ztree.proofs.rows.changes_of_a_tree.Goals as goal

pub returns-clause-made : goal.returns-clause-made
returns-clause-made c =
    let new = new_node b 9 (Timed 12) 41 30 in
    found_beside (three new) (a ∷ []) (with_child 41 false) some_node (second_still new) (a ∷ (b ∷ [])) (child_is_below a b) ∙ third_there new

pub returns-clause-parent : goal.returns-clause-parent
returns-clause-parent c =
    let new = new_node b 9 (Timed 12) 41 30 in
    found_changed (three new) (a ∷ []) (with_child 41 false) some_node (second_still new)

pub returns-clause-sequential : goal.returns-clause-sequential
returns-clause-sequential c =
    let new = new_node b 9 (Timed 12) 41 30 in
    found_changed (three new) (a ∷ []) (with_child 41 true) some_node (second_still new)

pub returns-clause-grandparent : goal.returns-clause-grandparent
returns-clause-grandparent c =
    let new = new_node b 9 (Timed 12) 41 30 in
    found_beside (three new) (a ∷ []) (with_child 41 true) some_node (second_still new) [] (root_is_above a) ∙ root_still new

pub returns-clause-gone : goal.returns-clause-gone
returns-clause-gone c = found_beside one [] (without_child 41) some_node root_left (a ∷ []) (second_is_below a) ∙ second_gone

pub returns-clause-left : goal.returns-clause-left
returns-clause-left c = found_changed one [] (without_child 41) some_node root_left
