use Rattle.std.proofs.Common.{◌≡◌, true, false, inl, inr, refl, ap, sym, ◌∙◌}
use Rattle.std.specs.Prelude.{is_some}
use Rattle.ztree.proofs.Maps.{none_some}
use Rattle.zstore.specs.support.Samples.{plain}
use Rattle.zstore.proofs.Worked.{root_there, none_at_a, session_there, one_node, not_owner, two_ends, owned_container_ends, not_persistent}
use Rattle.zstore.proofs.rows.nodes_that_can_be_put.Goals as goal

pub returns-clause-yes : goal.returns-clause-yes
returns-clause-yes c = record {
  free = ap is_some none_at_a;
  parent = (plain, root_there, refl);
  owner = inr (ap is_some session_there);
  one_end = inl refl;
  few = one_node;
}

pub returns-clause-taken : goal.returns-clause-taken
returns-clause-taken c = λ can. let bad : true ≡ false = sym (ap is_some root_there) ∙ can.free in cc

pub returns-clause-before_its_parent : goal.returns-clause-before_its_parent
returns-clause-before_its_parent c =
    λ can. none_some can.parent.0 (sym none_at_a ∙ can.parent.1)

pub returns-clause-of_an_ephemeral : goal.returns-clause-of_an_ephemeral
returns-clause-of_an_ephemeral c = λ can. not_persistent can.parent

pub returns-clause-of_no_session : goal.returns-clause-of_no_session
returns-clause-of_no_session c = λ can. not_owner can.owner

pub returns-clause-two_ends : goal.returns-clause-two_ends
returns-clause-two_ends c = λ can. two_ends can.one_end

pub returns-clause-owned_container : goal.returns-clause-owned_container
returns-clause-owned_container c = λ can. owned_container_ends can.one_end
