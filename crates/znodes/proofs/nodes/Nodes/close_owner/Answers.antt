use Rattle.std.proofs.Common.{sym, ap, ◌∙◌}
use mathlib.Core.Path.{subst}
use Rattle.std.specs.FinMap.{remove}
use Rattle.ztree.specs.Tree.{ephemerals}
use Rattle.znodes.specs.NodesView.{NodesView}
use Rattle.znodes.specs.support.Rows.{IsLinked, known_of}
use Rattle.znodes.proofs.OwnersKnown.{linked-closed, known-closed}
use Rattle.znodes.proofs.nodes.Nodes.close_owner.Goals as goal

pub invariant_of-self : goal.invariant_of-self
invariant_of-self c =
    let s = c.self.inside in
    let none = ap (λ (v : NodesView). ephemerals v.nodes c.args.owner) c.self.view_is ∙ c.requires.owns_none in
    record {
      linked = subst (IsLinked s.slots.items s.index.ids) (sym c.close.ensures) (linked-closed s.slots.items s.index.ids s.owners c.args.owner c.self.invariant.linked none);
      mortal = c.self.invariant.mortal;
      parents = c.self.invariant.parents;
      counted = c.self.invariant.counted;
      few = c.self.invariant.few;
    }

pub returns : goal.returns
returns c =
    let s = c.self.inside in
    let view = c.self.view_is in
    let owners = ap known_of c.close.ensures ∙ known-closed s.slots.items s.index.ids s.owners c.args.owner c.self.invariant.linked ∙ ap (λ (v : NodesView). remove v.owners c.args.owner) view in
    λ i. record {
      nodes = (view i).nodes;
      places = (view i).places;
      held = (view i).held;
      owners = owners i;
      given = (view i).given;
      room = (view i).room;
    }
