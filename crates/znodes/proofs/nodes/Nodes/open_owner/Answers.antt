use Rattle.std.proofs.Common.{sym, ap, ◌∙◌}
use mathlib.Core.Path.{subst}
use Rattle.std.specs.FinMap.{get, insert}
use Rattle.znodes.specs.NodesView.{NodesView}
use Rattle.znodes.specs.support.Rows.{IsLinked, known_of}
use Rattle.znodes.proofs.OwnersKnown.{linked-opened, known-opened}
use Rattle.znodes.proofs.nodes.Nodes.open_owner.Goals as goal

pub invariant_of-self : goal.invariant_of-self
invariant_of-self c =
    let s = c.self.inside in
    record {
      linked = subst (IsLinked s.slots.items s.index.ids) (sym c.in_err-open.ensures.err) c.self.invariant.linked;
      mortal = c.self.invariant.mortal;
      parents = c.self.invariant.parents;
      counted = c.self.invariant.counted;
      few = c.self.invariant.few;
    }

pub invariant_of-self-2 : goal.invariant_of-self-2
invariant_of-self-2 c =
    let s = c.self.inside in
    let free = ap (λ (v : NodesView). get v.owners c.args.owner) c.self.view_is ∙ c.requires.free in
    record {
      linked = subst (IsLinked s.slots.items s.index.ids) (sym c.in_ok-open.ensures.ok) (linked-opened s.slots.items s.index.ids s.owners c.args.owner c.self.invariant.linked free);
      mortal = c.self.invariant.mortal;
      parents = c.self.invariant.parents;
      counted = c.self.invariant.counted;
      few = c.self.invariant.few;
    }

pub returns-clause-ok : goal.returns-clause-ok
returns-clause-ok c =
    let s = c.self.inside in
    let view = c.self.view_is in
    let owners = ap known_of c.in_ok-open.ensures.ok ∙ known-opened s.slots.items s.index.ids s.owners c.args.owner c.self.invariant.linked ∙ ap (λ (v : NodesView). insert v.owners c.args.owner tt) view in
    λ i. record {
      nodes = (view i).nodes;
      places = (view i).places;
      held = (view i).held;
      owners = owners i;
      given = (view i).given;
      room = (view i).room;
    }
