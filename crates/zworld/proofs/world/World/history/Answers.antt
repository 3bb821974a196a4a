use Rattle.std.proofs.Common.{subst, sym, ap, ◌∙◌}
use Rattle.zprotocol.specs.world.PlainTree.{IsExplained}
use Rattle.zworld.specs.Steps.{WorldView, IsExplainedFromStart}
use Rattle.zworld.proofs.Going.{past_is_explained, whole_is_explained}
use Rattle.zworld.proofs.world.World.history.Goals as goal

pub returns-clause-explained : goal.returns-clause-explained
returns-clause-explained c = subst IsExplainedFromStart c.self.view_is (past_is_explained _ c.self.invariant)

pub returns-clause-whole : goal.returns-clause-whole
returns-clause-whole c whole =
    let w : WorldView = record {
      held = c.self.inside.processes;
      history = c.self.inside.history.items;
      has_forgotten = c.self.inside.has_forgotten;
      is_restored = c.self.inside.is_restored;
      is_broken = c.self.inside.is_broken;
    } in
    subst IsExplained (sym c.deref.ensures.value) (whole_is_explained w c.self.invariant (ap (λ (v : WorldView). v.has_forgotten) c.self.view_is
    ∙ whole))
