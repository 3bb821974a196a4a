use Rattle.std.proofs.Common.{rules, None, Some, refl, ◌∙◌}
use Rattle.zsnapshots.specs.folder.States.{after}
use Rattle.zdurable.specs.DurableFront.{made_in, more_if}
use Rattle.zdaemon.proofs.folder.keep.Goals as goal

pub returns-then-not-branch-clause-keeps : goal.returns-then-not-branch-clause-keeps
returns-then-not-branch-clause-keeps g c = record {
  committed = c.commit.new.self;
  from = c.commit.ensures.measured;
  begun = None;
  tried = search rules;
  measured = refl;
  taken = c.in_ok-commit.ensures.taken;
  keeps = λ servers batches t serving.
      let is = c.in_ok-commit.ensures.kept servers batches t c.requires.0 serving in
      (is, is);
}

pub returns-clause-keeps : goal.returns-clause-keeps
returns-clause-keeps g c = record {
  committed = c.commit.new.self;
  from = c.commit.ensures.measured;
  begun = Some c.in_ok-split.field-0;
  tried = search rules;
  measured = c.in_ok-split.ensures.measured;
  taken = c.split.ensures.front ∙ c.in_ok-commit.ensures.taken;
  keeps = λ servers batches t serving.
      let made = made_in c.args.kept.now in
      let is = c.in_ok-commit.ensures.kept servers batches t c.requires.0 serving in
      (is, c.in_ok-split.ensures.kept servers (more_if made batches) (after t made) c.in_ok-commit.ensures.open.1 is);
}
