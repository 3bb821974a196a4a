use Rattle.std.proofs.Common.{ap, subst, ◌∙◌}
use Rattle.zops.specs.Restored.{rooted_machine, CanBegin}
use Rattle.zsnapshots.proofs.reading.Reading.rooted.Goals as goal

pub of-requires : goal.of-requires
of-requires c =
    let h = c.args.header in
    record {
      at_root = c.requires;
      node = c.args.root;
      can = subst (λ last. CanBegin c.args.root h.time h.zxid last h.limits) c.number-last.ensures.same c.in-Ok.ensures.can;
      state = c.in-Ok.ensures.state ∙ ap (λ last. rooted_machine c.args.root h.time h.zxid last h.limits) c.number-last.ensures.same;
    }
