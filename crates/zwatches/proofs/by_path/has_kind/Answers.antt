use Rattle.std.proofs.Common.{◌∙◌}
use Rattle.std.specs.Map.Iter.{deref}
use Rattle.zwatches.proofs.Slots.{first_of}
use Rattle.zwatches.proofs.by_path.has_kind.Goals as goal

pub returns : goal.returns
returns c =
    c.is_some.ensures
    ∙ first_of deref c.args.kind c.args.slots.now.keys c.of_kind.result c.next.result c.next.new.self c.of_kind.ensures c.next.ensures.steps
