use Rattle.std.proofs.Common.{◌||◌, ◌∙◌}
use Rattle.zwatches.proofs.Removing.{meant_there, one_of_six}
use Rattle.zwatches.proofs.removal.has_meant.Goals as goal

pub returns : goal.returns
returns c =
    one_of_six c.has_kind-of_data.result c.has_kind-missing.result c.has_kind-children.result c.has_kind-each_data.result c.has_kind-each_children.result
    c.has_kind-recursive.result
    ∙ (λ i.
    c.has_kind-of_data.ensures i
    || (c.has_kind-missing.ensures i
    || (c.has_kind-children.ensures i || (c.has_kind-each_data.ensures i || (c.has_kind-each_children.ensures i || c.has_kind-recursive.ensures i)))))
    ∙ meant_there c.args.connection c.args.type_of c.args.names.now c.args.watches.now
