use Rattle.std.proofs.Common.{ap, ◌∙◌}
use Rattle.zwatches.specs.declared.kind.Kind.{Kind}
use Rattle.zwatches.specs.declared.kind.Kind.TheVariants.{Missing, Children, EachData, EachChildren, Recursive}
use Rattle.zwatches.specs.Watches.{Watches}
use Rattle.zwatches.proofs.Removing.{removed_all, rest}
use Rattle.zwatches.proofs.removal.remove_each.Goals as goal

pub returns : goal.returns
returns c =
    let without = λ (kind : Kind) (table : Watches). rest c.args.connection c.args.type_of c.args.names.now kind table in
    c.remove_kind-6.ensures
    ∙ ap (without Recursive) (c.remove_kind-5.ensures
    ∙ ap (without EachChildren) (c.remove_kind-4.ensures
    ∙ ap (without EachData) (c.remove_kind-3.ensures
    ∙ ap (without Children) (c.remove_kind-2.ensures
    ∙ ap (without Missing) c.remove_kind.ensures))))
    ∙ removed_all c.args.connection c.args.type_of c.args.names.now c.args.watches.now
