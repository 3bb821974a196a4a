use Rattle.std.proofs.Common.{sym, ap, ◌∙◌, Option}
use Rattle.std.specs.BTreeSet.{BTreeSet}
use Rattle.std.specs.FinSet.{items}
use Rattle.std.specs.List.{list_any}
use Rattle.zwatches.specs.declared.slot.Slot.{Slot}
use Rattle.zwatches.specs.Watches.{Watches, place}
use Rattle.zwatches.specs.Events.{is_at}
use Rattle.zwatches.specs.support.Nested.{is_of, one_of}
use Rattle.zwatches.proofs.ByPath.{has-rows, names_of, slots_in}
use Rattle.zwatches.proofs.by_path.ByPath.has.Goals as goal

pub returns-in-Some : goal.returns-in-Some
returns-in-Some c =
    let at = place c.args.names.now c.args.kind in
    c.has_kind.ensures
    ∙ ap (λ (o : Option (BTreeSet Slot)). one_of o slots_in (is_of c.args.kind)) c.in-Some.ensures.value
    ∙ sym (has-rows names_of slots_in c.self.inside.at.entries c.self.invariant c.args.names.now c.args.kind)
    ∙ ap (λ (t : Watches). list_any (is_at at) (items t)) c.self.view_is

pub returns-in-None : goal.returns-in-None
returns-in-None c =
    let at = place c.args.names.now c.args.kind in
    ap (λ (o : Option (BTreeSet Slot)). one_of o slots_in (is_of c.args.kind)) c.in-None.ensures.value
    ∙ sym (has-rows names_of slots_in c.self.inside.at.entries c.self.invariant c.args.names.now c.args.kind)
    ∙ ap (λ (t : Watches). list_any (is_at at) (items t)) c.self.view_is
