use Rattle.std.proofs.Common.{not, sym, ap, subst, ◌∙◌}
use Rattle.zwatches.specs.declared.watch.Watch.{Watch}
use Rattle.zwatches.specs.Watches.{Path, Watches}
use Rattle.zwatches.specs.Removal.{is_meant, without_meant}
use Rattle.zwatches.specs.support.Nested.{AreFound}
use Rattle.zwatches.proofs.Found.{kept_found}
use Rattle.zwatches.proofs.removal.remove_meant.Goals as goal

pub tidy-requires : goal.tidy-requires
tidy-requires c =
    let rows = c.args.paths.now.paths.entries in
    subst (λ (t : Watches). AreFound rows t) (sym c.remove_each.ensures)
    (kept_found rows c.args.watches.now (λ (w : Watch). not (is_meant c.args.connection c.args.type_of c.names.result.now w)) c.requires)

pub returns : goal.returns
returns c = record {
  found = c.tidy.ensures;
  gone = c.remove_each.ensures ∙ ap (λ (p : Path). without_meant c.args.watches.now c.args.connection c.args.type_of p) c.names.ensures.names;
}
