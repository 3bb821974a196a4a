use Rattle.std.proofs.Common.{[], ◌∷◌, get_or, refl, sym, ap, subst, ◌∙◌}
use Rattle.std.specs.FinSet.{remove}
use Rattle.zwatches.specs.declared.by_connection.ByConnection.{ByConnection}
use Rattle.zwatches.specs.Watches.{Path, Watches, place, watch}
use Rattle.zwatches.specs.support.Nested.{AreFound}
use Rattle.zwatches.proofs.Found.{removed_found}
use Rattle.zwatches.proofs.Unfired.{none_left, one_less}
use Rattle.zwatches.proofs.firing.remove_at.Goals as goal
use Rattle.zwatches.proofs.firing.remove_at.Goals.{then-remove, else-remove}

pub loop-connection-init : goal.loop-connection-init
loop-connection-init c = record {
  found = c.requires;
  gone = none_left c.args.watches.now (place c.args.path.now c.args.kind ∷ []);
}

pub tidy-requires : goal.tidy-requires
tidy-requires c =
    let rows = c.loop-connection.paths.paths.entries in
    subst (λ (t : Watches). AreFound rows t) (sym c.remove.ensures.gone) (removed_found rows c.loop-connection.watches _ c.loop-connection.invariant.found)

pub loop-connection-preserved : goal.loop-connection-preserved
loop-connection-preserved c =
    let now = c.loop-connection.watches in
    let i = c.loop-connection.connection-index in
    let rows = c.loop-connection.paths.paths.entries in
    let k = get_or c.args.connections.now i 0 in
    record {
      found = elim c.if-remove.branch [
        | then-remove w ↦ subst (λ (p : ByConnection). AreFound p.paths.entries c.remove.new.self) (sym w.paths-is) w.tidy.ensures
        | else-remove w ↦ subst (λ (p : ByConnection). AreFound p.paths.entries c.remove.new.self) (sym w.paths-is)
            (subst (λ (t : Watches). AreFound rows t) (sym c.remove.ensures.gone) (removed_found rows now _ c.loop-connection.invariant.found))
      ];
      gone =
          c.remove.ensures.gone
          ∙ ap (λ (p : Path). remove now (watch p c.args.kind k)) c.names.ensures.names
          ∙ one_less c.args.watches.now now c.args.connections.now i k c.args.path.now c.args.kind c.loop-connection-test.true refl c.loop-connection.invariant.gone;
    }
