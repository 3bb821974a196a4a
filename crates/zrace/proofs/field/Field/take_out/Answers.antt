use Rattle.std.proofs.Common.{sym, subst}
use Rattle.std.specs.Prelude.{All}
use Rattle.zrun.specs.Clients.{BelongsTo}
use Rattle.zrun.specs.Origins.{Run}
use Rattle.zrace.specs.Runners.{given_client, Handle}
use Rattle.zrace.specs.Seen.{AreSeenIn}
use Rattle.zrace.proofs.field.Field.take_out.Goals as goal

pub invariant_of-self : goal.invariant_of-self
invariant_of-self c =
    let field = c.args.self.now in
    record {
      own = subst (λ (run : Run). All (λ (h : Handle). BelongsTo run (given_client h)) field.handles.items) (sym c.racer.ensures.run) field.own;
      reported = subst (λ (run : Run). AreSeenIn run field.versions.items) (sym c.racer.ensures.run) field.reported;
    }
