use Rattle.std.proofs.Common.{sym, subst}
use Rattle.zrun.specs.declared.client.Client.{Client}
use Rattle.zrun.specs.Clients.{BelongsTo}
use Rattle.zrun.specs.Members.{clients_run}
use Rattle.zrace.specs.Runners.{given_client, Handle}
use Rattle.zrace.proofs.Cached.{all_kept}
use Rattle.zrace.proofs.field.Field.start.Goals as goal

pub invariant_of-self : goal.invariant_of-self
invariant_of-self g c =
    let field = c.args.self.now in
    let run = clients_run field.clients in
    let handle = c.in_ok-handle.handle in
    record {
      own = all_kept (λ (h : Handle). BelongsTo run (given_client h)) field.handles.items c.keep.new.all.items handle c.keep.ensures field.own
          (subst (λ (x : Client). BelongsTo run x) (sym c.in_ok-handle.ensures.given) c.requires);
      reported = field.reported;
    }
