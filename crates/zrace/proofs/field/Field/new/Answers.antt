use Rattle.zrun.specs.Clients.{BelongsTo}
use Rattle.zrun.specs.Members.{clients_run}
use Rattle.zrace.specs.Runners.{given_client, Handle}
use Rattle.zrace.proofs.Cached.{all_of_none}
use Rattle.zrace.proofs.Seen.{none_seen}
use Rattle.zrace.proofs.field.Field.new.Goals as goal

pub invariant_of-field : goal.invariant_of-field
invariant_of-field c =
    let run = clients_run c.args.clients in
    record {
      own = all_of_none (λ (h : Handle). BelongsTo run (given_client h)) c.args.room.handles.items c.args.room.none_runs;
      reported = none_seen run c.args.room.versions.items c.args.room.none_reported;
    }
