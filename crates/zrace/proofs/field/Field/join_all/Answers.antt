use Rattle.std.proofs.Common.{Some, ◌∙◌}
use Rattle.std.proofs.lemmas.List.Elements.{All-pop}
use Rattle.zrun.specs.Clients.{BelongsTo}
use Rattle.zrun.specs.Members.{clients_run}
use Rattle.zrun.proofs.Still.{still_belongs}
use Rattle.zrace.specs.Runners.{given_client, Handle}
use Rattle.zrace.proofs.field.Field.join_all.Goals as goal

pub take_back-requires : goal.take_back-requires
take_back-requires g c =
    let field = c.loop-handle.self in
    let run = clients_run field.clients in
    let handle = c.in-Some.handle in
    still_belongs run (given_client handle) c.join.result.client
    (All-pop (λ (h : Handle). BelongsTo run (given_client h)) field.handles.items c.pop.new.self.items (Some handle)
    c.in-Some.ensures.items field.own).1
    c.join.ensures

pub loop-handle-preserved : goal.loop-handle-preserved
loop-handle-preserved g c =
    let i = c.loop-handle.invariant in
    let b = c.take_back.ensures in (
      b.clients ∙ i.0,
      b.nodes ∙ i.1,
      λ recorded. b.recorded (i.2 recorded),
    )
