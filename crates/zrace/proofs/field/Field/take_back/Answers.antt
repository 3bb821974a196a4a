use Rattle.std.proofs.Common.{◌≡◌, false, sym, subst, ap, ◌∙◌}
use Rattle.std.specs.Prelude.{All, is_some}
use Rattle.zrun.specs.Clients.{BelongsTo, number_of}
use Rattle.zrun.specs.Members.{client_at, clients_run}
use Rattle.zrun.specs.Origins.{Run}
use Rattle.zrace.specs.Runners.{given_client, Handle}
use Rattle.zrace.specs.Seen.{AreSeenIn}
use Rattle.zrace.proofs.Seen.{all_seen_in_run}
use Rattle.zrace.proofs.Shown.{all_put, mine_put}
use Rattle.zrace.proofs.field.Field.take_back.Goals as goal

pub invariant_of-self : goal.invariant_of-self
invariant_of-self c =
    let field = c.args.self.now in
    let run = clients_run field.clients in
    let racer = c.args.racer in
    let reported = c.note_all.ensures.reported run field.reported (all_seen_in_run run racer.client racer.seen.items c.requires racer.reported) in
    record {
      own = subst (λ (r : Run). All (λ (h : Handle). BelongsTo r (given_client h)) field.handles.items) (sym c.put.ensures.run) field.own;
      reported = subst (λ (r : Run). AreSeenIn r c.note_all.new.versions.items) (sym c.put.ensures.run) reported;
    }

pub returns-clause-recorded : goal.returns-clause-recorded
returns-clause-recorded c recorded =
    let field = c.args.self.now in
    let racer = c.args.racer in
    let new = c.put.new.self in
    let free : is_some (client_at field.clients (number_of racer.client)) ≡ false =
    ap (λ k. is_some (client_at field.clients k)) (sym c.id.ensures) ∙ sym c.has.ensures ∙ c.if-has.false in
    c.note_all.ensures.recorded new (all_put field.clients new racer.client free c.put.ensures.others c.put.ensures.back field.versions.items recorded)
    (mine_put field.clients new racer.client free c.put.ensures.others c.put.ensures.back racer.seen.items racer.recorded)
