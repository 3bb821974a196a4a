use Rattle.std.specs.Prelude.{option_to_list}
use Rattle.std.specs.Option.{option_map}
use Rattle.std.proofs.Common.{◌≡◌, ℕ, Some, ap, is_some, refl, sym, ◌∙◌}
use mathlib.Core.Bool.{true≢false}
use Rattle.zprotocol.specs.declared.process.Process.TheVariants.{Master, Server, Client}
use Rattle.zprotocol.specs.client.Table.{client_step}
use Rattle.zprotocol.specs.declared.world.history.CallEvent.TheVariants as call_event
use Rattle.zprotocol.specs.world.Does.{AtClient, answer_reported}
use Rattle.zactor.specs.Acting.{with_reply}
use Rattle.zactor.proofs.Replies.{handed_out}
use Rattle.zactor.proofs.hearing.hear_as_client.Goals as goal

pub unreachable-requires : goal.unreachable-requires
unreachable-requires c =
    let given =
    handed_out c.args.client.now c.args.from c.args.message c.in-Ok-Some.reply (sym c.in-Ok-Some.field-0-is ∙ c.in-Ok-Some.ensures.reply) in
    true≢false (ap is_some (sym given.1 ∙ sym c.answered_number-number.ensures ∙ c.in_default.is))

pub returns-in-Some-clause-acted : goal.returns-in-Some-clause-acted
returns-in-Some-clause-acted c (Client n) is =
    let reply = c.in-Ok-Some.reply in
    let given = handed_out c.args.client.now c.args.from c.args.message reply (sym c.in-Ok-Some.field-0-is ∙ c.in-Ok-Some.ensures.reply) in
    let both : Some given.0 ≡ Some c.in-Some.number = sym given.1 ∙ sym c.answered_number-number.ensures ∙ c.in-Some.is in
    let same : given.0 ≡ c.in-Some.number = cc both in
    let handed : (client_step c.args.client.now c.args.from c.args.message).2 ≡ Some (c.in-Some.number, reply) =
    given.2 ∙ ap (λ (k : ℕ). Some (k, reply)) same in
    record {
      comes = ap is_some given.3;
      accepted = refl;
      left = ap (λ x. AtClient x) c.in-Ok-Some.ensures.next;
      stands = refl;
      puts = c.in-Ok-Some.ensures.puts;
      owed = λ e. absurd (true≢false (sym e));
      reported = ap (λ o. answer_reported n o) handed
          ∙ sym (ap (λ o. option_to_list (option_map (λ r. call_event.Answer n c.in-Some.number r) o)) given.3);
    }
returns-in-Some-clause-acted c Master is = absurd (true≢false (sym is))
returns-in-Some-clause-acted c (Server s) is = absurd (true≢false (sym is))

pub returns-in-Some-clause-handed : goal.returns-in-Some-clause-handed
returns-in-Some-clause-handed c =
    let given =
    handed_out c.args.client.now c.args.from c.args.message c.in-Ok-Some.reply (sym c.in-Ok-Some.field-0-is ∙ c.in-Ok-Some.ensures.reply) in
    search (ap (λ o. with_reply o c.args.handed.now) given.3)
