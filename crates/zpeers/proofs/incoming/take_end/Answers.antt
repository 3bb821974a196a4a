use Rattle.std.proofs.Common.{◌≡◌, [], sym, ◌∙◌}
use Rattle.zpeers.proofs.Outs.{if_ok}
use Rattle.zpeers.proofs.Arrives.{no_bytes, end_accepted}
use Rattle.zpeers.proofs.incoming.take_end.Goals as goal

pub returns-clause-accepted : goal.returns-clause-accepted
returns-clause-accepted c =
    let empty : c.args.bytes.now ≡ [] = no_bytes c.args.bytes.now (sym c.is_empty.ensures ∙ c.if-not-is_empty.false) in
    if_ok c.finish.result _ _ c.finish.ensures.message (λ m finished own from.
    end_accepted c.args.slot.now c.take.new.self c.in-Some.arriving c.args.bytes.now m (sym c.take.ensures.value ∙ c.in-Some.is) empty
    c.take.ensures.after finished own from)
