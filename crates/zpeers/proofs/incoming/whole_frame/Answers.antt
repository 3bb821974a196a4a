use Rattle.std.proofs.Common.{◌≡◌, rules, ap, ◌∙◌}
use Rattle.zcodec.proofs.Bytes.{done}
use Rattle.zwire.specs.declared.frame.Frame.{Frame}
use Rattle.zpeers.proofs.incoming.whole_frame.Goals as goal

pub returns-clause-heard : goal.returns-clause-heard
returns-clause-heard c =
    let sender : c.in-Ok.frame.sender ≡ c.args.from = search rules in
    let receiver : c.in-Ok.frame.receiver ≡ c.args.own = search rules in
    let same : ◌≡◌ {A = Frame} c.in-Ok.frame (record { sender = c.args.from; receiver = c.args.own; message = c.in-Ok.frame.message }) =
    λ i. record { sender = sender i; receiver = receiver i; message = c.in-Ok.frame.message } in
    (c.in-Ok.frame.message, c.in-Ok.ensures ∙ ap (λ (f : Frame). done f) same, c.message_in.ensures)
