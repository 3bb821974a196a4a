use Rattle.std.proofs.lemmas.Option.{IfSome_then}
use Rattle.zrace.proofs.Records.{continues_both}
use Rattle.zrace.proofs.Seen.{same_through}
use Rattle.zrace.proofs.racer.call_thrice.Goals as goal

pub returns-clause-reported : goal.returns-clause-reported
returns-clause-reported c =
    let first = c.args.client.now in
    let last = c.halt_one.new.client in
    let both = same_through first c.ask.new.client c.ask-2.new.client c.ask.ensures.same c.ask-2.ensures.same in
    IfSome_then c.version_of.result c.version_of.ensures.reported
    (λ version reported. (last, same_through first c.ask-2.new.client last both c.halt_one.ensures.same, reported c.args.node c.in_ok-path.ensures))

pub returns-clause-recorded : goal.returns-clause-recorded
returns-clause-recorded c =
    IfSome_then c.version_of.result c.version_of.ensures.recorded (λ version recorded. recorded c.args.node c.in_ok-path.ensures)

pub returns-clause-goes : goal.returns-clause-goes
returns-clause-goes c =
    let first = c.args.client.now in
    let second = c.ask-2.new.client in
    let last = c.halt_one.new.client in
    let both = continues_both first c.ask.new.client second c.ask.ensures.goes c.ask-2.ensures.goes in
    continues_both first last c.version_of.new.client (continues_both first second last both c.halt_one.ensures.goes) c.version_of.ensures.goes
