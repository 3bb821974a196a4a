use Rattle.std.proofs.Common.{ap, ◌∙◌, subst}
use Rattle.zworld.specs.Steps.{world_in}
use Rattle.zprotocol.specs.traces.Traces.{reported_of, AgreesWithRecords}
use Rattle.zprotocol.proofs.traces_lemmas.Found.{found_by, mismatched_by}
use Rattle.zaudit.proofs.auditing.examined.Goals as goal

pub returns-then-not-agree-clause-mismatch : goal.returns-then-not-agree-clause-mismatch
returns-then-not-agree-clause-mismatch c is =
    let t = c.args.traces.now in
    let replayed = c.in_default-replay.ensures.replayed in
    let differs = c.agree.ensures.no c.if-not-agree.true in
    mismatched_by t replayed.0 (world_in c.replay.new.world) replayed.1 replayed.2 (c.all_rise.ensures.yes c.if-not-all_rise.false)
    differs.0 differs.1
    (λ same. differs.2 (ap (reported_of differs.0) c.history.ensures.history ∙ same))

pub returns-clause-found : goal.returns-clause-found
returns-clause-found c =
    let t = c.args.traces.now in
    let replayed = c.in_default-replay.ensures.replayed in
    found_by t replayed.0 (world_in c.replay.new.world) replayed.1 replayed.2 (c.all_rise.ensures.yes c.if-not-all_rise.false)
    (subst (AgreesWithRecords t) c.history.ensures.history (c.agree.ensures.yes c.if-not-agree.false))
