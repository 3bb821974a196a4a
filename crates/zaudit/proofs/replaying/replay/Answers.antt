use Rattle.std.proofs.Common.{◌≡◌, replicate, sym, ◌∙◌, subst}
use Rattle.zworld.specs.Steps.{world_in}
use Rattle.zprotocol.specs.traces.support.Places.{HasReplayed}
use Rattle.zprotocol.proofs.traces_lemmas.Places.{replayed_nothing}
use Rattle.zaudit.proofs.replaying.replay.Goals as goal

pub replay_rest-requires-clause-replayed : goal.replay_rest-requires-clause-replayed
replay_rest-requires-clause-replayed c =
    let t = c.args.traces.now in
    let made : c.in_ok-read.read.items ≡ replicate c.count_of.result 0 = c.in_ok-read.ensures in
    let lent : c.deref_mut.result.now ≡ c.in_ok-read.read.items = c.deref_mut.ensures.value in
    subst (λ read. HasReplayed t read (world_in c.args.world.now)) (sym (lent ∙ made))
    (replayed_nothing t c.count_of.result (world_in c.args.world.now) c.requires.opening)
