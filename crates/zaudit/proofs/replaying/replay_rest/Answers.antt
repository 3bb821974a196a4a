use Rattle.zaudit.proofs.replaying.replay_rest.Goals as goal

pub returns-clause-replayed : goal.returns-clause-replayed
returns-clause-replayed c = (c.replay_next.new.read, c.in_ok-replay_next.ensures.replayed, c.in_ok-replay_next.ensures.all c.if-branch.false)
