use Rattle.zthreads.proofs.Onward.{went_both, went_idle}
use Rattle.zthreads.proofs.rounds.watch.Goals as goal

pub returns-then-is_halted-clause-went : goal.returns-then-is_halted-clause-went
returns-then-is_halted-clause-went c =
    let a = c.args.host.now.endpoint in
    let z = c.flush.new.self.endpoint in
    went_both a z c.stop.new.host.endpoint (went_idle a z c.flush.ensures.same c.flush.ensures.idle.books) c.stop.ensures.went
