use Rattle.std.proofs.Common.{refl}
use Rattle.zprotocol.specs.declared.traces.trace.Act.TheVariants.{Halted}
use Rattle.zactor.specs.declared.input.Input.TheVariants.{Stop}
use Rattle.zactor.specs.Acting.{reported_by}
use Rattle.zthreads.specs.Endpoints.{process_of}
use Rattle.zthreads.proofs.Onward.{went_further}
use Rattle.zthreads.proofs.rounds.stop.Goals as goal

pub returns-in-Ok-clause-went : goal.returns-in-Ok-clause-went
returns-in-Ok-clause-went c =
    let a = c.args.host.now.endpoint in
    went_further a c.give.new.self.endpoint c.give.ensures.same Halted (reported_by (process_of a) Stop c.in-Ok.done) c.in-Ok.ensures.gave.did.entered refl
