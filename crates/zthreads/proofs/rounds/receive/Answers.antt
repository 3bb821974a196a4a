use Rattle.zactor.specs.declared.handed.Handed.TheVariants.{Nothing}
use Rattle.zthreads.proofs.Onward.{went_received}
use Rattle.zthreads.proofs.rounds.receive.Goals as goal

pub returns-clause-went : goal.returns-clause-went
returns-clause-went g c = went_received c.args.host.now c.turn-done.new.self Nothing c.turn-done.new.handed c.in-Some.done c.turn-done.ensures.same c.in-Some.ensures.received

pub returns-clause-received : goal.returns-clause-received
returns-clause-received g c is = (c.in-Some.done, c.turn-done.new.handed, c.in-Some.ensures.received)
