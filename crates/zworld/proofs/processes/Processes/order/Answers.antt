use Rattle.zworld.proofs.Given.{obeyed}
use Rattle.zworld.proofs.processes.Processes.order.Goals as goal

-- the master obeys
pub returns-in-Ok-clause-stepped : goal.returns-in-Ok-clause-stepped
returns-in-Ok-clause-stepped c = obeyed c.args.self.now c.give-done.new.self c.args.order c.in-Ok.done c.in-Ok.ensures.given
