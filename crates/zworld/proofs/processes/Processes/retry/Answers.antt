use Rattle.zworld.proofs.Given.{retried}
use Rattle.zworld.proofs.processes.Processes.retry.Goals as goal

-- a call is sent once more
pub returns-in-Ok-clause-stepped : goal.returns-in-Ok-clause-stepped
returns-in-Ok-clause-stepped c = retried c.args.self.now c.give-done.new.self c.args.client c.in-Ok.done c.in-Ok.ensures.given
