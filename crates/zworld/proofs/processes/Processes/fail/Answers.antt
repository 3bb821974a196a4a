use Rattle.zworld.proofs.Given.{failed, still_failed}
use Rattle.zworld.proofs.processes.Processes.fail.Goals as goal

-- a server that accepts it fails
pub returns-in-Ok : goal.returns-in-Ok
returns-in-Ok c = failed c.args.self.now c.give-done.new.self c.args.server c.in-Ok.done c.in-Ok.ensures.given

-- one that has failed refuses it
pub returns-in-Err : goal.returns-in-Err
returns-in-Err c = still_failed c.args.self.now c.give-done.new.self c.args.server c.in-Err.fault c.in-Err.ensures.fault
