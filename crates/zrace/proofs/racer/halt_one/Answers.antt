use Rattle.zrace.proofs.Records.{continues_back, continues_self}
use Rattle.zrace.proofs.racer.halt_one.Goals as goal

pub returns-in-Some-clause-goes : goal.returns-in-Some-clause-goes
returns-in-Some-clause-goes c = continues_back c.args.client.now c.halt.new.self c.halt.ensures.caller

pub returns-in_default-clause-goes : goal.returns-in_default-clause-goes
returns-in_default-clause-goes c = continues_self c.args.client.now
