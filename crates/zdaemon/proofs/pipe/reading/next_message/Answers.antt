use Rattle.std.proofs.Common.{arith}
use Rattle.zdaemon.specs.pipe.Messages.{message_of, message}
use Rattle.zdaemon.proofs.pipe_lemmas.Messages.{is_message}
use Rattle.zdaemon.proofs.pipe_lemmas.Readers.{found, again}
use Rattle.zdaemon.proofs.pipe.reading.next_message.Goals as goal

pub returns-clause-found : goal.returns-clause-found
returns-clause-found c = found message is_message (λ x. (message_of x.0, x.1.now)) c.args.bytes.now c.read.result
    (λ i. omega (arith, c.type_inv.bytes i)) c.read.ensures

pub returns-clause-only : goal.returns-clause-only
returns-clause-only c = λ it rest fits e. again message is_message (λ x. (message_of x.0, x.1.now)) c.args.bytes.now c.read.result
    it rest fits e c.read.ensures
