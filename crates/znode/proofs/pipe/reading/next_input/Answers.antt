use Rattle.std.proofs.Common.{arith}
use Rattle.znode.specs.pipe.Inputs.{input_of, input}
use Rattle.znode.proofs.pipe_lemmas.Inputs.{is_input}
use Rattle.znode.proofs.pipe_lemmas.Readers.{found, again}
use Rattle.znode.proofs.pipe.reading.next_input.Goals as goal

pub returns-clause-found : goal.returns-clause-found
returns-clause-found c = found input is_input (λ x. (input_of x.0, x.1.now)) c.args.bytes.now c.read.result
    (λ i. omega (arith, c.type_inv.bytes i)) c.read.ensures

pub returns-clause-only : goal.returns-clause-only
returns-clause-only c = λ it rest fits e. again input is_input (λ x. (input_of x.0, x.1.now)) c.args.bytes.now c.read.result
    it rest fits e c.read.ensures
