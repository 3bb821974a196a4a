use Rattle.znode.specs.pipe.Inputs.{input}
use Rattle.znode.specs.pipe.Outputs.{output}
use Rattle.znode.proofs.pipe_lemmas.Inputs.{is_input, input_some}
use Rattle.znode.proofs.pipe_lemmas.Outputs.{is_output, output_some}
use Rattle.znode.proofs.pipe_lemmas.Apart.{apart}
use Rattle.znode.proofs.pipe.laws.bytes_are_distinct.Goals as goal

pub returns : goal.returns
returns c = (apart input is_input input_some, apart output is_output output_some)
