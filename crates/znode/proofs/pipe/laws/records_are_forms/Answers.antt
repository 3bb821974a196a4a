use Rattle.znode.proofs.pipe_lemmas.Inputs.{is_input}
use Rattle.znode.proofs.pipe_lemmas.Outputs.{is_output}
use Rattle.znode.proofs.pipe.laws.records_are_forms.Goals as goal

pub returns : goal.returns
returns c = (is_input, is_output)
