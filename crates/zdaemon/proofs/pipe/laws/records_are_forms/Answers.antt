use Rattle.zdaemon.proofs.pipe_lemmas.Messages.{is_message}
use Rattle.zdaemon.proofs.pipe_lemmas.Outputs.{is_output}
use Rattle.zdaemon.proofs.pipe.laws.records_are_forms.Goals as goal

pub returns : goal.returns
returns c = (is_message, is_output)
