use Rattle.zdaemon.specs.pipe.Messages.{message}
use Rattle.zdaemon.specs.pipe.Outputs.{output}
use Rattle.zdaemon.proofs.pipe_lemmas.Messages.{is_message, message_some}
use Rattle.zdaemon.proofs.pipe_lemmas.Outputs.{is_output, output_some}
use Rattle.zdaemon.proofs.pipe_lemmas.Apart.{apart}
use Rattle.zdaemon.proofs.pipe.laws.bytes_are_distinct.Goals as goal

pub returns : goal.returns
returns c = (apart message is_message message_some, apart output is_output output_some)
