use Rattle.zwire.proofs.Frames.{read_again, was_spelled}
use Rattle.zwire.proofs.laws.every_message_is_read_again.Goals as goal

pub returns : goal.returns
returns c = record { again = read_again; spelled = was_spelled }
