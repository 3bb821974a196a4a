use Rattle.zprotocol.specs.server.Machine.{cached_tree}
use Rattle.zprotocol.proofs.server_lemmas.Answering.{only_tails_answer}
use Rattle.zprotocol.proofs.server.laws.only_tails_answer.Goals as goal

pub returns : goal.returns
returns c = only_tails_answer cached_tree
