use Rattle.zconnections.proofs.attachments_lemmas.Changed.{each_rests}
use Rattle.zconnections.proofs.attachments.laws.each_rests.Goals as goal

pub returns : goal.returns
returns c = each_rests
