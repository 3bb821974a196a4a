use Rattle.zrequests.proofs.Parts.{refused_parts_are_never_done}
use Rattle.zrequests.proofs.laws.refused_parts_are_never_done.Goals as goal

pub returns : goal.returns
returns c = refused_parts_are_never_done
