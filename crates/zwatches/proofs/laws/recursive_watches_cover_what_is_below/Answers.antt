use Rattle.zwatches.proofs.Covering.{covers_below}
use Rattle.zwatches.proofs.laws.recursive_watches_cover_what_is_below.Goals as goal

pub returns : goal.returns
returns c = covers_below
