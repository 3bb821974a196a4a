use Rattle.zfront_laws.proofs.Seated.{seats_are_kept}
use Rattle.zfront_laws.proofs.laws.seats_are_kept.Goals as goal

pub returns : goal.returns
returns c = seats_are_kept
