use Rattle.std.proofs.Common.{refl}
use Rattle.zjute.proofs.rows.events_are_numbers.Goals as goal

pub returns : goal.returns
returns c =
    record {
      events = refl;
      states = refl;
    }
