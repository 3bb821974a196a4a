use Rattle.std.proofs.Common.{refl}
use Rattle.zjute.proofs.rows.watches_are_numbers.Goals as goal

pub returns : goal.returns
returns c =
    record {
      children = refl;
      of_data = refl;
      any = refl;
      no_type = refl;
      zero_type = refl;
      persistent = refl;
      recursive = refl;
      no_mode = refl;
      below = refl;
    }
