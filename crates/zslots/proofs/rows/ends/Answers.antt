use Rattle.std.proofs.Common.{refl}
use Rattle.zslots.proofs.rows.ends.Goals as goal

pub returns : goal.returns
returns c = record {
  first_of_none = refl;
  first_of_two = refl;
  last_of_none = refl;
  last_of_two = refl;
  first_stays = refl;
  first_goes = refl;
}
