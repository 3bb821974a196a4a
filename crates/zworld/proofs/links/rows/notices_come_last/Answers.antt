use Rattle.std.proofs.Common.{refl}
use Rattle.zworld.specs.links.Places.{links_of, sent_of}
use Rattle.zworld.proofs.links.rows.notices_come_last.Goals as goal

pub returns : goal.returns
unfolding links_of sent_of
returns c = record {
  behind = refl;
  alone = refl;
  put = refl;
  to_another = refl;
  from_another = refl;
}
