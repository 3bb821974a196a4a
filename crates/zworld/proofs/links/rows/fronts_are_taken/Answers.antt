use Rattle.std.proofs.Common.{refl}
use Rattle.zworld.specs.links.Places.{links_of, sent_of}
use Rattle.zworld.proofs.links.rows.fronts_are_taken.Goals as goal

pub returns : goal.returns
unfolding links_of sent_of
returns c = record {
  message = refl;
  notice_stays = refl;
  notice = refl;
  notice_is_taken = refl;
  nothing = refl;
}
