use Rattle.std.proofs.Common.{refl}
use Rattle.zworld.specs.links.Places.{links_of, sent_of}
use Rattle.zworld.proofs.links.rows.notices_are_seen_and_dropped.Goals as goal

pub returns : goal.returns
unfolding links_of sent_of
returns c = record {
  silent = refl;
  sends = refl;
  dropped = refl;
  is_left = refl;
  is_gone = refl;
}
