use Rattle.std.proofs.Common.{refl}
use Rattle.zjute.specs.Frames.{next_of}
use Rattle.zjute.proofs.rows.words_are_no_frames.Goals as goal

pub returns : goal.returns
unfolding next_of
returns c =
    record {
      ruok = refl;
      srvr = refl;
      mntr = refl;
      isro = refl;
    }
