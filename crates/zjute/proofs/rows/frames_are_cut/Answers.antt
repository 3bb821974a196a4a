use Rattle.std.proofs.Common.{refl}
use Rattle.zjute.specs.Frames.{next_of}
use Rattle.zjute.proofs.rows.frames_are_cut.Goals as goal

pub returns : goal.returns
unfolding next_of
returns c =
    record {
      none = refl;
      partial_length = refl;
      partial = refl;
      empty = refl;
      whole = refl;
      longest = refl;
      too_long = refl;
      below_0 = refl;
    }
