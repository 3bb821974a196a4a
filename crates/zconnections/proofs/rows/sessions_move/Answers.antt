use Rattle.std.proofs.Common.{refl}
use Rattle.zconnections.proofs.rows.sessions_move.Goals as goal

pub returns : goal.returns
returns c =
    record {
      taken_up = λ t e. rw e refl;
      from_none = λ t e. rw e refl;
      swept = λ t e. rw e refl;
      swept_alone = λ t e. rw e refl;
    }
