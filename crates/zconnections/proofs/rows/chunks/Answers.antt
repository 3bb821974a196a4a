use Rattle.std.proofs.Common.{refl}
use Rattle.zconnections.proofs.rows.chunks.Goals as goal

pub returns : goal.returns
returns c =
    record {
      sent = λ t e. rw e refl;
      not_sent = λ t e. rw e refl;
      closed = λ t e. rw e refl;
      once = λ t e. rw e refl;
      absent = λ t e. rw e refl;
    }
