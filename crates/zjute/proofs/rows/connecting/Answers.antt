use Rattle.std.proofs.Common.{refl}
use Rattle.zjute.specs.Connecting.{connect_request, connect_response}
use Rattle.zjute.specs.Jute.{int, long, buffer, text}
use Rattle.zcodec.specs.Forms.{number_at}
use Rattle.zjute.proofs.rows.connecting.Goals as goal

pub returns : goal.returns
unfolding connect_request connect_response int long buffer text number_at
returns c =
    record {
      without = refl;
      writes = refl;
      reads = refl;
      flag = refl;
      more = refl;
      answer = refl;
      old_answer = refl;
    }
