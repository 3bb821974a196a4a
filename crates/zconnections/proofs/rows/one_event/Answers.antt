use Rattle.std.proofs.Common.{refl}
use Rattle.zjute.specs.Events.{event_text}
use Rattle.zjute.specs.Jute.{int, long, text}
use Rattle.zconnections.proofs.Worked.{in_order-two}
use Rattle.zconnections.proofs.rows.one_event.Goals as goal

pub returns : goal.returns
unfolding event_text int long text
returns c =
    record {
      frame = refl;
      order = in_order-two;
      each = λ bytes t. refl;
    }
