-- The frame of an event is short.
use Rattle.std.proofs.Common.{ℤ, ◌≤◌, length, arith, length-append}
use Rattle.zpath.specs.declared.limits.TheConstants.{MAX_TEXT_LEN}
use Rattle.zjute.specs.declared.limits.TheConstants.{MAX_FRAME}
use Rattle.zjute.specs.declared.event.WatcherEvent.{WatcherEvent}
use Rattle.zjute.specs.Events.{event_text}
use Rattle.zjute.specs.Jute.{int, long, text}

pub event_is_short : (zxid : ℤ) (e : WatcherEvent) → length e.path ≤ MAX_TEXT_LEN → length (event_text zxid e) ≤ MAX_FRAME
unfolding event_text int long text
event_is_short zxid e short = simp length-append (omega arith)
