use Rattle.std.proofs.Common.{◌≡◌, ◌<◌, false, length, true}
use Rattle.zchannels.specs.Rings.{HasLastPlace, put_of, ring_of_tx, waiting}
use Rattle.zchannels.proofs.rings.Tx.flush.Given as goal

abbrev pub invariant-loop-self : goal.invariant-loop-self
invariant-loop-self g l =
    (put_of l.self ≡ put_of l.initial.self)
    × (ring_of_tx l.self ≡ ring_of_tx l.initial.self)
    × (HasLastPlace l.initial.self → HasLastPlace l.self)
    × (l.is_moved ≡ true → length (waiting l.self) < length (waiting l.initial.self))
    × (l.is_moved ≡ false → waiting l.self ≡ waiting l.initial.self)

abbrev pub decreases-loop-self : goal.decreases-loop-self
decreases-loop-self g l = length l.self.outbox.items
