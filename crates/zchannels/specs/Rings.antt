-- What a clause says of the ends of a channel.
use Rattle.std.specs.Prelude.{◌≡◌, ◌<◌, ℕ, List, [], ◌++◌, None, option_to_list}
use Rattle.rtrb.specs.Ring.{sent, received, known_items, known_free}
use Rattle.rtrb.specs.Shared.{Names}
use denote.RawPtr.{Ptr}
use Rattle.std.specs.declared.alloc.Global.{Global}
use Rattle.zchannels.specs.declared.rings.Tx.{Tx}
use Rattle.zchannels.specs.declared.rings.Rx.{Rx}

-- the identity of a ring
abbrev pub Ring : Type 0
Ring = Ptr × Ptr × Names × Global

module _ {M : Type 0} where
  -- what waits before the ring: the outbox, and then the last message
  abbrev pub waiting : Tx M → List M
  waiting t = t.outbox.items ++ option_to_list t.last

  -- what was sent, oldest first: what went into the ring, and then what waits
  abbrev pub put_of : Tx M → List M
  put_of t = sent t.ring ++ waiting t

  -- what was received, oldest first
  abbrev pub taken_of : Rx M → List M
  taken_of r = received r.ring

  -- what the receiving end has seen in the ring
  abbrev pub in_ring : Rx M → List M
  in_ring r = known_items r.ring

  -- the ring of the sending end
  abbrev pub ring_of_tx : Tx M → Ring
  ring_of_tx t = (t.ring.end.words, t.ring.end.slots, t.ring.end.names, t.ring.end.heap)

  -- the ring of the receiving end
  abbrev pub ring_of_rx : Rx M → Ring
  ring_of_rx r = (r.ring.end.words, r.ring.end.slots, r.ring.end.names, r.ring.end.heap)

  -- the two ends of one channel
  abbrev pub AreEnds : Tx M → Rx M → Type 0
  AreEnds t r = ring_of_tx t ≡ ring_of_rx r

  -- what was sent is what was received, then what is in the ring, then what waits before it
  abbrev pub IsAllThere : Tx M → Rx M → Type 0
  IsAllThere t r = put_of t ≡ (taken_of r ++ in_ring r) ++ waiting t

  -- the slot for a last message is free
  abbrev pub HasLastPlace : Tx M → Type 0
  HasLastPlace t = t.last ≡ None

  -- how many free slots of the ring the sending end knows of
  abbrev pub free_places : Tx M → ℕ
  free_places t = known_free t.ring

  -- a message waits only for room: while a free slot is known, nothing waits
  abbrev pub IsFlushed : Tx M → Type 0
  IsFlushed t = 0 < free_places t → waiting t ≡ []
