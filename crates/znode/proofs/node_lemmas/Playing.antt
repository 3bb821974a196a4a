-- How a node plays an entry.
use Rattle.std.proofs.Common.{◌≡◌, inl, inr, ℕ, List, Ok, false, None, refl, ap, subst, sym, ◌∙◌}
use Rattle.zcodec.specs.Readers.{whole}
use Rattle.zmaster_log.specs.declared.entry.LogEntry.{LogEntry}
use Rattle.zmaster_log.specs.declared.play_fault.PlayFault.{PlayFault}
use Rattle.zmaster_log.specs.declared.play_fault.PlayFault.TheVariants as playing
use Rattle.zmaster_log.specs.Bytes.{entry}
use Rattle.zmaster_log.specs.Log.{ReplicaView, IsPlayFault}
use Rattle.znode.specs.pipe.Inputs.{Entry}
use Rattle.znode.specs.Node.{NodeView, SeatView}
use Rattle.znode.specs.Entries.{Plays, own_at, seat_at, without_idle}
use Rattle.znode.specs.Steps.{IsNodeFault}
use Rattle.znode.specs.support.Entries.{Obeys}
use Rattle.znode.specs.support.Faults.{of_playing}

-- the node once it has entered, before it obeys
abbrev pub entered : NodeView → List ℕ → LogEntry → NodeView
entered v bytes e = record v {
  replica = record v.replica { own = own_at v bytes e };
  seat = seat_at v bytes e;
  asked = None;
  is_at_end = false;
}

-- the node without its idle reports
abbrev pub tidied : NodeView → NodeView
tidied w = record w { seat = record w.seat { reports = without_idle w.replica.state w.seat.reports } }

pub plays_of : (v w : NodeView) (index : ℕ) (bytes : List ℕ) (e : LogEntry) → whole entry bytes ≡ Ok e → index ≡ v.replica.played
    → Obeys e (entered v bytes e) w → Plays v index bytes (tidied w)
plays_of v w index bytes e read next obeys = record {
  it = e;
  read = read;
  next = next;
  replica = obeys.replica;
  middle = w.seat;
  order = obeys.order;
  seat = refl;
  rest = ap (λ (x : NodeView). record x { seat = record w.seat { reports = without_idle w.replica.state w.seat.reports } }) obeys.rest;
}

-- why an entry isn't played
pub play_fault : (v : NodeView) (index : ℕ) (bytes : List ℕ) (replica : ReplicaView) (it : PlayFault) → replica.played ≡ v.replica.played
    → IsPlayFault replica index it → IsNodeFault v (Entry index bytes) (of_playing it)
play_fault v index bytes replica playing.Memory same failed = tt
play_fault v index bytes replica playing.NotNext same failed = inl (λ e. failed (e ∙ sym same))
play_fault v index bytes replica playing.Full same failed = inr failed.1

-- the same, of the states that the code has
pub plays_after : (v x w : NodeView) (index : ℕ) (bytes : List ℕ) (e : LogEntry) (seat : SeatView) → whole entry bytes ≡ Ok e
    → index ≡ v.replica.played → x ≡ entered v bytes e → Obeys e x w
    → seat ≡ record w.seat { reports = without_idle w.replica.state w.seat.reports } → Plays v index bytes (record w { seat = seat })
plays_after v x w index bytes e seat read next same obeys tidy =
    subst (λ (s : SeatView). Plays v index bytes (record w { seat = s })) (sym tidy)
    (plays_of v w index bytes e read next (subst (λ (n : NodeView). Obeys e n w) same obeys))
