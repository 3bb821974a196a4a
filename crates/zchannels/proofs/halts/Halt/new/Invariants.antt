use Rattle.std.proofs.Common.{◌≡◌, ◌≤◌, ◌-◌, vec_len, vec_capacity, All}
use Rattle.zchannels.specs.Raised.{known}
use Rattle.zchannels.specs.HaltSeats.{known_of}
use Rattle.zchannels.proofs.halts.Halt.new.Given as goal

abbrev pub invariant-loop : goal.invariant-loop
invariant-loop l =
    (l.seat.table_id ≡ l.table.shared.table_id)
    × (vec_len l.seats ≡ l.counter)
    × (l.n ≤ vec_capacity l.seats)
    × All (λ h. (h.seat.table_id ≡ l.table.shared.table_id) × (known_of h ≡ 0)) l.seats.items
    × (l.seat.me.0 ≡ known (l.n - l.counter) 0)
