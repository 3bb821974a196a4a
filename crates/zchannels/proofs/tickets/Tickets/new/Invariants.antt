use Rattle.std.proofs.Common.{◌≡◌, ◌-◌, ◌≤◌, [], vec_len, vec_capacity, All}
use Rattle.zchannels.specs.Given.{hand}
use Rattle.zchannels.specs.Passes.{tickets_of}
use Rattle.zchannels.proofs.tickets.Tickets.new.Given as goal

abbrev pub invariant-loop : goal.invariant-loop
invariant-loop l =
    (l.seat.table_id ≡ l.table.shared.table_id)
    × (l.table.shared.table_id ≡ l.initial.table.shared.table_id)
    × (l.table.shared.key ≡ l.initial.table.shared.key)
    × (l.seat.me.0 ≡ hand (l.n - l.counter) [])
    × (vec_len l.passes ≡ l.counter)
    × (l.n ≤ vec_capacity l.passes)
    × All (λ p. (p.seat.table_id ≡ l.table.shared.table_id) × (tickets_of p ≡ [])) l.passes.items
