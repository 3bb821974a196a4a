use Rattle.std.proofs.Common.{◌≡◌, ◌+◌, ◌++◌, length, All}
use Rattle.zchannels.specs.Passes.{tickets_of_all}
use Rattle.zchannels.proofs.tickets.Tickets.close.Given as goal

abbrev pub invariant-loop-pass : goal.invariant-loop-pass
invariant-loop-pass l =
    (l.all.table_id ≡ l.table.shared.table_id)
    × (l.table.shared.table_id ≡ l.initial.table.shared.table_id)
    × (l.table.shared.key ≡ l.initial.table.shared.key)
    × All (λ p. p.seat.table_id ≡ l.table.shared.table_id) l.passes.items
    × (l.all.me.0.parts + length l.passes.items ≡ l.n)
    × (tickets_of_all l.passes.items ++ l.all.me.0.drawn ≡ tickets_of_all l.fn.passes.items)

abbrev pub decreases-loop-pass : goal.decreases-loop-pass
decreases-loop-pass l = goal.left-loop-pass l
