-- What a clause says of a pass.
use Rattle.std.specs.Prelude.{◌≡◌, ℕ, ◌++◌, List, [], ◌∷◌}
use Rattle.zchannels.specs.declared.tickets.Pass.{Pass}
use Rattle.zchannels.specs.declared.tickets.Tickets.{Tickets}

-- the tickets that the pass holds, in the order in which it drew them
abbrev pub tickets_of : Pass → List ℕ
tickets_of p = p.seat.me.0.drawn

-- the pass is one of this word
abbrev pub IsPassOf : Tickets → Pass → Type 0
IsPassOf t p = p.seat.table_id ≡ t.table.shared.table_id

-- the tickets of all passes, one after the other
abbrev pub tickets_of_all : List Pass → List ℕ
tickets_of_all [] = []
tickets_of_all (p ∷ ps) = tickets_of p ++ tickets_of_all ps

-- how many passes were made with the word
abbrev pub passes_of : Tickets → ℕ
passes_of t = t.passes
