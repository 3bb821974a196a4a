-- A view of a server by its fields, for proofs by cases on them.
use Rattle.std.proofs.Common.{ℕ, Option, List}
use Rattle.zcalls.specs.declared.call.Entry.{Entry}
use Rattle.zprotocol.specs.server.View.{ServerView, Neighbour}

-- the view with these fields
abbrev pub view_of : {M : Type 0} → Option M → ℕ → List (ℕ × Entry) → Option Neighbour → Option Neighbour → ServerView M
view_of machine last sent pred succ = record { machine = machine; last = last; sent = sent; pred = pred; succ = succ }
