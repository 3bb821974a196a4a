-- Channels with a message and a failure notice of server 2, for the worked examples. The contents
-- of a Snapshot are numbers.
use Rattle.std.specs.Prelude.{ℕ, None, true, false, [], ◌∷◌}
use Rattle.zprotocol.specs.declared.message.Message.{Message}
use Rattle.zprotocol.specs.declared.message.Message.TheVariants.{Have}
use Rattle.zworld.specs.links.Places.{Channels}

-- a server without state reports to the master
abbrev pub have : Message ℕ
have = Have 4 None

-- nothing is in flight
abbrev pub idle : Channels ℕ
idle = record { sent = []; noted = [] }

-- server 2 has reported
abbrev pub reported : Channels ℕ
reported = record { sent = record { from = 2; to = 0; front = have; others = [] } ∷ []; noted = [] }

-- it has reported, and then it has failed
abbrev pub failed : Channels ℕ
failed = record reported { noted = false ∷ false ∷ true ∷ [] }

-- it has failed, and its notice alone is left
abbrev pub left : Channels ℕ
left = record idle { noted = false ∷ false ∷ true ∷ [] }
