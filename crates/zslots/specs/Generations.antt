-- Generations distinguish the Ids that share a slot.
use Rattle.std.specs.Prelude.{ℕ, ◌+◌, ◌*◌, ◌==◌, ◌&&◌, Bool}
use Rattle.zslots.specs.declared.generation.Generation.{Generation}

-- a generation's number: how many Ids were given out before it
abbrev pub generation_number : Generation → ℕ
generation_number g = g.high * 4294967296 + g.low

-- the two generations are equal
abbrev pub is_same : Generation → Generation → Bool
is_same g h = (g.high == h.high) && (g.low == h.low)
