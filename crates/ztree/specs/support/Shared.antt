-- The bytes that owners of a znode's data share.
use Rattle.std.specs.Prelude.{ℕ, List, [], Option, Some, None}
use Rattle.std.specs.declared.sync.Arc.{Arc}
use Rattle.std.specs.declared.vec.Vec.{Vec}
use Rattle.std.specs.Arc.{arc_value}

-- the bytes, where there are some
abbrev pub shared_bytes : {A C : Type 0} → Option (Arc (Vec ℕ A) C) → List ℕ
shared_bytes None = []
shared_bytes (Some bytes) = (arc_value bytes).items
