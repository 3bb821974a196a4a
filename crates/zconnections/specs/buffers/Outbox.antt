-- The queue of chunks to be sent.
use Rattle.std.specs.Prelude.{ℕ, Bool, List, [], ◌∷◌, Option, None, Some, nat_eq, not}
use Rattle.std.specs.List.{filter}

-- bytes to be sent on a connection, which may be its last
pub record ChunkView : Type 0 where
  pub connection : ℕ
  pub bytes : List ℕ
  pub is_last : Bool

-- the chunk to be sent first
abbrev pub first_of : List ChunkView → Option ChunkView
first_of [] = None
first_of (chunk ∷ chunks) = Some chunk

-- the chunks without those of a connection
abbrev pub without : List ChunkView → ℕ → List ChunkView
without chunks connection = filter (λ p. not (nat_eq p.connection connection)) chunks
