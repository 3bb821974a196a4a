-- Chunks that are left.
use Rattle.std.proofs.Common.{◌≡◌, List, [], ◌∷◌, drop, Option, None, Some, is_some, refl, ap, IfNone}
use mathlib.Core.Bool.{true≢false}
use Rattle.zconnections.specs.buffers.Outbox.{ChunkView, first_of}

pub where_none : {X : Type 0} (found : Option X) (P : Type 0) → (found ≡ None → P) → IfNone found P
where_none None P holds = holds refl
where_none (Some x) P holds = tt

-- where there is no first chunk, none is taken
pub none_first : (chunks : List ChunkView) → first_of chunks ≡ None → drop 1 chunks ≡ chunks
none_first [] is = refl
none_first (chunk ∷ chunks) is = absurd (true≢false (ap (λ found. is_some found) is))
