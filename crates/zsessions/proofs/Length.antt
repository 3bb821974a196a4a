-- How many sessions there are.
use Rattle.std.proofs.Common.{◌≡◌, ℕ, ◌+◌, false, cond, [], ◌∷◌, length, Option, Some, None, IsSome, is_some, refl, sym, ap, ◌∙◌, arith}
use Rattle.std.specs.Option.{option_map}
use Rattle.std.specs.Ordering.{nat_cmp}
use Rattle.std.specs.Prelude.{nat_eq}
use Rattle.std.specs.FinMap as finite
use Rattle.std.specs.FinMap.{get, from_entries, len-empty, len-insert}
use Rattle.std.specs.Cmp.{nat_cmp_total}
use Rattle.std.specs.List.{AllByRecursion, IsDistinct}
use Rattle.std.specs.Map.{keys_of}
use Rattle.zslots.specs.declared.id.Id.{Id}
use Rattle.zslots.proofs.MapValues.{len-map_values}
use Rattle.zsessions.specs.declared.row.SessionRow.{SessionRow}
use Rattle.zsessions.specs.support.Rows.{Rows, Buckets, IdEntries, IsTable, session_at, id_at, sessions_of}
use Rattle.zsessions.proofs.Read.{get-ids}

-- a key unlike all others is not among them
pub apart-none : (n : ℕ) (ids : IdEntries) → AllByRecursion (λ k. nat_eq n k ≡ false) (keys_of ids) → id_at ids n ≡ None
apart-none n [] apart = refl
apart-none n (e ∷ ids) apart = ap (λ b. cond b (Some e.1) (id_at ids n)) apart.0 ∙ apart-none n ids apart.1

len-ids : (ids : IdEntries) → IsDistinct nat_eq (keys_of ids) → finite.len (from_entries {R = nat_cmp} ids) ≡ length ids
unfolding IsDistinct
len-ids [] s = len-empty nat_cmp Id
len-ids (e ∷ ids) s =
    let rest = from_entries {R = nat_cmp} ids in
    let free = get-ids ids e.0 ∙ apart-none e.0 ids s.0 in
    let counted : finite.len (finite.insert rest e.0 e.1) ≡ finite.len rest + 1 =
    len-insert nat_cmp_total rest e.0 e.1 ∙ ap (λ o. cond (is_some o) (finite.len rest) (finite.len rest + 1)) free in
    let more = len-ids ids s.1 in
    counted ∙ omega (arith, more)

pub len-sessions : (ids : IdEntries) (rows : Rows) (buckets : Buckets) → IsTable ids rows buckets → IsDistinct nat_eq (keys_of ids) → finite.len (sessions_of ids rows) ≡ length ids
len-sessions ids rows buckets is s = len-map_values nat_cmp_total (session_at rows) (from_entries ids) (λ n id e. there id n (is.named n id (sym (get-ids ids n) ∙ e))) ∙ len-ids ids s
  where
    some : (o : Option SessionRow) (n : ℕ) → option_map (λ (row : SessionRow). row.id) o ≡ Some n → IsSome (option_map (λ (row : SessionRow). row.session) o)
    some None n e = cc
    some (Some row) n e = refl

    there : (id : Id) (n : ℕ) → option_map (λ (row : SessionRow). row.id) (get rows id) ≡ Some n → IsSome (session_at rows id)
    there id n e = some (get rows id) n e
