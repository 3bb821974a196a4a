-- The ids of all sessions, in their order.
use Rattle.std.proofs.Common.{◌≡◌, ℕ, List, Option, Some, None, is_some, refl, sym, ap, subst, ◌∙◌}
use Rattle.std.specs.Prelude.{IsPermutation, IsSorted, nat_eq}
use Rattle.std.specs.Option.{option_map, option_and_then}
use Rattle.std.specs.Ordering.{nat_cmp}
use Rattle.std.specs.Cmp.{nat_cmp_total, unsigned_tied}
use Rattle.std.specs.List.{IsDistinct}
use Rattle.std.specs.Map.{keys_of}
use Rattle.std.specs.FinMap as finite
use Rattle.std.specs.FinMap.{get, from_entries, nat_cmp-IsAntisymmetric}
use Rattle.zslots.specs.declared.id.Id.{Id}
use Rattle.zsessions.specs.declared.row.SessionRow.{SessionRow}
use Rattle.zsessions.specs.support.Rows.{Rows, Buckets, IdEntries, IsTable, session_at, id_at, sessions_of}
use Rattle.zsessions.proofs.Read.{get-ids, get-sessions}
use Rattle.zslots.proofs.Listing.{same_domain, sorted_keys}

module _ (ids : IdEntries) (rows : Rows) (buckets : Buckets) (is : IsTable ids rows buckets) where
  row_there : (o : Option SessionRow) (n : ℕ) → option_map (λ (row : SessionRow). row.id) o ≡ Some n →
      is_some (option_map (λ (row : SessionRow). row.session) o) ≡ is_some (Some n)
  row_there None n e = cc
  row_there (Some row) n e = refl

  there : (n : ℕ) (o : Option Id) → id_at ids n ≡ o → is_some o ≡ is_some (option_and_then (session_at rows) o)
  there n None e = refl
  there n (Some id) e = sym (row_there (get rows id) n (is.named n id e))

  pub ids-sorted : (ys : List ℕ) → IsDistinct nat_eq (keys_of ids) → IsPermutation (keys_of ids) ys →
      IsSorted nat_cmp ys → ys ≡ finite.keys (sessions_of ids rows)
  ids-sorted ys apart moved up =
      sorted_keys nat_cmp nat_cmp_total nat_cmp-IsAntisymmetric ids ys 0
      (subst (λ e. IsDistinct e (keys_of ids)) (sym (λ i p q. unsigned_tied p q i)) apart) moved up
      ∙ same_domain nat_cmp nat_cmp_total nat_cmp-IsAntisymmetric (from_entries ids) (sessions_of ids rows)
      (λ n. ap is_some (get-ids ids n) ∙ there n (id_at ids n) refl ∙ sym (ap is_some (get-sessions ids rows n)))
