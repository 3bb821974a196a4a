-- No session.
use Rattle.std.proofs.Common.{◌≡◌, ℕ, zero, suc, [], Option, Some, None, refl, ap, ◌∙◌, sym, replicate}
use Rattle.std.specs.Option.{option_map, option_and_then}
use Rattle.std.specs.FinMap as finite
use Rattle.std.specs.FinMap.{get-empty}
use Rattle.std.specs.Ordering.{nat_cmp}
use Rattle.zslots.specs.declared.list.List.{List as IdList}
use Rattle.zslots.specs.Ids.{id_cmp}
use Rattle.zslots.specs.Families.{key_at}
use Rattle.zslots.specs.Lists.{empty_list}
use Rattle.zslots.proofs.Families.{families-none}
use Rattle.zsessions.specs.declared.row.SessionRow.{SessionRow}
use Rattle.zsessions.specs.support.Rows.{Rows, Buckets, IsTable, row_links, bucket, number_of, sessions_of}
use Rattle.zsessions.proofs.Read.{same_sessions, get-sessions}

pub bucket-replicate : (list : IdList 0) → list ≡ empty_list → (n k : ℕ) → bucket (replicate n list) k ≡ empty_list
bucket-replicate list is zero k = refl
bucket-replicate list is (suc n) zero = is
bucket-replicate list is (suc n) (suc k) = bucket-replicate list is n k

pub empty_table : (buckets : Buckets) → ((k : ℕ) → bucket buckets k ≡ empty_list) → IsTable [] finite.empty buckets
empty_table buckets empty = record {
  found = λ id n e. by n (ap (option_map (λ (row : SessionRow). row.id)) (get-empty id_cmp id)) e;
  named = λ n id e. cc;
  listed = families-none row_links finite.empty (key_at number_of finite.empty) (bucket buckets) (λ q. ap (option_and_then number_of) (get-empty id_cmp q)) empty;
}
  where
    by : {A : Type 0} {o : Option ℕ} (n : ℕ) → o ≡ None → o ≡ Some n → A
    by n none some = let bad = sym none ∙ some in cc

pub empty_sessions : (rows : Rows) → sessions_of [] rows ≡ finite.empty
empty_sessions rows = same_sessions _ _ (λ q. get-sessions [] rows q ∙ sym (get-empty nat_cmp q))
