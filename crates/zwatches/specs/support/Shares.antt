-- How many watches each connection has, by a count that is kept.
use Rattle.std.specs.Prelude.{◌≡◌, ℕ, unwrap_or}
use Rattle.std.specs.Coded.{Coded, coded_ℕ}
use Rattle.std.specs.FinMap.{FinMap, get, insert}
use Rattle.std.specs.FinMap as finite
use Rattle.std.specs.Option.{option_map_or}
use Rattle.std.specs.Ordering.{nat_cmp}
use Rattle.zwatches.specs.Watches.{Watches, share}

-- a number under each connection's
abbrev pub Counts : Type 0
Counts = FinMap nat_cmp ℕ

-- proofs distinguish two by their codes
abbrev pub coded_counts : Coded Counts
coded_counts = finite.code coded_ℕ coded_ℕ

-- the number of a connection: 0 if it has none
abbrev pub counted : Counts → ℕ → ℕ
counted counts connection = unwrap_or (get counts connection) 0

-- the number of a connection is changed, if it has one
abbrev pub changed_by : (ℕ → ℕ) → Counts → ℕ → Counts
changed_by change counts connection =
    option_map_or (λ n. insert counts connection (change n)) (get counts connection) counts

-- each connection has as many watches as is counted
abbrev pub AreCounted : Counts → Watches → Type 0
AreCounted counts table = (connection : ℕ) → counted counts connection ≡ share table connection
