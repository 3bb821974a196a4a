-- What waits before the rings of an endpoint, and what it sees in those from which it receives.
use Rattle.std.specs.Prelude.{◌≡◌, ◌≢◌, ◌<◌, ℕ, List, []}
use mathlib.Core.Option.{some}
use lib.ListN.{get_elem?}
use Rattle.zchannels.specs.declared.rings.Tx.{Tx}
use Rattle.zchannels.specs.declared.rings.Rx.{Rx}
use Rattle.zchannels.specs.Rings.{IsFlushed, in_ring, waiting}

-- it holds of each of the first n
abbrev pub EachBelow : {X : Type 0} → (X → Type 0) → ℕ → List X → Type 0
EachBelow P n xs = (i : ℕ) (x : _) → i < n → get_elem? xs i ≡ some x → P x

module _ {M : Type 0} where
  -- nothing waits before its ring
  abbrev pub IsEmpty : Tx M → Type 0
  IsEmpty t = waiting t ≡ []

  -- nothing waits before any ring
  abbrev pub NothingWaits : List (Tx M) → Type 0
  NothingWaits outs = (i : ℕ) (t : Tx M) → get_elem? outs i ≡ some t → IsEmpty t

  -- a message waits only for room in its ring
  abbrev pub AreFlushed : List (Tx M) → Type 0
  AreFlushed outs = (i : ℕ) (t : Tx M) → get_elem? outs i ≡ some t → IsFlushed t

  -- the receiving end of that channel has seen no message that it can take
  abbrev pub SeesNothing : ℕ → List (Rx M) → Type 0
  SeesNothing link ins = (r : Rx M) → get_elem? ins link ≡ some r → in_ring r ≡ []

  -- it has seen one
  abbrev pub SeesSome : ℕ → List (Rx M) → Type 0
  SeesSome link ins = (r : Rx M) → get_elem? ins link ≡ some r → in_ring r ≢ []
