-- What was sent is what was received and then what the channel holds. At most one pass sends, and
-- it has the list of what was sent. At most one receives, with the list of what was received.
use Rattle.std.specs.Prelude.{◌≡◌, ℕ, Bool, true, List, ◌++◌}
use mathlib.Core.Option.{some}
use lib.ListN.{get_elem?}
use Rattle.zprotocol.specs.declared.master.order.Order.{Order}
use Rattle.zchannels.specs.declared.rule.Log.{Log}

abbrev pub log : Bool → Bool → List Order → List Order → Log
log puts takes put taken = record { puts = puts; takes = takes; put = put; taken = taken }

-- a pass that may send is the writer's, and knows what was sent; one that may receive is the
-- reader's, and knows what was received
abbrev pub Fits : ℕ → ℕ → List Order → List Order → ℕ → Log → Type 0
Fits writer reader put taken seat v =
    (v.puts ≡ true → (seat ≡ writer) × (v.put ≡ put)) × (v.takes ≡ true → (seat ≡ reader) × (v.taken ≡ taken))

abbrev pub InOrder : List Order → List Log → Type 0
InOrder items views =
    (writer : ℕ) × (reader : ℕ) × (put : List Order) × (taken : List Order) × (put ≡ taken ++ items)
    × ((seat : ℕ) (v : Log) → get_elem? views seat ≡ some v → Fits writer reader put taken seat v)
