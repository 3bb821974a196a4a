-- How the chain is repaired after the member at a position has gone. The result is the table's,
-- which looks for the member itself.
use Rattle.std.specs.Prelude.{◌≡◌, ℕ, zero, suc, Bool, true, false, Option, None, Some, List, [], ◌∷◌, ◌==◌, not, map, filter, is_some, if◌then◌else◌}
use Rattle.zprotocol.specs.server.View.{Neighbour}
use Rattle.zprotocol.specs.declared.master.order_fault.OrderFault.{OrderFault}
use Rattle.zprotocol.specs.declared.master.order_fault.OrderFault.TheVariants.{Joining, NoChain, Lost}
use Rattle.zprotocol.specs.master.Table.{MendedChain, without_first, without_next}

-- this server is the one that joins, if any does
abbrev pub joins : Option ℕ → ℕ → Bool
joins None s = false
joins (Some joining) s = joining == s

-- the members that have the state, from the head down; the joining one, if any, has none
abbrev pub with_state : Option ℕ → List Neighbour → List ℕ
with_state joining members = filter (λ s. not (joins joining s)) (map (λ member. member.0) members)

-- the server, unless it is the one that is gone
abbrev pub who_stays : Option ℕ → ℕ → Option ℕ
who_stays who s = if elim who [ None ↦ false | Some one ↦ one == s ] then None else who

-- this position is the first one that holds the server
abbrev pub IsPlace : ℕ → ℕ → List Neighbour → Type 0
IsPlace s at [] = ⊥
IsPlace s zero (t ∷ rest) = (t.0 == s) ≡ true
IsPlace s (suc at) (t ∷ rest) = ((t.0 == s) ≡ false) × IsPlace s at rest

-- the members after p, without the one at this position
abbrev pub mended_behind_at : {T : Type 0} → ℕ → ℕ → ℕ → List Neighbour → MendedChain T
mended_behind_at epoch p zero rest = without_next epoch p rest
mended_behind_at epoch p (suc at) [] = ([], [])
mended_behind_at {T} epoch p (suc at) (t ∷ rest) =
    let mended = mended_behind_at {T = T} epoch t.0 at rest in
    (t ∷ mended.0, mended.1)

-- the members, without the one at this position
abbrev pub mended_at : {T : Type 0} → ℕ → ℕ → List Neighbour → MendedChain T
mended_at epoch zero members = without_first epoch members
mended_at epoch (suc at) [] = ([], [])
mended_at {T} epoch (suc at) (t ∷ rest) =
    let mended = mended_behind_at {T = T} epoch t.0 at rest in
    (t ∷ mended.0, mended.1)

-- why no server can join a chain, by its length
abbrev pub chain_fault : Option ℕ → List Neighbour → Option OrderFault
chain_fault joining [] = Some NoChain
chain_fault joining (only ∷ []) = if joins joining only.0 then Some Lost else None
chain_fault joining (t ∷ (u ∷ rest)) = if is_some joining then Some Joining else None
