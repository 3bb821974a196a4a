-- The endpoints of a run, by index, and what they left.
use Rattle.std.specs.Prelude.{◌≡◌, ◌⊎◌, ℕ, ◌+◌, Bool, true, false, List, [], ◌∷◌, length, map}
use Rattle.zprotocol.specs.Places.{process_at}
use Rattle.zchannels.specs.Rings.{Ring, ring_of_rx, ring_of_tx}
use Rattle.zchannels.specs.Woven.{IsWoven}
use Rattle.zthreads.specs.declared.endpoint.Endpoint.{Endpoint}
use Rattle.zthreads.specs.declared.endpoint.Ending.{Ending}
use Rattle.zthreads.specs.Endpoints.{Each, IsEndpointOf, is_traced_of, self_of, wires_of}
use Rattle.zthreads.specs.Endings.{HasEnded, LeavesNothing, SameWires}

-- the rings on which a process sends, and those from which it receives
abbrev pub out_rings_of : Endpoint → List Ring
out_rings_of d = map ring_of_tx (wires_of d).1

abbrev pub in_rings_of : Endpoint → List Ring
in_rings_of d = map ring_of_rx (wires_of d).0

-- they are the endpoints of the processes from that index on
abbrev pub AreEndpoints : ℕ → ℕ → ℕ → List Endpoint → Type 0
AreEndpoints last clients place endpoints = Each (λ i d. IsEndpointOf (process_at (place + i)) last clients d) endpoints

-- all of them are traced, or none is
abbrev pub AreTraced : Bool → List Endpoint → Type 0
AreTraced is_traced endpoints = Each (λ i d. is_traced_of d ≡ is_traced) endpoints

-- they are the endpoints of all processes of a run, with a channel from each to each
pub record IsRun (last clients : ℕ) (endpoints : List Endpoint) : Type 0 where
  pub each : AreEndpoints last clients 0 endpoints
  pub wired : IsWoven (length endpoints) (map out_rings_of endpoints) (map in_rings_of endpoints)

-- it is what the endpoint left, without trace and record if that isn't traced; or what the process
-- did is lost
abbrev pub IsLeftBy : Endpoint → Ending → Type 0
IsLeftBy d e = (e.is_lost ≡ true) ⊎ (HasEnded (self_of d) e × SameWires d e × (is_traced_of d ≡ false → LeavesNothing e))

-- the lists have the same length, and the relation holds index by index
abbrev pub Pairs : {X Y : Type 0} → (X → Y → Type 0) → List X → List Y → Type 0
Pairs R [] [] = Unit {0}
Pairs R [] (y ∷ ys) = ⊥
Pairs R (x ∷ xs) [] = ⊥
Pairs R (x ∷ xs) (y ∷ ys) = R x y × Pairs R xs ys

-- each is what the endpoint of its index left, or what that did is lost
abbrev pub AreLeftBy : List Endpoint → List Ending → Type 0
AreLeftBy endpoints endings = Pairs IsLeftBy endpoints endings
