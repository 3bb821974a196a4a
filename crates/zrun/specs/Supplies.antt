-- What a clause says of a supply.
use Rattle.std.specs.Prelude.{◌≡◌, ℕ, List, [], ◌∷◌, ◌++◌, length, map}
use Rattle.zchannels.specs.Rings.{Ring}
use Rattle.zchannels.specs.Woven.{AreWoven, in_rings, out_rings}
use Rattle.zthreads.specs.declared.endpoint.Endpoint.{Endpoint}
use Rattle.zrun.specs.declared.opening.Ends.{Ends}
use Rattle.zrun.specs.declared.supply.Supply.{Supply}
use Rattle.zrun.specs.Openings.{in_rings_in, out_rings_in}
use Rattle.zrun.specs.Runs.{in_rings_of, out_rings_of}

-- the number of processes for which something is left
abbrev pub left : Supply → ℕ
left s = length s.outs.items

-- the rings that are left
abbrev pub out_rings_left : Supply → List (List Ring)
out_rings_left s = out_rings s.outs.items

abbrev pub in_rings_left : Supply → List (List Ring)
in_rings_left s = in_rings s.ins.items

-- they go from each of n processes to each
abbrev pub IsWovenFor : ℕ → Supply → Type 0
IsWovenFor n s = AreWoven n s.outs.items s.ins.items

-- it returned the last channels
abbrev pub HandsEnds : Supply → Supply → Ends → Type 0
HandsEnds a b e =
    (out_rings_left a ≡ out_rings_left b ++ out_rings_in e ∷ []) × (in_rings_left a ≡ in_rings_left b ++ in_rings_in e ∷ [])

-- it returned the last channels, for these endpoints
abbrev pub HandsOut : Supply → Supply → List Endpoint → Type 0
HandsOut a b endpoints =
    (out_rings_left a ≡ out_rings_left b ++ map out_rings_of endpoints) × (in_rings_left a ≡ in_rings_left b ++ map in_rings_of endpoints)
