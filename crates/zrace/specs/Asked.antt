-- What the words of a race ask for, by the four numbers that they give.
use Rattle.std.specs.Prelude.{◌≡◌, ◌<◌, ◌≤◌, ℕ, List, [], ◌∷◌, codes, Option, Some}
use Rattle.zprotocol.specs.declared.limits.TheConstants.{MAX_SERVERS}
use Rattle.zarguments.specs.Asked.{asked_of}
use Rattle.zrace.specs.Ranges.{AreInRange, halted_server}
use Rattle.zrace.specs.declared.plan.Race.{Race}

-- The options of a race, each with its default.
abbrev pub race_options : List (List ℕ × List ℕ)
race_options = (codes "servers", codes "3") ∷ (codes "clients", codes "4") ∷ (codes "rounds", codes "100") ∷ (codes "halt", codes "0") ∷ []

-- The numbers that the words give: servers, clients, rounds, and the server to halt.
abbrev pub race_numbers : List (List ℕ) → Option (List ℕ)
race_numbers words = asked_of (codes "race") race_options words

-- The race is of exactly these four numbers, and each is in its range.
abbrev pub IsRaceOf : Option (List ℕ) → Race → Type 0
IsRaceOf (Some (last ∷ clients ∷ rounds ∷ halt ∷ [])) race =
    (0 < last) × (last ≤ MAX_SERVERS) × AreInRange last clients rounds halt
    × (race.last ≡ last) × (race.clients ≡ clients) × (race.rounds ≡ rounds) × (race.halt ≡ halted_server halt)
IsRaceOf _ race = ⊥

-- The words ask for this race.
unfoldable pub IsRaceAsked : List (List ℕ) → Race → Type 0
IsRaceAsked words race = IsRaceOf (race_numbers words) race
