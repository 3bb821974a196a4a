-- The ranges of a race's settings.
use Rattle.std.specs.Prelude.{◌≡◌, ◌⊎◌, ◌<◌, ◌≤◌, ◌==◌, ℕ, Option, None, Some, if◌then◌else◌}
use Rattle.zrace.specs.declared.plan.TheConstants.{MAX_RACERS, MAX_ROUNDS}

-- clients and rounds are in their ranges, and the server to halt, if any, is one of several
abbrev pub AreInRange : ℕ → ℕ → ℕ → ℕ → Type 0
AreInRange last clients rounds halt =
    (0 < clients) × (clients ≤ MAX_RACERS) × (0 < rounds) × (rounds ≤ MAX_ROUNDS) × ((halt ≡ 0) ⊎ ((halt ≤ last) × (1 < last)))

-- the server to halt: 0 is none
abbrev pub halted_server : ℕ → Option ℕ
halted_server halt = if halt == 0 then None else Some halt
