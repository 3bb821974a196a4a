-- What a program's words ask for, by the number that they give: this project's profile.
use Rattle.std.specs.Prelude.{◌≡◌, ◌⊎◌, ℕ, ◌&&◌, nat_le, if◌then◌else◌, List, [], ◌∷◌, codes, Option, Some, Result, Ok, Err}
use Rattle.zprotocol.specs.declared.limits.TheConstants.{MAX_SERVERS}
use Rattle.zarguments.specs.Asked.{asked_of}
use Rattle.zarguments.specs.declared.fault.WordsFault.{WordsFault}
use Rattle.zarguments.specs.declared.fault.WordsFault.TheVariants.{Memory, BadWords}

-- A number that was given asks for a script over exactly this many servers, if a chain may begin
-- with this many.
abbrev pub settings_of : Option (List ℕ) → Result ℕ WordsFault
settings_of (Some (servers ∷ [])) =
    if nat_le 1 servers && nat_le servers MAX_SERVERS then Ok servers else Err BadWords
settings_of _ = Err BadWords

-- What the words ask for: `script`, over the number of servers that they give, or over 1.
unfoldable pub settings_asked : List (List ℕ) → Result ℕ WordsFault
settings_asked words = settings_of (asked_of (codes "script") ((codes "servers", codes "1") ∷ []) words)

-- Why there are no settings: the words have this fault, or memory ran out while they were read.
abbrev pub IsFaultOf : List (List ℕ) → WordsFault → Type 0
IsFaultOf words fault = (fault ≡ Memory) ⊎ (settings_asked words ≡ Err fault)
