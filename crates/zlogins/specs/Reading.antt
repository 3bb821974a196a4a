-- The text of a file of logins: on each line the scheme `digest`, a space, and a login, or nothing.
-- The spelling is ZooKeeper's, of its ACLs. The form of the file is this project's profile.
use Rattle.std.specs.Prelude.{◌≡◌, ◌⊎◌, ℕ, ◌+◌, ◌==◌, List, [], ◌∷◌, ◌++◌, take, drop, codes, bytes_eq, Option, None, Some, Result, Ok, Err, if◌then◌else◌}
use Rattle.std.specs.List.{slice_split}
use Rattle.zlogins.specs.declared.fault.LoginsFault.{LoginsFault}
use Rattle.zlogins.specs.declared.fault.LoginsFault.TheVariants.{NoDigest, NoHash, Empty, Memory}
use Rattle.zlogins.specs.Logins.{is_login}

-- the lines of a text: what is between its LFs
abbrev pub lines_of : List ℕ → List (List ℕ)
lines_of text = slice_split (λ byte. byte == 10) text

-- what follows the scheme at the front of a line
abbrev pub behind_digest : List ℕ → Option (List ℕ)
behind_digest line = if bytes_eq (take 7 line) (codes "digest ") then Some (drop 7 line) else None

-- the login of line n, or its fault
abbrev pub login_behind : ℕ → Option (List ℕ) → Result (List ℕ) LoginsFault
login_behind n None = Err (NoDigest n)
login_behind n (Some text) = if is_login text then Ok text else Err (NoHash n)

abbrev pub login_on : ℕ → List ℕ → Result (List ℕ) LoginsFault
login_on n line = login_behind n (behind_digest line)

-- one login
abbrev pub one_of : Result (List ℕ) LoginsFault → Result (List (List ℕ)) LoginsFault
one_of (Err fault) = Err fault
one_of (Ok login) = Ok (login ∷ [])

-- the login of a line that has a byte; an empty line has none
abbrev pub line_logins : ℕ → List ℕ → Result (List (List ℕ)) LoginsFault
line_logins n [] = Ok []
line_logins n (byte ∷ line) = one_of (login_on n (byte ∷ line))

-- the logins of a line before those of the next lines, or the first fault
abbrev pub before : Result (List (List ℕ)) LoginsFault → Result (List (List ℕ)) LoginsFault → Result (List (List ℕ)) LoginsFault
before (Err fault) rest = Err fault
before (Ok logins) (Err fault) = Err fault
before (Ok logins) (Ok more) = Ok (logins ++ more)

-- the logins of lines, the first of which is line n; or the first fault
abbrev pub logins_on : ℕ → List (List ℕ) → Result (List (List ℕ)) LoginsFault
logins_on n [] = Ok []
logins_on n (line ∷ lines) = before (line_logins n line) (logins_on (n + 1) lines)

-- there is a login
abbrev pub some_of : Result (List (List ℕ)) LoginsFault → Result (List (List ℕ)) LoginsFault
some_of (Err fault) = Err fault
some_of (Ok []) = Err Empty
some_of (Ok (login ∷ logins)) = Ok (login ∷ logins)

-- the logins of a text
abbrev pub logins_in : List ℕ → Result (List (List ℕ)) LoginsFault
logins_in text = some_of (logins_on 1 (lines_of text))

-- the logins of line n are added at the end
abbrev pub AddsLine : ℕ → List ℕ → List (List ℕ) → List (List ℕ) → Type 0
AddsLine n line old new = (more : List (List ℕ)) × (line_logins n line ≡ Ok more) × (new ≡ old ++ more)

-- the fault is the expected one, or out of memory
abbrev pub IsFaultOf : {X : Type 0} → Result X LoginsFault → LoginsFault → Type 0
IsFaultOf expected fault = (fault ≡ Memory) ⊎ (expected ≡ Err fault)
