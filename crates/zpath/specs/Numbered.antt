-- The path of a sequential node: a counter's digits are appended to the last name of the requested
-- path. The source is the ZooKeeper Programmer's Guide, section "Sequence Nodes -- Unique Naming".
-- The limits, and the order of the faults, are those of every path.
use Rattle.std.specs.Prelude.{◌≡◌, ◌⊎◌, ℕ, zero, suc, ◌+◌, ◌/◌, ◌%◌, Bool, true, ◌||◌, List, [], ◌∷◌, ◌++◌, Option}
use Rattle.std.specs.List.{list_any}
use Rattle.zpath.specs.declared.fault.PathFault.{PathFault}
use Rattle.zpath.specs.declared.fault.PathFault.TheVariants.{NameTooLong, PathTooLong, Memory}
use Rattle.zpath.specs.First.{first_that_holds}
use Rattle.zpath.specs.declared.limits.TheConstants.{COUNTER_DIGITS}
use Rattle.zpath.specs.Grammar.{is_long, is_long_text, text_of}

-- the last `width` decimal digits of a number, padded with leading zeros
abbrev pub digits : ℕ → ℕ → List ℕ
digits zero number = []
digits (suc width) number = digits width (number / 10) ++ (48 + number % 10) ∷ []

-- the path with a counter's digits appended to its last name; the root, which no caller numbers, is
-- left as it is
abbrev pub numbered_path : List (List ℕ) → ℕ → List (List ℕ)
numbered_path [] counter = []
numbered_path (name ∷ []) counter = (name ++ digits COUNTER_DIGITS counter) ∷ []
numbered_path (name ∷ next ∷ path) counter = name ∷ numbered_path (next ∷ path) counter

-- a name or the whole text is over its limit
abbrev pub is_over : List (List ℕ) → Bool
is_over path = list_any is_long path || is_long_text (text_of path)

-- out of memory, or the path with the counter's digits is over a limit
abbrev pub IsMemoryOrOver : List (List ℕ) → ℕ → PathFault → Type 0
IsMemoryOrOver path counter fault = (fault ≡ Memory) ⊎ (is_over (numbered_path path counter) ≡ true)

-- the tests of a path with a counter's digits, in order, each with its fault
abbrev pub numbered_tests : List (List ℕ) → ℕ → List (Bool × PathFault)
numbered_tests path counter =
    (list_any is_long (numbered_path path counter), NameTooLong)
    ∷ (is_long_text (text_of (numbered_path path counter)), PathTooLong)
    ∷ []

-- the fault of a path with a counter's digits, if any
unfoldable pub numbered_fault : List (List ℕ) → ℕ → Option PathFault
numbered_fault path counter = first_that_holds (numbered_tests path counter)
