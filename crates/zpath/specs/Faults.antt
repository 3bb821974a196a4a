-- Which fault a text has, and which fault a path would have with one more name. The rules are those
-- of the grammar. The names of the faults and their order are this project's own profile.
use Rattle.std.specs.Prelude.{◌≡◌, ◌⊎◌, ℕ, Bool, false, not, ◌==◌, List, [], ◌∷◌, ◌++◌, codes, Option, Some}
use Rattle.std.specs.List.{list_any, slice_split}
use Rattle.zpath.specs.declared.fault.PathFault.{PathFault}
use Rattle.zpath.specs.declared.fault.PathFault.TheVariants.{Empty, NotAbsolute, EmptyName, DotName, BadByte, NameTooLong, PathTooLong, TooDeep, Reserved, Memory}
use Rattle.zpath.specs.First.{first_that_holds}
use Rattle.zpath.specs.Grammar.{is_empty, is_dots, has_bad_byte, is_long, is_long_text, is_deep, is_reserved, text_of}

-- the parts of a text between its slashes
abbrev pub parts_of : List ℕ → List (List ℕ)
parts_of bytes = slice_split (λ byte. byte == 47) bytes

-- the names in a text after its leading slash; empty if nothing follows the slash
abbrev pub names_of : List ℕ → List (List ℕ)
names_of [] = []
names_of (slash ∷ []) = []
names_of (slash ∷ byte ∷ rest) = parts_of (byte ∷ rest)

-- the first byte is a slash
abbrev pub is_absolute : List ℕ → Bool
is_absolute [] = false
is_absolute (byte ∷ rest) = byte == 47

-- the tests of a text in order, each with its fault; each test looks at the whole text
abbrev pub text_tests : List ℕ → List (Bool × PathFault)
text_tests text =
    (is_empty text, Empty)
    ∷ (not (is_absolute text), NotAbsolute)
    ∷ (list_any is_empty (names_of text), EmptyName)
    ∷ (list_any is_dots (names_of text), DotName)
    ∷ (list_any has_bad_byte (names_of text), BadByte)
    ∷ (list_any is_long (names_of text), NameTooLong)
    ∷ (is_long_text text, PathTooLong)
    ∷ (is_deep (names_of text), TooDeep)
    ∷ (is_reserved (names_of text), Reserved)
    ∷ []

-- the first fault of a text
unfoldable pub fault_of : List ℕ → Option PathFault
fault_of text = first_that_holds (text_tests text)

-- the tests of a path extended by one name, in order, each with its fault
abbrev pub child_tests : List (List ℕ) → List ℕ → List (Bool × PathFault)
child_tests path name =
    (is_long_text (text_of (path ++ name ∷ [])), PathTooLong)
    ∷ (is_deep (path ++ name ∷ []), TooDeep)
    ∷ (is_reserved (path ++ name ∷ []), Reserved)
    ∷ []

-- the fault of a path extended by one name, if any
unfoldable pub child_fault : List (List ℕ) → List ℕ → Option PathFault
child_fault path name = first_that_holds (child_tests path name)

-- the fault is the expected one, or it is out of memory
abbrev pub IsMemoryOr : Option PathFault → PathFault → Type 0
IsMemoryOr expected fault = (fault ≡ Memory) ⊎ (expected ≡ Some fault)

-- the text shown for a fault
abbrev pub fault_name : PathFault → List ℕ
fault_name Empty = codes "Empty"
fault_name NotAbsolute = codes "NotAbsolute"
fault_name EmptyName = codes "EmptyName"
fault_name DotName = codes "DotName"
fault_name BadByte = codes "BadByte"
fault_name NameTooLong = codes "NameTooLong"
fault_name PathTooLong = codes "PathTooLong"
fault_name TooDeep = codes "TooDeep"
fault_name Reserved = codes "Reserved"
fault_name Memory = codes "Memory"
