-- When each fault occurs.
use Rattle.std.specs.Prelude.{◌≡◌, ◌≢◌, ◌⊎◌, ◌<◌, ◌≤◌, ℕ, List, [], ◌∷◌, ◌++◌, length, take}
use Rattle.zjournal.specs.declared.device.DeviceError.{DeviceError}
use Rattle.zjournal.specs.declared.device.DeviceError.TheVariants as device
use Rattle.zjournal.specs.declared.fault.OpenError.{OpenError}
use Rattle.zjournal.specs.declared.fault.OpenError.TheVariants as opening
use Rattle.zjournal.specs.declared.fault.PutError.{PutError}
use Rattle.zjournal.specs.declared.fault.PutError.TheVariants as put
use Rattle.zjournal.specs.Blocks.{IsText, AreTexts, blocks}
use Rattle.zjournal.specs.Checksum.{IsSum, digits, sum_after_all, stamped}
use Rattle.zjournal.specs.Journal.{head_of, version, word, holdings, IsBeingMade}

-- what a device's error becomes for an opening, and for a put
abbrev pub open_error : DeviceError → OpenError
open_error device.Memory = opening.Memory
open_error device.Failed = opening.Failed

abbrev pub put_error : DeviceError → PutError
put_error device.Memory = put.Memory
put_error device.Failed = put.Failed

-- the file begins as a journal of this version and number of servers, followed by the rest
abbrev pub Begins : ℕ → ℕ → List ℕ → List ℕ → Type 0
Begins version servers rest file = file ≡ 1 ∷ head_of version servers rest

-- the file begins as a journal of some version does, or is being made
abbrev pub IsJournal : ℕ → List ℕ → Type 0
IsJournal servers file = IsBeingMade servers file ⊎ ((version given : ℕ) × (rest : List ℕ) × Begins version given rest file)

-- the file begins as a journal of this version, but is one of something else
abbrev pub HasOtherWord : List ℕ → Type 0
HasOtherWord file = (given : ℕ) × (rest : List ℕ) × Begins version given rest file × (4 ≤ length rest) × (take 4 rest ≢ word)

-- it begins as a journal of an older version
abbrev pub IsOlder : List ℕ → Type 0
IsOlder file = (older given : ℕ) × (rest : List ℕ) × Begins older given rest file × (0 < older) × (older < version)

-- after the number of servers the head isn't as it has to be: a word, a sum, and its end
abbrev pub HasOtherHead : ℕ → List ℕ → Type 0
HasOtherHead servers file = (rest : List ℕ) × Begins version servers rest file
    × ((start : ℕ) (more : List ℕ) → IsSum start → rest ≡ word ++ digits start ++ 0 ∷ more → ⊥) × (HasOtherWord file → ⊥)

-- after these batches is a set commit byte, and something after it that is no block of a batch
abbrev pub HasOtherBlock : ℕ → ℕ → List (List ℕ) → List ℕ → Type 0
HasOtherBlock start servers batches file = (rest : List ℕ) × (file ≡ blocks (holdings start servers batches) ++ 1 ∷ rest) × (rest ≢ [])
    × ((text more : List ℕ) → IsText (stamped (sum_after_all start batches) text) → rest ≡ stamped (sum_after_all start batches) text ++ 0 ∷ more → ⊥)

-- the block at this index is damaged
abbrev pub IsDamagedAt : ℕ → ℕ → List ℕ → Type 0
IsDamagedAt servers at file =
    ((at ≡ 0) × HasOtherHead servers file)
    ⊎ ((start : ℕ) × IsSum start × (batches : List (List ℕ)) × AreTexts (holdings start servers batches)
    × (at ≡ length (blocks (holdings start servers batches))) × HasOtherBlock start servers batches file)

-- the file is as the fault says; Memory and Failed say nothing of it
abbrev pub IsSuch : ℕ → List ℕ → OpenError → Type 0
IsSuch servers file opening.Memory = Unit {0}
IsSuch servers file opening.Failed = Unit {0}
IsSuch servers file opening.NotJournal = IsJournal servers file → ⊥
IsSuch servers file (opening.Version other) =
    (given : ℕ) × (rest : List ℕ) × Begins other given rest file × (other ≢ version) × (IsOlder file → ⊥)
IsSuch servers file opening.Old = IsOlder file
IsSuch servers file opening.Other = HasOtherWord file
IsSuch servers file (opening.Servers given) =
    (rest : List ℕ) × Begins version given rest file × (given ≢ servers) × (HasOtherWord file → ⊥)
IsSuch servers file (opening.Damaged at) = IsDamagedAt servers at file

-- the fault is one of the file's content
abbrev pub IsOfContent : OpenError → Type 0
IsOfContent opening.Memory = ⊥
IsOfContent opening.Failed = ⊥
IsOfContent opening.NotJournal = Unit {0}
IsOfContent (opening.Version other) = Unit {0}
IsOfContent opening.Old = Unit {0}
IsOfContent opening.Other = Unit {0}
IsOfContent (opening.Servers given) = Unit {0}
IsOfContent (opening.Damaged at) = Unit {0}
