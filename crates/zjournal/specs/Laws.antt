-- What holds of all files.
use Rattle.std.specs.Prelude.{◌≡◌, ℕ, List}
use Rattle.zjournal.specs.declared.fault.OpenError.{OpenError}
use Rattle.zjournal.specs.Journal.{Represents}
use Rattle.zjournal.specs.Faults.{IsSuch, IsOfContent}

-- a file represents one list of batches
abbrev pub FilesHaveOneReading : Type 0
FilesHaveOneReading = (servers : ℕ) (file : List ℕ) (batches others : List (List ℕ))
    → Represents servers batches file → Represents servers others file → batches ≡ others

-- a file that represents batches has no fault. So what a crash leaves of a journal can be opened
abbrev pub WhatStandsHasNoFault : Type 0
WhatStandsHasNoFault = (servers : ℕ) (file : List ℕ) (batches : List (List ℕ)) (e : OpenError)
    → Represents servers batches file → IsOfContent e → IsSuch servers file e → ⊥
