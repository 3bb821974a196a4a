-- What a journal's file represents. Its first block is the head, which says what the file is. Each
-- further block holds a batch of text after its checksum.
--
-- The mark and the version come first in the head, where every version has them. `Keeps` is a
-- relation and not a function that reads: so the definition doesn't repeat the code. That a file
-- has one reading is a law.
use Rattle.std.specs.Prelude.{◌≡◌, ◌≢◌, ◌⊎◌, ℕ, ◌+◌, ◌≤◌, List, [], ◌∷◌, ◌++◌, length, codes, true}
use Rattle.zjournal.specs.declared.place.Place.{Place}
use Rattle.zjournal.specs.declared.journal.Journal.{Journal}
use Rattle.zjournal.specs.Device.{Only}
use Rattle.zjournal.specs.Blocks.{AreTexts, blocks, at_rest, IsEnd}
use Rattle.zjournal.specs.Checksum.{IsSum, digits, sum_after_all, stamped_all}

-- the head: a mark, the version of the format, the number of servers, a word of four bytes, and the
-- sum from which the first checksum continues
abbrev pub mark : List ℕ
mark = codes "jellqupas journal "

abbrev pub version : ℕ
version = 3

-- what the journal is of, so that no other program opens it
abbrev pub word : List ℕ
word = codes "tree"

abbrev pub head_of : ℕ → ℕ → List ℕ → List ℕ
head_of version servers more = mark ++ version ∷ servers ∷ more

abbrev pub head : ℕ → ℕ → List ℕ
head start servers = head_of version servers (word ++ digits start)

-- the content of the blocks
abbrev pub holdings : ℕ → ℕ → List (List ℕ) → List (List ℕ)
holdings start servers batches = head start servers ∷ stamped_all start batches

-- the file holds these batches, in order, and no others; no block holds a byte 0
pub record Keeps (servers : ℕ) (batches : List (List ℕ)) (file : List ℕ) : Type 0 where
  pub start : ℕ
  pub is_sum : IsSum start
  pub texts : AreTexts (holdings start servers batches)
  pub end : List ℕ
  pub split : file ≡ blocks (holdings start servers batches) ++ end
  pub counts_for_nothing : IsEnd end

-- the file holds nothing but a part of its head: it has at most one byte, or a clear commit byte
-- and after it no more than a head's block
abbrev pub IsUnmade : ℕ → List ℕ → Type 0
IsUnmade servers [] = Unit {0}
IsUnmade servers (commit_byte ∷ []) = Unit {0}
IsUnmade servers (commit_byte ∷ b ∷ more) = (commit_byte ≡ 0) × (length (b ∷ more) ≤ length (head 1 servers) + 2)

-- its whole head is written, but its commit byte isn't set
abbrev pub IsUnopened : ℕ → List ℕ → Type 0
IsUnopened servers file = (commit_byte : ℕ) × (commit_byte ≢ 1) × (file ≡ commit_byte ∷ (head 1 servers ++ 0 ∷ 0 ∷ []))

-- the file is being made: a crash may leave it so before its first batch
abbrev pub IsBeingMade : ℕ → List ℕ → Type 0
IsBeingMade servers file = IsUnmade servers file ⊎ IsUnopened servers file

-- the file represents these batches: it holds them, or it is being made and there are none
abbrev pub Represents : ℕ → List (List ℕ) → List ℕ → Type 0
Represents servers batches file = Keeps servers batches file ⊎ (IsBeingMade servers file × (batches ≡ []))

-- the next block goes there: after the blocks of these batches, and its sum continues from theirs
pub record IsPlace (servers : ℕ) (batches : List (List ℕ)) (place : Place) : Type 0 where
  pub end : place.end ≡ length (blocks (holdings place.start servers batches))
  pub sum : place.sum ≡ sum_after_all place.start batches
  pub is_sum : IsSum place.start

-- a journal over a device: the file is at rest with these batches, all of it durable, and the next
-- block begins at the clear commit byte. It knows for how many servers it is
pub record IsAtRest {D : Type 0} (seen : D → List ℕ) (may_leave : D → List ℕ → Type 0) (servers : ℕ) (batches : List (List ℕ)) (journal : Journal D) : Type 0 where
  pub texts : AreTexts (holdings journal.place.start servers batches)
  pub file : seen journal.device ≡ at_rest (holdings journal.place.start servers batches)
  pub head_is : journal.servers ≡ servers
  pub place : IsPlace servers batches journal.place
  pub durable : Only (seen journal.device) (may_leave journal.device)

-- the device, the length of its blocks, the sums from which the first and the next checksum
-- continue, and whether the journal takes batches
abbrev pub device_of : {D : Type 0} → Journal D → D
device_of journal = journal.device

abbrev pub size_of : {D : Type 0} → Journal D → ℕ
size_of journal = journal.place.end

abbrev pub start_of : {D : Type 0} → Journal D → ℕ
start_of journal = journal.place.start

abbrev pub sum_of : {D : Type 0} → Journal D → ℕ
sum_of journal = journal.place.sum

abbrev pub IsOpen : {D : Type 0} → Journal D → Type 0
IsOpen journal = journal.is_open ≡ true

-- a journal that takes batches is at rest with some
abbrev pub IsSound : {D : Type 0} → (D → List ℕ) → (D → List ℕ → Type 0) → Journal D → Type 0
IsSound seen may_leave journal = IsOpen journal → (servers : ℕ) × (batches : List (List ℕ)) × IsAtRest seen may_leave servers batches journal

-- the file holds the batches, with one more or without it
abbrev pub IsWithOrWithout : ℕ → List (List ℕ) → List ℕ → List ℕ → Type 0
IsWithOrWithout servers batches batch file = Keeps servers batches file ⊎ Keeps servers (batches ++ batch ∷ []) file
