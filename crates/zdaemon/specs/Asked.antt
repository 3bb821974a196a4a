-- What the words of a server ask for: this project's own profile.
use Rattle.std.specs.Prelude.{◌≡◌, ◌⊎◌, ◌<◌, ◌*◌, ◌^◌, ℕ, Bool, true, if◌then◌else◌, List, [], ◌∷◌, codes, Option, Some, None}
use Rattle.std.specs.Str.{bytes_eq}
use Rattle.std.specs.Str.Parse.{IsNumeral, digits_value, without_leading_plus}
use Rattle.ztree.specs.Limits.{AreLimits}
use Rattle.ztree.specs.declared.limits.TreeLimits.{TreeLimits}
use Rattle.zrequests.specs.Terms.{Terms}
use Rattle.zwatches.specs.declared.limits.WatchLimits.{WatchLimits}
use Rattle.zjournal.specs.declared.file.mode.SyncMode.{SyncMode}
use Rattle.zjournal.specs.declared.file.mode.SyncMode.TheVariants.{Batch, Never}
use Rattle.zdaemon.specs.declared.words.FolderSettings.{FolderSettings}
use Rattle.zdaemon.specs.declared.words.HostedSettings.{HostedSettings}

-- whether to wait for the disk
abbrev pub mode_of : List ℕ → Option SyncMode
mode_of word =
    if bytes_eq word (codes "batch") then Some Batch else
    if bytes_eq word (codes "never") then Some Never else None

-- the word is this number in decimal, of at most this many bits; a plus may come first
pub record Spells (bits : ℕ) (word : List ℕ) (n : ℕ) : Type 0 where
  pub numeral : IsNumeral 10 (without_leading_plus word)
  pub value : n ≡ digits_value 10 (without_leading_plus word)
  pub fits : n < 2 ^ bits

-- it is this many MiB, and these are their bytes
abbrev pub SpellsBytes : List ℕ → ℕ → Type 0
SpellsBytes word bytes = (n : ℕ) × Spells 32 word n × (bytes ≡ n * 2 ^ 20)

-- how many watches there may be: of all connections together, and of each
abbrev pub SpellLimits : List ℕ → List ℕ → WatchLimits → Type 0
SpellLimits most each limits = Spells 32 most limits.most × Spells 32 each limits.each

-- the milliseconds of a tick, the greatest size of a node's data in bytes, and the most parts of a
-- multi
abbrev pub SpellTerms : List ℕ → List ℕ → List ℕ → Terms → Type 0
SpellTerms tick bytes parts terms = Spells 32 tick terms.tick × Spells 32 bytes terms.bytes × Spells 32 parts terms.parts

-- the limits of a tree, which it can have: nodes, sessions, and the ticks of a session's timeout
abbrev pub SpellTree : List ℕ → List ℕ → List ℕ → TreeLimits → Type 0
SpellTree nodes sessions timeout limits =
    Spells 32 nodes limits.nodes × Spells 32 sessions limits.sessions × Spells 64 timeout limits.timeout × AreLimits limits

-- whether to wait for the disk; the number in the head of its journal, 1 to 16; the journal's MiB
-- at which compaction begins
abbrev pub SpellFolder : List ℕ → List ℕ → List ℕ → FolderSettings → Type 0
SpellFolder mode servers journal kept =
    (mode_of mode ≡ Some kept.mode) × Spells 8 servers kept.last × SpellsBytes journal kept.long

-- memory, instead of a folder
abbrev pub is_dash : List ℕ → Bool
is_dash word = bytes_eq word (codes "-")

-- a tick, the time in milliseconds, the limits of watches, those of the tree, the bytes of a node's
-- data, and the parts of a multi
abbrev pub AreShared : List (List ℕ) → HostedSettings → Type 0
AreShared (tick ∷ now ∷ most ∷ each ∷ nodes ∷ sessions ∷ timeout ∷ bytes ∷ parts ∷ []) asked =
    SpellTerms tick bytes parts asked.terms × Spells 64 now asked.now
    × SpellLimits most each asked.limits × SpellTree nodes sessions timeout asked.tree
AreShared words asked = ⊥

-- after the program's name a dash, and the words above
abbrev pub IsAskedInMemory : List (List ℕ) → HostedSettings → Type 0
IsAskedInMemory (name ∷ dash ∷ shared) asked = (is_dash dash ≡ true) × (asked.folder ≡ None) × AreShared shared asked
IsAskedInMemory words asked = ⊥

-- or a folder with its own words, and the words above
abbrev pub IsAskedInFolder : List (List ℕ) → HostedSettings → Type 0
IsAskedInFolder (name ∷ folder ∷ mode ∷ servers ∷ journal ∷ shared) asked =
    (kept : FolderSettings) × (asked.folder ≡ Some kept) × SpellFolder mode servers journal kept × AreShared shared asked
IsAskedInFolder words asked = ⊥

abbrev pub IsAsked : List (List ℕ) → HostedSettings → Type 0
IsAsked words asked = IsAskedInMemory words asked ⊎ IsAskedInFolder words asked
