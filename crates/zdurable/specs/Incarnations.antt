-- The incarnations of a service, each from its opening to its crash or its end. A crash is the
-- moment at which the power goes, the machine stops or the process is killed.
use Rattle.std.specs.Prelude.{◌≡◌, ◌⊎◌, ℕ, List, [], ◌∷◌, ◌++◌}
use Rattle.std.specs.List.{AllByRecursion}
use Rattle.ztree.specs.declared.limits.TreeLimits.{TreeLimits}
use Rattle.ztree.specs.Tree.{Tree}
use Rattle.zstore.specs.Restored.{with_limits}
use Rattle.ztree_service.specs.log.Logs.{Log, Leads, calls_of, IsOneTreesFrom}
use Rattle.zjournal.specs.Journal.{Represents}
use Rattle.zjournal.specs.Scan.{joined}
use Rattle.zsnapshots.specs.folder.Entries.{Entry, calls_again}
use Rattle.zsnapshots.specs.folder.States.{after}
use Rattle.zsnapshots.specs.folder.Texts.{IsTextOf}
use Rattle.zfront_laws.specs.Making.{updates_in}

-- the file holds this tree: it represents batches whose text does
pub record FileKeeps (servers : ℕ) (t : Tree) (file : List ℕ) : Type 0 where
  pub batches : List (List ℕ)
  pub stands : Represents servers batches file
  pub text : IsTextOf t (joined batches)

-- an incarnation: the limits of its tree; the calls that it made and may have acknowledged, with
-- their replies; the entries that it committed; and those of a block in flight when it ended
pub record Incarnation : Type 0 where
  pub limits : TreeLimits
  pub reported : Log
  pub kept : List Entry
  pub under_way : List Entry

-- An incarnation that found a file with this tree, and left this file. However often it compacted
-- the file meanwhile, the file holds the tree that its changes leave. (A start that ends before its
-- limits are in the file makes no calls: it is one with the limits of before.)
pub record IsIncarnation (servers : ℕ) (found : Tree) (incarnation : Incarnation) (left : List ℕ) : Type 0 where
  -- its calls were answered by one tree, the one that was found, within its limits
  pub one_tree : IsOneTreesFrom (with_limits found incarnation.limits) incarnation.reported
  -- and its changes are durable, with the block in flight or without it
  pub kept : updates_in incarnation.reported ≡ incarnation.kept
  pub leaves : FileKeeps servers (after (with_limits found incarnation.limits) incarnation.kept) left
      ⊎ FileKeeps servers (after (with_limits found incarnation.limits) (incarnation.kept ++ incarnation.under_way)) left

-- incarnations in order, from a first file to a last one
abbrev pub AreIncarnations : ℕ → List ℕ → List Incarnation → List ℕ → Type 0
AreIncarnations servers file [] last = last ≡ file
AreIncarnations servers file (incarnation ∷ incarnations) last =
    (found : Tree) × FileKeeps servers found file × (left : List ℕ) × IsIncarnation servers found incarnation left × AreIncarnations servers left incarnations last

-- The log is what each incarnation acknowledged, in order. After that are the changes in flight at
-- its end, all of them or none, with replies that were never sent. The entries are those of all
-- changes of the log.
abbrev pub IsWoven : List Incarnation → Log → List Entry → Type 0
IsWoven [] log entries = (log ≡ []) × (entries ≡ [])
IsWoven (incarnation ∷ incarnations) log entries =
    (acted : List Entry) × ((acted ≡ []) ⊎ (acted ≡ incarnation.under_way))
    × (unreported : Log) × (calls_of unreported ≡ calls_again acted)
    × (later : Log) × (more : List Entry)
    × (log ≡ incarnation.reported ++ (unreported ++ later)) × (entries ≡ incarnation.kept ++ (acted ++ more)) × IsWoven incarnations later more

-- ---- parts

-- a part of a log: the calls that were answered within these limits, with their replies
pub record Part : Type 0 where
  pub limits : TreeLimits
  pub log : Log

-- Parts lead from one tree to another. Each is the log of one tree: the one that the part before
-- left, within the limits of the part.
abbrev pub PartsLead : Tree → List Part → Tree → Type 0
PartsLead t [] last = last ≡ t
PartsLead t (part ∷ parts) last = (left : Tree) × Leads (with_limits t part.limits) part.log left × PartsLead left parts last

-- each part is that of an incarnation, with its limits
abbrev pub ArePartsOf : List Incarnation → List Part → Type 0
ArePartsOf [] parts = parts ≡ []
ArePartsOf (incarnation ∷ incarnations) parts =
    (part : Part) × (later : List Part) × (parts ≡ part ∷ later) × (part.limits ≡ incarnation.limits)
    × IsWoven (incarnation ∷ []) part.log (updates_in part.log) × ArePartsOf incarnations later

-- all of them have these limits
abbrev pub AreWithin : TreeLimits → List Incarnation → Type 0
AreWithin limits = AllByRecursion (λ (incarnation : Incarnation). incarnation.limits ≡ limits)
