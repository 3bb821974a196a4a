-- What holds across all incarnations of a service. The functions of `src/laws.rt` promise it.
use Rattle.std.specs.Prelude.{◌≡◌, ℕ, List, [], ◌++◌}
use Rattle.ztree.specs.Tree.{Tree, opening_tree}
use Rattle.ztree_service.specs.log.Logs.{Log, Leads}
use Rattle.zsnapshots.specs.folder.Entries.{Entry}
use Rattle.zsnapshots.specs.folder.States.{after}
use Rattle.zfront.specs.Front.{FrontView}
use Rattle.zfront_laws.specs.Making.{updates_in}
use Rattle.zjournal.specs.Checksum.{sum_after_all}
use Rattle.zdurable.specs.Compaction.{IsLastPart, MayReplace, continued_by}
use Rattle.zdurable.specs.Making.{HasKept, kept_since, log_since}
use Rattle.zdurable.specs.Incarnations.{Incarnation, FileKeeps, AreIncarnations, IsWoven, Part, PartsLead, ArePartsOf, AreWithin}

-- A front end whose changes are durable made its calls after any log that leads from some tree to
-- the one with which it began. All of it is one log of that tree, which leads to the front's own. The
-- front's updates are those that are durable, and after them those still to be committed, which lead
-- from the durable tree to its own. So if nothing is left to commit, all that the front can
-- acknowledge is durable.
abbrev pub WhatIsKeptStandsInALog : Type 0
WhatIsKeptStandsInALog =
    (t : Tree) (v : FrontView) (has : HasKept t v) (start : Tree) (before : Log) → Leads start before has.start
    → Leads start (before ++ log_since t v has) v.tree
    × (t ≡ after has.start (kept_since t v has))
    × (updates_in (log_since t v has) ≡ kept_since t v has ++ v.made)
    × (v.tree ≡ after t v.made)

-- From a file on, across any restarts and compactions, while the limits stay those of its tree: all
-- acknowledged calls are in one log, each once, in order and with the reply that was sent. Its
-- replies are those of one plain tree, the file's. The last file holds the tree that its changes
-- leave. So an acknowledged change is never undone, and what was in flight acted once or not at all.
abbrev pub IncarnationsAreOneTree : Type 0
IncarnationsAreOneTree =
    (servers : ℕ) (start : Tree) (first : List ℕ) (incarnations : List Incarnation) (last : List ℕ) (t : Tree)
    → FileKeeps servers start first → AreWithin start.limits incarnations → AreIncarnations servers first incarnations last
    → FileKeeps servers t last
    → (log : Log) × (entries : List Entry) × IsWoven incarnations log entries × Leads start log t
    × (t ≡ after start entries) × (updates_in log ≡ entries)

-- With any limits at each restart: the log has a part for each incarnation, in which its
-- acknowledged calls are as above. A part is the log of one plain tree: the one that the part before
-- left, within the limits of this incarnation. So a restart changes nothing but the limits.
abbrev pub EachIncarnationIsAPart : Type 0
EachIncarnationIsAPart =
    (servers : ℕ) (start : Tree) (first : List ℕ) (incarnations : List Incarnation) (last : List ℕ) (t : Tree)
    → FileKeeps servers start first → AreIncarnations servers first incarnations last → FileKeeps servers t last
    → (parts : List Part) × ArePartsOf incarnations parts × PartsLead start parts t

-- a new file holds the initial tree of the profile
abbrev pub NewFilesKeepTheOpening : Type 0
NewFilesKeepTheOpening = (servers : ℕ) → FileKeeps servers opening_tree []

-- A compaction of all parts but the last one changes nothing. Whatever blocks of entries the last part
-- has, before the compaction and after it the parts hold the tree that these entries leave.
abbrev pub CompactedPartsContinue : Type 0
CompactedPartsContinue =
    (servers : ℕ) (t : Tree) (old new : List ℕ) (may : MayReplace servers t old new) (entries : List Entry) (part : List ℕ)
    → IsLastPart (sum_after_all may.old_start may.before) entries part
    → FileKeeps servers (after t entries) (continued_by old part) × FileKeeps servers (after t entries) (continued_by new part)
