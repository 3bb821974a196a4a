-- The limits of watches, whatever the steps of a front are. The source is this project's profile.
use Rattle.std.specs.Prelude.{◌≡◌, ℕ, Bool, List}
use Rattle.ztree.specs.Tree.{Tree}
use Rattle.zops.specs.RestoredLaws.{IsSettled}
use Rattle.zwatches.specs.Limits.{IsWithin}
use Rattle.zwatches.specs.declared.limits.WatchLimits.{WatchLimits}
use Rattle.zresponses.specs.declared.clock.Clock.{Clock}
use Rattle.ztree_service.specs.log.Logs.{Log, Leads}
use Rattle.zfront.specs.Front.{FrontView}
use Rattle.zfront.specs.Restoring.{beginning}
use Rattle.zfront_laws.specs.Runs.{Step, Runs}

-- a front has the limits that it began with, and its watches are within them, if a log led to its
-- first tree from a settled one; that log may be empty
abbrev pub EveryFrontKeepsItsLimits : Type 0
EveryFrontKeepsItsLimits =
    (limits : WatchLimits) (t : Tree) (secret : List ℕ) (times : Clock) (is_kept : Bool) (start : Tree) (before : Log) (steps : List Step) (v : FrontView)
    → IsSettled start → Leads start before t → Runs steps (beginning limits t secret times is_kept) v
    → (v.tables.limits ≡ limits) × IsWithin limits v.tables.watches
