-- What is committed of a front end's changes: its updates, each as an entry.
use Rattle.std.specs.Prelude.{◌≡◌, ℕ, true, List}
use Rattle.ztree.specs.Tree.{Tree}
use Rattle.zresponses.specs.declared.clock.Clock.{Clock}
use Rattle.ztree_service.specs.log.Logs.{Log}
use Rattle.zsnapshots.specs.folder.Entries.{Entry}
use Rattle.zsnapshots.specs.folder.States.{after}
use Rattle.zwatches.specs.declared.limits.WatchLimits.{WatchLimits}
use Rattle.zfront.specs.Front.{FrontView}
use Rattle.zfront.specs.Restoring.{beginning}
use Rattle.zfront_laws.specs.Logs.{run_log}
use Rattle.zfront_laws.specs.Making.{took_in}
use Rattle.zfront_laws.specs.Runs.{Step, Runs}

-- A front end began with a tree, and then had steps. At some of them the updates that it had made
-- were taken from it, and committed. This is the tree that they leave.
pub record HasKept (t : Tree) (v : FrontView) : Type 0 where
  pub limits : WatchLimits
  pub start : Tree
  pub secret : List ℕ
  pub times : Clock
  pub steps : List Step
  pub runs : Runs steps (beginning limits start secret times true) v
  pub all : t ≡ after start (took_in steps (beginning limits start secret times true) v runs)

-- the entries that were committed since it began, and the log of its calls
abbrev pub kept_since : (t : Tree) (v : FrontView) → HasKept t v → List Entry
kept_since t v has = took_in has.steps (beginning has.limits has.start has.secret has.times true) v has.runs

abbrev pub log_since : (t : Tree) (v : FrontView) → HasKept t v → Log
log_since t v has = run_log has.steps (beginning has.limits has.start has.secret has.times true) v has.runs
