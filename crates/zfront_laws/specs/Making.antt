-- The updates of a front's log: first those already taken, then those still recorded.
use Rattle.std.specs.Prelude.{◌≡◌, ℕ, Bool, true, List, [], ◌∷◌, ◌++◌, None, Some}
use Rattle.std.specs.FinMap.{contains_key, get}
use Rattle.ztree.specs.Tree.{Tree}
use Rattle.zcalls.specs.declared.call.Update.{Update}
use Rattle.zresponses.specs.declared.clock.Clock.{Clock}
use Rattle.zconnections.specs.declared.attachments.attachment.Attachment.{Attachment}
use Rattle.zwatches.specs.declared.limits.WatchLimits.{WatchLimits}
use Rattle.ztree_service.specs.log.Logs.{Log, calls_of}
use Rattle.zfront.specs.Front.{FrontView, updates_among}
use Rattle.zfront.specs.Restoring.{beginning}
use Rattle.zfront_laws.specs.Runs.{Step, Took, Does, KeepsFew, Runs}
use Rattle.zfront_laws.specs.Logs.{step_log, run_log}

-- the updates of a log, in order
abbrev pub updates_in : Log → List Update
updates_in log = updates_among (calls_of log)

-- updates are recorded until they are taken
abbrev pub KeepsMade : FrontView → Type 0
KeepsMade v = v.is_kept ≡ true

-- the updates that a step takes, and those that steps take, in order
abbrev pub took_at : Step → FrontView → List Update
took_at Took v = v.made
took_at other v = []

abbrev pub took_in : (steps : List Step) (old new : FrontView) → Runs steps old new → List Update
took_in [] old new is = []
took_in (step ∷ steps) old new has = took_at step old ++ took_in steps has.0 new has.2

-- at each step the updates of its log come after those that were recorded before
abbrev pub EveryStepMakesMore : Type 0
EveryStepMakesMore =
    (step : Step) (old new : FrontView) → KeepsFew old → KeepsMade old → (does : Does step old new)
    → (old.made ++ updates_in (step_log step old new does) ≡ took_at step old ++ new.made) × KeepsMade new

-- a front begins with each session of its tree, without a connection
abbrev pub EverySessionIsRestored : Type 0
EverySessionIsRestored =
    (limits : WatchLimits) (t : Tree) (secret : List ℕ) (times : Clock) (is_kept : Bool) (session : ℕ) → contains_key t.sessions session ≡ true
    → (s : Attachment) × (get (beginning limits t secret times is_kept).tables.attachments session ≡ Some s) × (s.connection ≡ None)

-- the updates of the log are those taken and those still recorded: each once, in order
abbrev pub EveryChangeIsMade : Type 0
EveryChangeIsMade =
    (limits : WatchLimits) (t : Tree) (secret : List ℕ) (times : Clock) (steps : List Step) (v : FrontView)
    → (runs : Runs steps (beginning limits t secret times true) v)
    → updates_in (run_log steps (beginning limits t secret times true) v runs) ≡ took_in steps (beginning limits t secret times true) v runs ++ v.made
