-- Laws of every front end for ZooKeeper's clients. The functions of `src/laws.rt` promise them.
use Rattle.std.specs.Prelude.{◌≡◌, ◌⊎◌, ℕ, Bool, List, ◌++◌, Ok, Err}
use Rattle.std.specs.List.{AllByRecursion}
use Rattle.zcodec.specs.Readers.{whole}
use Rattle.zcodec.specs.declared.fault.Fault.{Fault}
use Rattle.ztree.specs.Tree.{Tree}
use Rattle.zcalls.specs.declared.call.Call.{Call}
use Rattle.zjute.specs.Asking.{request}
use Rattle.zjute.specs.declared.request.Request.{Request}
use Rattle.zrequests.specs.Laws.{CallIsFor}
use Rattle.zresponses.specs.declared.clock.Clock.{Clock}
use Rattle.ztree_service.specs.log.Logs.{Log, Leads}
use Rattle.zconnections.specs.Tables.{closed}
use Rattle.zwatches.specs.declared.limits.WatchLimits.{WatchLimits}
use Rattle.zfront.specs.Front.{FrontView, with_tables}
use Rattle.zfront.specs.Restoring.{beginning}
use Rattle.zfront.specs.Requests.{Serves, Makes, request_in, touched_by}
use Rattle.zfront_laws.specs.Runs.{Step, Does, KeepsFew, Runs}
use Rattle.zfront_laws.specs.Logs.{step_log, run_log}

-- the log of each step leads from the tree before it to the tree after it, with that tree's
-- replies; and the bound on stored bytes is preserved
abbrev pub EveryStepGoesOn : Type 0
EveryStepGoesOn =
    (step : Step) (old new : FrontView) → KeepsFew old → (does : Does step old new)
    → Leads old.tree (step_log step old new does) new.tree × KeepsFew new

-- the same for steps in order
abbrev pub EveryRunGoesOn : Type 0
EveryRunGoesOn =
    (steps : List Step) (old new : FrontView) → KeepsFew old → (runs : Runs steps old new)
    → Leads old.tree (run_log steps old new runs) new.tree × KeepsFew new

-- a front stores few bytes, whatever tree it began with
abbrev pub EveryFrontKeepsFew : Type 0
EveryFrontKeepsFew =
    (limits : WatchLimits) (t : Tree) (secret : List ℕ) (times : Clock) (is_kept : Bool) (steps : List Step) (v : FrontView)
    → Runs steps (beginning limits t secret times is_kept) v → KeepsFew v

-- the calls of all connections form one log: that of the steps, after any earlier log that led from
-- some tree to the first one; its replies are those of that tree
abbrev pub EveryFrontIsOneTree : Type 0
EveryFrontIsOneTree =
    (limits : WatchLimits) (t : Tree) (secret : List ℕ) (times : Clock) (is_kept : Bool) (start : Tree) (before : Log) (steps : List Step) (v : FrontView)
    → Leads start before t → (runs : Runs steps (beginning limits t secret times is_kept) v)
    → Leads start (before ++ run_log steps (beginning limits t secret times is_kept) v runs) v.tree

-- whatever tree a front began with, the log since then is that tree's
abbrev pub EveryFrontIsItsTrees : Type 0
EveryFrontIsItsTrees =
    (limits : WatchLimits) (t : Tree) (secret : List ℕ) (times : Clock) (is_kept : Bool) (steps : List Step) (v : FrontView)
    → (runs : Runs steps (beginning limits t secret times is_kept) v) → Leads t (run_log steps (beginning limits t secret times is_kept) v runs) v.tree

-- the secret, the clock, and whether updates are recorded never change
abbrev pub StaysAsItBegan : Type 0
StaysAsItBegan =
    (steps : List Step) (old new : FrontView) → KeepsFew old → Runs steps old new
    → (new.secret ≡ old.secret) × (new.clock ≡ old.clock) × (new.is_kept ≡ old.is_kept)

-- bytes that are no valid request close their connection and make no call
abbrev pub NoRequestMakesNoCall : Type 0
NoRequestMakesNoCall =
    (bytes : List ℕ) (session c : ℕ) (fault : Fault) (old new : FrontView) → whole request bytes ≡ Err fault → Serves bytes session c old new
    → (new ≡ with_tables (closed c old.tables) old) × (new.tree ≡ old.tree)

-- a frame makes calls that act for the session of its connection only, or it makes none
abbrev pub RequestsAreForTheirSession : Type 0
RequestsAreForTheirSession =
    (bytes : List ℕ) (session c : ℕ) (old new : FrontView) → Serves bytes session c old new
    → (new.tree ≡ old.tree)
    ⊎ ((r : Request) × (calls : List Call) × (request_in old.clock.base bytes ≡ Ok r) × AllByRecursion (CallIsFor session) calls
    × Makes calls c r (touched_by session old) new)
