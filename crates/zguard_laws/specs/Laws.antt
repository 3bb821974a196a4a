-- Laws of every front end behind a guard. The functions of `src/laws.rt` promise them.
use Rattle.std.specs.Prelude.{◌≡◌, ◌⊎◌, ℕ, Bool, List, [], ◌∷◌, ◌++◌, Option, None, Some, Ok}
use Rattle.std.specs.List.{AllByRecursion}
use Rattle.ztree.specs.Tree.{Tree}
use Rattle.zcalls.specs.declared.call.Call.{Call}
use Rattle.zcalls.specs.declared.call.Call.TheVariants.{Update}
use Rattle.zcalls.specs.declared.call.Update.TheVariants.{Open}
use Rattle.zresponses.specs.declared.clock.Clock.{Clock}
use Rattle.zwatches.specs.declared.limits.WatchLimits.{WatchLimits}
use Rattle.zconnections.specs.buffers.Inputs.InputView.{Came}
use Rattle.ztree_service.specs.log.Logs.{calls_of}
use Rattle.zfront.specs.Front.{FrontView}
use Rattle.zfront.specs.Requests.{request_in}
use Rattle.zfront_laws.specs.Given.{since_opened}
use Rattle.zfront_laws.specs.Logs.{step_log}
use Rattle.zfront_laws.specs.Runs.{Step, Takes, Does, Runs}
use Rattle.zguard.specs.Laws.{GaveLogin, IsLogin}
use Rattle.zguard_laws.specs.Inputs.{passed}
use Rattle.zguard_laws.specs.Runs.{GuardedView, GuardedRuns, guarded_beginning, passed_steps}

-- the front behind a guard is a front: it makes the steps that any front makes of what passes
abbrev pub EveryGuardedFrontIsAFront : Type 0
EveryGuardedFrontIsAFront =
    (steps : List Step) (old new : GuardedView) → (runs : GuardedRuns steps old new)
    → Runs (passed_steps steps old new runs) old.front new.front

-- a frame that gave a login is the same auth to the front, whatever base it tells zxids from
abbrev pub EveryLoginIsAnAuth : Type 0
EveryLoginIsAnAuth =
    (logins : List (List ℕ)) (bytes : List ℕ) (base : ℕ) → (login : IsLogin logins bytes) → request_in base bytes ≡ Ok login.asked_for

-- the call opens a session
abbrev pub IsOpening : Call → Type 0
IsOpening (Update (Open ticks)) = Unit {0}
IsOpening other = ⊥

-- among the bytes that came on a connection since it was opened, a login was given
abbrev pub HasGiven : List (List ℕ) → Option (List ℕ) → Type 0
HasGiven logins None = ⊥
HasGiven logins (Some came) = GaveLogin logins came

-- Bytes come on a connection, whatever the steps before were. By then it has given a login, or all
-- calls that they make open a session. (The other inputs that make calls are ticks.)
abbrev pub NoStrangerMakesACall : Type 0
NoStrangerMakesACall =
    (logins : List (List ℕ)) (limits : WatchLimits) (t : Tree) (secret : List ℕ) (times : Clock) (is_kept : Bool)
    (before : List Step) (c : ℕ) (bytes : List ℕ) (old : GuardedView) (new : FrontView)
    → GuardedRuns before (guarded_beginning logins limits t secret times is_kept) old
    → (does : Does (Takes (passed old.guard (Came c bytes))) old.front new)
    → HasGiven logins (since_opened c (before ++ Takes (Came c bytes) ∷ []) None)
    ⊎ AllByRecursion IsOpening (calls_of (step_log (Takes (passed old.guard (Came c bytes))) old.front new does))
