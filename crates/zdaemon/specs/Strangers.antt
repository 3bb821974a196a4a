-- No stranger makes a call of a server with logins: its guard and its front run as those of
-- `zguard_laws` do, on the inputs that its host names.
use Rattle.std.specs.Prelude.{◌≡◌, ◌⊎◌, ℕ, List, [], ◌∷◌, ◌++◌, None}
use Rattle.std.specs.List.{AllByRecursion}
use Rattle.zconnections.specs.buffers.Inputs.{InputView}
use Rattle.zconnections.specs.buffers.Inputs.InputView.{Came}
use Rattle.zconnections.specs.buffers.Outbox.{ChunkView}
use Rattle.ztree_service.specs.log.Logs.{calls_of}
use Rattle.zjournal.specs.declared.file.device.FileDevice.{FileDevice}
use Rattle.zjournal.specs.file.File.{seen_of, MayLeaveOf}
use Rattle.zfront.specs.Front.{FrontView}
use Rattle.zfront_laws.specs.Given.{since_opened}
use Rattle.zfront_laws.specs.Logs.{step_log}
use Rattle.zfront_laws.specs.Runs.{Step, Takes, Does}
use Rattle.zguard.specs.Guarding.{guard_of}
use Rattle.zguard_laws.specs.Inputs.{passed}
use Rattle.zguard_laws.specs.Laws.{HasGiven, IsOpening}
use Rattle.zguard_laws.specs.Runs.{GuardedView}
use Rattle.zdurable.specs.DurableFront.{front_in}
use Rattle.zdaemon.specs.Folder.{TakesIn, KeepsIn, ReportsIn, HasReportedIn}
use Rattle.zdaemon.specs.Guarded.{HasReportedGuarded, KeepsGuarded, ReportsGuarded, TakesGuarded}
use Rattle.zdaemon.specs.Memory.{TakesInMemory, KeepsInMemory, ReportsInMemory, HasReportedInMemory}
use Rattle.zdaemon.specs.Running.{BeginsInFolder, new_front}
use Rattle.zdaemon.specs.declared.folder.InFolder.{InFolder}
use Rattle.zdaemon.specs.declared.guarded.Guarded.{Guarded}
use Rattle.zdaemon.specs.declared.words.FolderSettings.{FolderSettings}
use Rattle.zdaemon.specs.declared.words.HostedSettings.{HostedSettings}
use Rattle.zdaemon.specs.pipe.Messages.{Input, Keep, MessageView}
use Rattle.zdaemon.specs.pipe.Outputs.{OutputView}
use Rattle.zdaemon.specs.pipe.Serving.{Serves}

-- the inputs of messages, each as a step of a front
abbrev pub steps_of : List MessageView → List Step
steps_of [] = []
steps_of (Input input ∷ messages) = Takes input ∷ steps_of messages
steps_of (Keep ∷ messages) = steps_of messages

-- the guard, and the front of the service behind it
abbrev pub guarded_front : {V : Type 0} → (V → FrontView) → Guarded V → GuardedView
guarded_front front_of it = record { guard = it.guard; front = front_of it.service }

-- Bytes come on a connection after these messages. By then it has given a login, or all calls that
-- the front makes of what passes open a session. (The other inputs that make calls are ticks.)
abbrev pub IsNoStrangers : List (List ℕ) → List MessageView → ℕ → List ℕ → GuardedView → FrontView → Type 0
IsNoStrangers logins messages c bytes old new =
    (does : Does (Takes (passed old.guard (Came c bytes))) old.front new)
    → HasGiven logins (since_opened c (steps_of messages ++ Takes (Came c bytes) ∷ []) None)
    ⊎ AllByRecursion IsOpening (calls_of (step_log (Takes (passed old.guard (Came c bytes))) old.front new does))

module _ {V : Type 0} (took : V → InputView → V → Type 0) (kept : V → V → Type 0) (reported : V → ChunkView → V → Type 0) (has_reported : V → Type 0) where
  -- whatever the messages were to a service that began so, with whichever logins
  abbrev pub HearsNoStranger : (V → Type 0) → (V → FrontView) → Type 0
  HearsNoStranger begins front_of =
      (logins : List (List ℕ)) (messages : List MessageView) (outputs : List OutputView) (first : V) (old : Guarded V) (c : ℕ)
      (bytes : List ℕ) (new : FrontView)
      → begins first
      → Serves (TakesGuarded took) (KeepsGuarded kept) (ReportsGuarded reported) (HasReportedGuarded has_reported) messages outputs
      (record { guard = guard_of logins; service = first }) old
      → IsNoStrangers logins messages c bytes (guarded_front front_of old) new

-- so a server in memory, with whichever secret and settings
abbrev pub NoStrangerInMemory : Type 0
NoStrangerInMemory =
    (secret : List ℕ) (asked : HostedSettings)
    → HearsNoStranger TakesInMemory KeepsInMemory ReportsInMemory HasReportedInMemory (λ first. first ≡ new_front secret asked) (λ s. s.front)

-- and one with a folder
abbrev pub NoStrangerInFolder : Type 0 → Type 0
NoStrangerInFolder R =
    (secret : List ℕ) (asked : HostedSettings) (kept : FolderSettings)
    → HearsNoStranger {V = InFolder (FileDevice R)} (TakesIn seen_of MayLeaveOf) (KeepsIn seen_of MayLeaveOf) ReportsIn HasReportedIn
    (BeginsInFolder secret asked kept) (λ s. front_in s.kept)
