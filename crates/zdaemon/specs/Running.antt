-- What a run of the program did that ended with status 0, by its words: this project's profile.
--
-- The file system is no value here. So a clause on a folder says that there is a device whose file
-- had some content, and what was done with it. That this file is the folder's is believed of
-- `FileDevice::open`.
use Rattle.std.specs.Prelude.{◌≡◌, ◌⊎◌, ℕ, false, List, [], ◌∷◌, ◌++◌, length, Option, None, Some}
use Rattle.ztree.specs.Tree.{opening_within}
use Rattle.zstore.specs.Restored.{with_limits}
use Rattle.zdevices.specs.Device.{SourceRun, SinkRun}
use Rattle.zjournal.specs.declared.file.device.FileDevice.{FileDevice}
use Rattle.zjournal.specs.declared.file.mode.SyncMode.{SyncMode}
use Rattle.zjournal.specs.declared.file.mode.SyncMode.TheVariants.{Batch}
use Rattle.zjournal.specs.file.Events.{held}
use Rattle.zjournal.specs.file.File.{events_of, had_failed_of, mode_of, seen_of, MayLeaveOf}
use Rattle.zfront.specs.Inputs.{ServerView}
use Rattle.zfront.specs.Restoring.{beginning}
use Rattle.zdurable.specs.declared.kept.DurableFront.{DurableFront}
use Rattle.zdurable.specs.DurableFront.{disk_of}
use Rattle.zdurable.specs.Opening.{IsOpenedWithin}
use Rattle.zdurable.specs.Restored.{restored}
use Rattle.zdaemon.specs.Asked.{IsAsked}
use Rattle.zdaemon.specs.Bases.{base_at}
use Rattle.zdaemon.specs.Tasks.{IsTask}
use Rattle.zdaemon.specs.AtRest.{IsBeginningReported, IsCompactionReported, IsExported, IsStatReported}
use Rattle.zdaemon.specs.Folder.{IsMended, TakesIn, KeepsIn, ReportsIn, HasReportedIn}
use Rattle.zdaemon.specs.Guarded.{AreLogins, IsShort, ServesBehind, logins_told}
use Rattle.zdaemon.specs.Memory.{TakesInMemory, KeepsInMemory, ReportsInMemory, HasReportedInMemory}
use Rattle.zdaemon.specs.declared.folder.InFolder.{InFolder}
use Rattle.zdaemon.specs.declared.tasks.Task.{Task}
use Rattle.zdaemon.specs.declared.tasks.Task.TheVariants.{Compact, Beginning, Export, Stat}
use Rattle.zdaemon.specs.declared.words.FolderSettings.{FolderSettings}
use Rattle.zdaemon.specs.declared.words.HostedSettings.{HostedSettings}

-- the source gave the secret, 32 bytes, what there is of logins, and these bytes after it
abbrev pub GaveAfter : List ℕ → Option (List ℕ) → SourceRun → List ℕ → Type 0
GaveAfter secret text source bytes = (length secret ≡ 32) × IsShort text × source.gave (secret ++ (logins_told text ++ bytes))

-- ---- in memory

-- a new front end: an empty tree, at this time, with the base of zxids of this start, and with the
-- terms and limits that are asked for
abbrev pub new_front : List ℕ → HostedSettings → ServerView
new_front secret asked = record {
  front =
      beginning asked.limits (opening_within asked.tree) secret
      (record { terms = asked.terms; started = asked.now; base = base_at asked.now }) false;
  is_broken = false;
}

-- the source gave a secret, logins or none, and then messages, up to its end; the sink took what a
-- new front end answers, behind a guard with the logins
abbrev pub ServedInMemory : HostedSettings → SourceRun → SinkRun → Type 0
ServedInMemory asked source sink =
    (secret : List ℕ) × (text : Option (List ℕ)) × (logins : Option (List (List ℕ))) × AreLogins text logins
    × ServesBehind TakesInMemory KeepsInMemory ReportsInMemory HasReportedInMemory logins (GaveAfter secret text source) sink.took (new_front secret asked)
    × source.ended

module _ {R : Type 0} where
  -- ---- with a folder

  -- a device with this mode opened a file, and nothing was asked of it yet
  abbrev pub IsOpened : SyncMode → FileDevice R → Type 0
  IsOpened mode device = (mode_of device ≡ mode) × (events_of device ≡ held (seen_of device) ∷ [])

  -- a server begins with the tree of this device's file, at this time, with the terms and limits
  -- that are asked for
  pub record BeginsWith (device : FileDevice R) (secret : List ℕ) (asked : HostedSettings) (kept : FolderSettings) (first : DurableFront (FileDevice R)) : Type 0 where
    pub opened : IsOpenedWithin seen_of MayLeaveOf kept.last (seen_of device) asked.tree first
    pub front : first.front ≡ restored asked.limits secret asked.terms asked.now (with_limits opened.found asked.tree)

  -- and that device has the mode that is asked for; where a sync had failed before, its journal is
  -- then written anew
  pub record BeginsInFolder (secret : List ℕ) (asked : HostedSettings) (kept : FolderSettings) (service : InFolder (FileDevice R)) : Type 0 where
    pub device : FileDevice R
    pub opened : IsOpened kept.mode device
    pub first : DurableFront (FileDevice R)
    pub begins : BeginsWith device secret asked kept first
    pub mended : IsMended seen_of MayLeaveOf (had_failed_of (disk_of first)) first service.kept
    pub long : service.long ≡ kept.long

-- R is the runtime through which files are opened
module _ (R : Type 0) where
  -- the same as in memory, by a front end that begins with a file's content
  abbrev pub ServedFolder : HostedSettings → FolderSettings → SourceRun → SinkRun → Type 0
  ServedFolder asked kept source sink =
      (secret : List ℕ) × (text : Option (List ℕ)) × (logins : Option (List (List ℕ))) × AreLogins text logins
      × (first : InFolder (FileDevice R)) × BeginsInFolder secret asked kept first
      × ServesBehind (TakesIn seen_of MayLeaveOf) (KeepsIn seen_of MayLeaveOf) ReportsIn HasReportedIn logins (GaveAfter secret text source) sink.took first
      × source.ended

  -- by whether a folder is asked for
  abbrev pub Served : HostedSettings → Option FolderSettings → SourceRun → SinkRun → Type 0
  Served asked None source sink = ServedInMemory asked source sink
  Served asked (Some kept) source sink = ServedFolder asked kept source sink

  -- ---- a task on a folder that no server has open

  -- a journal has one part, or all but the last one are compacted: nothing is printed
  abbrev pub HasNoBeginning : SinkRun → Type 0
  HasNoBeginning sink = sink.took []

  -- the journal was replaced; or the tree or the counts of its file were written, and the file is
  -- unchanged
  abbrev pub HasDone : Task → ℕ → SinkRun → Type 0
  HasDone Compact servers sink =
      (device : FileDevice R) × IsOpened Batch device
      × IsCompactionReported {D = FileDevice R} seen_of MayLeaveOf servers (seen_of device) sink
  HasDone Beginning servers sink = HasNoBeginning sink
      ⊎ ((device : FileDevice R) × IsOpened Batch device
      × IsBeginningReported {D = FileDevice R} seen_of MayLeaveOf servers (seen_of device) sink)
  HasDone Export servers sink =
      (old new : FileDevice R) × IsOpened Batch old × IsExported servers (seen_of old) sink × (seen_of new ≡ seen_of old)
  HasDone Stat servers sink =
      (old new : FileDevice R) × IsOpened Batch old × IsStatReported servers (seen_of old) sink × (seen_of new ≡ seen_of old)

  -- ---- the program

  -- the words ask for a task, which is done; or for a server, which served until its host ended
  abbrev pub HasRun : List (List ℕ) → SourceRun → SinkRun → Type 0
  HasRun words source sink =
      ((asked : Task × ℕ) × IsTask words asked × HasDone asked.0 asked.1 sink)
      ⊎ ((asked : HostedSettings) × IsAsked words asked × Served asked asked.folder source sink)
