-- What a server behind a guard does with messages, as steps of a front behind a guard.
use Rattle.std.proofs.Common.{◌≡◌, ◌⊎◌, inl, inr, ℕ, List, [], ◌∷◌, ◌++◌, append_assoc, Bool, true, false, Option, None, Some, if◌then◌else◌, refl, ap, subst, sym, ◌∙◌}
use Rattle.std.specs.Option.{option_map_or}
use Rattle.ztree.specs.Tree.{opening_within, Tree}
use Rattle.zstore.specs.Restored.{with_limits}
use Rattle.zresponses.specs.declared.clock.Clock.{Clock}
use Rattle.zwatches.specs.declared.limits.WatchLimits.{WatchLimits}
use Rattle.zconnections.specs.buffers.Inputs.{InputView}
use Rattle.zconnections.specs.buffers.Inputs.InputView.{Came}
use Rattle.zconnections.specs.buffers.Outbox.{ChunkView, first_of}
use Rattle.zjournal.specs.declared.file.device.FileDevice.{FileDevice}
use Rattle.zjournal.specs.file.File.{had_failed_of, seen_of, MayLeaveOf}
use Rattle.zfront.specs.Front.{FrontView}
use Rattle.zfront.specs.Inputs as inputs
use Rattle.zfront.specs.Inputs.{ServerView, without_first}
use Rattle.zfront.specs.Restoring.{all_taken, beginning}
use Rattle.zfront_laws.specs.Given.{since_opened, since_step}
use Rattle.zfront_laws.specs.Runs.{Step, Takes, Sent, Took}
use Rattle.zguard.specs.Guarding.{GuardView, guard_of}
use Rattle.zguard_laws.specs.Inputs.{after_chunk}
use Rattle.zguard_laws.specs.Laws.{HasGiven, NoStrangerMakesACall}
use Rattle.zguard_laws.specs.Runs.{GuardedView, GuardedRuns, guarded_beginning}
use Rattle.zdurable.specs.declared.kept.DurableFront.{DurableFront}
use Rattle.zdurable.specs.DurableFront.{chunk_in, disk_of, front_in, reports, with_front, without_chunk}
use Rattle.zdurable.specs.Restored.{clock_at}
use Rattle.zdaemon.specs.Bases.{base_at}
use Rattle.zdaemon.specs.Folder.{HasReportedIn, IsMended, KeepsIn, ReportsIn, TakesIn}
use Rattle.zdaemon.specs.Guarded.{HasReportedGuarded, KeepsGuarded, ReportsGuarded, TakesGuarded}
use Rattle.zdaemon.specs.Memory.{HasReportedInMemory, KeepsInMemory, ReportsInMemory, TakesInMemory}
use Rattle.zdaemon.specs.Running.{BeginsInFolder}
use Rattle.zdaemon.specs.Strangers.{IsNoStrangers, NoStrangerInFolder, NoStrangerInMemory, guarded_front, steps_of}
use Rattle.zdaemon.specs.declared.folder.InFolder.{InFolder}
use Rattle.zdaemon.specs.declared.guarded.Guarded.{Guarded}
use Rattle.zdaemon.specs.declared.words.FolderSettings.{FolderSettings}
use Rattle.zdaemon.specs.declared.words.HostedSettings.{HostedSettings}
use Rattle.zdaemon.specs.pipe.Messages.{Input, Keep, MessageView}
use Rattle.zdaemon.specs.pipe.Outputs.{OutputView}
use Rattle.zdaemon.specs.pipe.Serving.{Reports, Serves}

-- steps after steps
runs_both : (a b : List Step) (old middle new : GuardedView) → GuardedRuns a old middle → GuardedRuns b middle new → GuardedRuns (a ++ b) old new
runs_both [] b old middle new is next = subst (λ (v : GuardedView). GuardedRuns b v new) is next
runs_both (step ∷ a) b old middle new ran next = (ran.0, ran.1, runs_both a b ran.0 middle new ran.2 next)

-- a guard, and a front behind it
abbrev seen_as : GuardView → FrontView → GuardedView
seen_as g v = record { guard = g; front = v }

same_view : (g h : GuardView) (v w : FrontView) → g ≡ h → v ≡ w → seen_as g v ≡ seen_as h w
same_view g h v w guard front = rw (guard, front) refl

-- the same inputs came on every connection
abbrev SameInputs : List Step → List Step → Type 0
SameInputs a b = (c : ℕ) (more : List Step) → (since : Option (List ℕ)) → since_opened c (a ++ more) since ≡ since_opened c (b ++ more) since

-- steps that a service makes of its own, without an input
record Idle (old new : GuardedView) : Type 0 where
  steps : List Step
  none : SameInputs steps []
  runs : GuardedRuns steps old new

-- steps that it makes of messages
record Ran (messages : List MessageView) (old new : GuardedView) : Type 0 where
  steps : List Step
  same : SameInputs steps (steps_of messages)
  runs : GuardedRuns steps old new

no_steps : (old new : GuardedView) → new ≡ old → Idle old new
no_steps old new is = record { steps = []; none = λ c more since. refl; runs = is }

-- others after them
idle_then : (messages : List MessageView) (old middle new : GuardedView) → Idle old middle → Ran messages middle new → Ran messages old new
idle_then messages old middle new idle ran = record {
  steps = idle.steps ++ ran.steps;
  same = λ c more since.
      ap (λ steps. since_opened c steps since) (append_assoc idle.steps ran.steps more)
      ∙ idle.none c (ran.steps ++ more) since ∙ ran.same c more since;
  runs = runs_both idle.steps ran.steps old middle new idle.runs ran.runs;
}

module _ {V : Type 0} (took : V → InputView → V → Type 0) (kept : V → V → Type 0) (reported : V → ChunkView → V → Type 0) (has_reported : V → Type 0) (front_of : V → FrontView)
    (takes : (old : V) (input : InputView) (new : V) → took old input new → inputs.Does input (front_of old) (front_of new))
    (keeps : (old new : V) → kept old new → (front_of new ≡ front_of old) ⊎ (front_of new ≡ all_taken (front_of old)))
    (sends : (old : V) (chunk : ChunkView) (new : V) → reported old chunk new
    → (first_of (front_of old).tables.unsent ≡ Some chunk) × (front_of new ≡ without_first (front_of old))) where
  kept_steps : (old new : Guarded V) → KeepsGuarded kept old new → Idle (guarded_front front_of old) (guarded_front front_of new)
  kept_steps old new has = by (keeps old.service new.service has.0)
    where
      by : (front_of new.service ≡ front_of old.service) ⊎ (front_of new.service ≡ all_taken (front_of old.service))
          → Idle (guarded_front front_of old) (guarded_front front_of new)
      by (inl same) = no_steps _ _ (same_view new.guard old.guard (front_of new.service) (front_of old.service) has.1 same)
      by (inr taken) = record {
        steps = Took ∷ [];
        none = λ c more since. refl;
        runs = (guarded_front front_of new, (taken, has.1), refl);
      }

  sent_steps : (chunks : List ChunkView) (old new : Guarded V) → Reports (ReportsGuarded reported) chunks old new
      → Idle (guarded_front front_of old) (guarded_front front_of new)
  sent_steps [] old new is = no_steps _ _ (ap (λ it. guarded_front front_of it) is)
  sent_steps (chunk ∷ chunks) old new has =
      let middle = has.0 in
      let own = has.1.0 in
      let first = sends old.service own middle.service has.1.1 in
      let guard = has.1.3 ∙ sym (ap (λ o. option_map_or (λ it. after_chunk old.guard it) o old.guard) first.0) in
      let later = sent_steps chunks middle new has.2 in record {
        steps = Sent ∷ later.steps;
        none = later.none;
        runs = (guarded_front front_of middle, (first.1, guard), later.runs);
      }

  ran : (messages : List MessageView) (outputs : List OutputView) (old new : Guarded V)
      → Serves (TakesGuarded took) (KeepsGuarded kept) (ReportsGuarded reported) (HasReportedGuarded has_reported) messages outputs old new
      → Ran messages (guarded_front front_of old) (guarded_front front_of new)
  ran [] outputs old new has = record {
    steps = [];
    same = λ c more since. refl;
    runs = ap (λ it. guarded_front front_of it) has.0;
  }
  ran (Input input ∷ messages) outputs old new has =
      let middle = has.1 in
      let later = ran messages has.2 middle new has.4 in record {
        steps = Takes input ∷ later.steps;
        same = λ c more since. later.same c more (since_step c (Takes input) since);
        runs = (guarded_front front_of middle, (takes _ _ _ has.3.0.0, has.3.0.1), later.runs);
      }
  ran (Keep ∷ messages) outputs old new has =
      let middle = has.1 in
      let answers = has.3.1 in
      let later = ran messages has.2 middle new has.4 in
      let all = idle_then messages _ (guarded_front front_of answers.0) _ (kept_steps old answers.0 answers.1)
      (idle_then messages _ (guarded_front front_of middle) _ (sent_steps has.3.0 answers.0 middle answers.2) later) in
      record { steps = all.steps; same = all.same; runs = all.runs }

-- what was done before the messages has no input, so the law of fronts behind a guard says it
given_so : {A B C : Type 0} → (A → C) → A ⊎ B → C ⊎ B
given_so f (inl a) = inl (f a)
given_so f (inr b) = inr b

no_stranger : NoStrangerMakesACall → (logins : List (List ℕ)) (limits : WatchLimits) (t : Tree) (secret : List ℕ) (times : Clock) (is_kept : Bool)
    (messages : List MessageView) (first old : GuardedView) (c : ℕ) (bytes : List ℕ) (new : FrontView)
    → Idle (guarded_beginning logins limits t secret times is_kept) first → Ran messages first old
    → IsNoStrangers logins messages c bytes old new
no_stranger law logins limits t secret times is_kept messages first old c bytes new idle ran does =
    let all = idle_then messages (guarded_beginning logins limits t secret times is_kept) first old idle ran in
    given_so (subst (λ (since : Option (List ℕ)). HasGiven logins since) (all.same c (Takes (Came c bytes) ∷ []) None))
    (law logins limits t secret times is_kept all.steps c bytes old new all.runs does)

-- ---- in memory

pub no_stranger_in_memory : NoStrangerMakesACall → NoStrangerInMemory
no_stranger_in_memory law secret asked logins messages outputs first old c bytes new begins served =
    no_stranger law logins asked.limits (opening_within asked.tree) secret (record { terms = asked.terms; started = asked.now; base = base_at asked.now }) false
    messages _ _ c bytes new
    (no_steps _ _ (ap (λ (s : ServerView). seen_as (guard_of logins) s.front) begins))
    (ran TakesInMemory KeepsInMemory ReportsInMemory HasReportedInMemory (λ s. s.front) (λ before input after does. does)
    (λ before after is. inl (ap (λ (s : ServerView). s.front) is)) (λ before chunk after has. has)
    messages outputs _ old served)

-- ---- with a folder

-- a chunk is taken only where it may be sent
chunk_is : {D : Type 0} (old new : DurableFront D) (chunk : ChunkView) → chunk_in old ≡ Some chunk → new ≡ without_chunk old
    → (first_of (front_in old).tables.unsent ≡ Some chunk) × (front_in new ≡ without_first (front_in old))
chunk_is {D} old new chunk = by (reports old)
  where
    by : (may : Bool) → (if may then first_of (front_in old).tables.unsent else None) ≡ Some chunk
        → new ≡ (if may then with_front (without_first (front_in old)) old else old)
        → (first_of (front_in old).tables.unsent ≡ Some chunk) × (front_in new ≡ without_first (front_in old))
    by true found is = (found, ap (λ (kept : DurableFront D). front_in kept) is)
    by false found is = cc found

module _ {R : Type 0} (secret : List ℕ) (asked : HostedSettings) (kept : FolderSettings) (first : InFolder (FileDevice R)) (begins : BeginsInFolder secret asked kept first) where
  abbrev opened : FrontView
  opened =
      beginning asked.limits (with_limits begins.begins.opened.found asked.tree) secret
      (clock_at asked.terms asked.now begins.begins.opened.found.time) true

  opened_is : front_in begins.first ≡ opened
  opened_is = ap (λ (s : ServerView). s.front) begins.begins.front

  -- its journal may have been written anew before
  opening_steps : (logins : List (List ℕ)) → Idle (seen_as (guard_of logins) opened) (seen_as (guard_of logins) (front_in first.kept))
  opening_steps logins = by (had_failed_of (disk_of begins.first)) begins.mended
    where
      by : (had_failed : Bool) → IsMended seen_of MayLeaveOf had_failed begins.first first.kept
          → Idle (seen_as (guard_of logins) opened) (seen_as (guard_of logins) (front_in first.kept))
      by true anew = record {
        steps = Took ∷ [];
        none = λ c more since. refl;
        runs = (seen_as (guard_of logins) (front_in first.kept), (anew.taken ∙ ap all_taken opened_is, refl), refl);
      }
      by false same =
          no_steps _ _ (ap (λ (v : FrontView). seen_as (guard_of logins) v)
          (ap (λ (it : DurableFront (FileDevice R)). front_in it) same ∙ opened_is))

pub no_stranger_in_folder : (R : Type 0) → NoStrangerMakesACall → NoStrangerInFolder R
no_stranger_in_folder R law secret asked kept logins messages outputs first old c bytes new begins served =
    no_stranger law logins asked.limits (with_limits begins.begins.opened.found asked.tree) secret
    (clock_at asked.terms asked.now begins.begins.opened.found.time) true
    messages _ _ c bytes new
    (opening_steps secret asked kept first begins logins)
    (ran (TakesIn seen_of MayLeaveOf) (KeepsIn seen_of MayLeaveOf) ReportsIn HasReportedIn (λ s. front_in s.kept)
    (λ before input after does. does.1.does) (λ before after has. inr has.1.taken)
    (λ before chunk after has. chunk_is before.kept after.kept chunk has.1.0 has.1.1)
    messages outputs _ old served)
