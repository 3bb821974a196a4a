-- What a service behind a guard does between two of its states, in the words of its host.
use Rattle.std.specs.Prelude.{◌≡◌, ◌≤◌, ℕ, List, [], ◌∷◌, ◌++◌, length, Option, None, Some, Ok}
use Rattle.std.specs.Int.{w32, to_be_bytes}
use Rattle.zconnections.specs.buffers.Inputs.{InputView}
use Rattle.zconnections.specs.buffers.Outbox.{ChunkView}
use Rattle.zguard.specs.Guarding.{guard_of}
use Rattle.zguard_laws.specs.Inputs.{passed, after, with_answer, after_chunk}
use Rattle.zlogins.specs.Reading.{logins_in}
use Rattle.zdaemon.specs.declared.guarded.Guarded.{Guarded}
use Rattle.zdaemon.specs.declared.pipe.limits.TheConstants.{MAX_LOGINS}
use Rattle.zdaemon.specs.pipe.Messages.{Keep}
use Rattle.zdaemon.specs.pipe.Serving.{ServesAll}

-- the service takes what passes of an input
abbrev pub TakesGuarded : {V : Type 0} → (V → InputView → V → Type 0) → Guarded V → InputView → Guarded V → Type 0
TakesGuarded took old input new = took old.service (passed old.guard input) new.service × (new.guard ≡ after old.guard input)

-- it commits
abbrev pub KeepsGuarded : {V : Type 0} → (V → V → Type 0) → Guarded V → Guarded V → Type 0
KeepsGuarded kept old new = kept old.service new.service × (new.guard ≡ old.guard)

-- its next chunk is sent; a close that refuses has the guard's answer before it
abbrev pub ReportsGuarded : {V : Type 0} → (V → ChunkView → V → Type 0) → Guarded V → ChunkView → Guarded V → Type 0
ReportsGuarded reported old chunk new =
    (own : ChunkView) × reported old.service own new.service × (chunk ≡ with_answer old.guard own) × (new.guard ≡ after_chunk old.guard own)

-- it has none
abbrev pub HasReportedGuarded : {V : Type 0} → (V → Type 0) → Guarded V → Type 0
HasReportedGuarded has_reported old = has_reported old.service

-- ---- logins

-- what a host says of logins: that there are none, or their text after its length
abbrev pub sized_text : List ℕ → List ℕ
sized_text text = to_be_bytes w32 (length text) ++ text

abbrev pub logins_told : Option (List ℕ) → List ℕ
logins_told None = 0 ∷ []
logins_told (Some text) = 1 ∷ sized_text text

-- such a text is no longer than it may be. So the bytes have one such reading
abbrev pub IsShort : Option (List ℕ) → Type 0
IsShort None = Unit {0}
IsShort (Some text) = length text ≤ MAX_LOGINS

-- these logins, if there are any
abbrev pub AreLogins : Option (List ℕ) → Option (List (List ℕ)) → Type 0
AreLogins None None = Unit {0}
AreLogins (Some text) (Some logins) = logins_in text ≡ Ok logins
AreLogins text logins = ⊥

module _ {V : Type 0} (took : V → InputView → V → Type 0) (kept : V → V → Type 0) (reported : V → ChunkView → V → Type 0) (has_reported : V → Type 0) where
  -- a service took all messages, behind a guard if there are logins
  abbrev pub ServesBehind : Option (List (List ℕ)) → (List ℕ → Type 0) → (List ℕ → Type 0) → V → Type 0
  ServesBehind None gave takes first = (last : V) × ServesAll took kept reported has_reported (Keep ∷ []) gave takes first last
  ServesBehind (Some logins) gave takes first =
      (last : Guarded V)
      × ServesAll (TakesGuarded took) (KeepsGuarded kept) (ReportsGuarded reported) (HasReportedGuarded has_reported) (Keep ∷ []) gave takes
      (record { guard = guard_of logins; service = first }) last
