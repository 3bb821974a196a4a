-- What a disk promises of its calls, and what a crash may leave of a file. A crash is the moment at
-- which the power goes, the machine stops or the process is killed. Until the next sync nothing is
-- certain about a write: in its range a crash leaves any bytes, and of the length any between.
-- Synced bytes remain until a later call writes over them. POSIX.1-2017 promises as much of
-- `fsync`, and SQLite assumes as much of a disk. A new file replaces an old one by its name.
-- POSIX.1-2017, `rename`, says that the name refers to one of the two at each moment. That a crash
-- leaves one of the two as well, and that a sync of the folder decides it, is assumed: POSIX
-- doesn't promise it.
use Rattle.std.specs.Prelude.{◌<◌, ◌≡◌, ◌⊎◌, ℕ, ◌+◌, ◌≤◌, max, List, ◌++◌, length, take, drop, Result, IsErrOf}
use Rattle.zjournal.specs.declared.device.DeviceError.{DeviceError}
use Rattle.zjournal.specs.declared.device.DeviceError.TheVariants.{Failed}

-- a write that was done: the file has these bytes at this offset, and is otherwise unchanged
abbrev pub Holds : List ℕ → ℕ → List ℕ → List ℕ → Type 0
Holds old at bytes new = new ≡ take at old ++ bytes ++ drop (at + length bytes) old

-- a write of n bytes that a crash tears: any bytes in its range and past the old end, and the same
-- as before elsewhere
pub record Torn (at n : ℕ) (old new : List ℕ) : Type 0 where
  pub before : (k : ℕ) → k ≤ at → k ≤ length old → take k new ≡ take k old
  pub behind : drop (at + n) new ≡ drop (at + n) old
  pub no_shorter : length old ≤ length new
  pub no_longer : length new ≤ max (length old) (at + n)

-- a cut to n bytes that a crash stops: some length between, and a prefix of what was there
pub record Cut (n : ℕ) (old new : List ℕ) : Type 0 where
  pub no_shorter : n ≤ length old → n ≤ length new
  pub front : take (length new) old ≡ new

-- each outcome of a crash now is an outcome of a crash before, and one step on it
abbrev pub Follows : (List ℕ → List ℕ → Type 0) → (List ℕ → Type 0) → (List ℕ → Type 0) → Type 0
Follows step old new = (c : List ℕ) → new c → (d : List ℕ) × old d × step d c

-- A new file replaces an old one. A crash leaves what it might have left of the old one, or the new
-- one, whole.
abbrev pub IsEither : (List ℕ → Type 0) → List ℕ → List ℕ → Type 0
IsEither may_leave next c = may_leave c ⊎ (c ≡ next)

-- a crash leaves this file and no other
abbrev pub Only : List ℕ → (List ℕ → Type 0) → Type 0
Only file may_leave = (c : List ℕ) → may_leave c → c ≡ file

-- time continues: a crash since a moment t might have left what it might have left before, or what
-- it may leave now
pub record Elapses (before now : ℕ) (past since : ℕ → List ℕ → Type 0) (may_leave : List ℕ → Type 0) : Type 0 where
  pub later : before ≤ now
  pub nothing_else : (t : ℕ) (c : List ℕ) → t ≤ before → since t c → past t c ⊎ may_leave c
  pub keeps : (t : ℕ) (c : List ℕ) → t ≤ before → past t c → since t c

-- a crash at any moment from old to new leaves a file with this property
pub record LeavesOnly {D : Type 0} (moment : D → ℕ) (left_since : D → ℕ → List ℕ → Type 0) (old new : D) (P : List ℕ → Type 0) : Type 0 where
  pub later : moment old ≤ moment new
  pub each : (c : List ℕ) → left_since new (moment old) c → P c
  -- for a run that began earlier
  pub before : (t : ℕ) (c : List ℕ) → t ≤ moment old → left_since new t c → left_since old t c ⊎ P c

-- an error has a cause: Failed is returned only where the disk has failed meanwhile
pub record HasCause {T : Type 0} (before now : ℕ) (result : Result T DeviceError) : Type 0 where
  pub later : before ≤ now
  pub failed : IsErrOf result Failed → before < now
