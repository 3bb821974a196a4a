-- What was asked of a file, and what a file that does as asked then holds. All that the device says
-- of its file is computed from this record of calls, the newest first. That a real file does as the
-- record says is assumed; no proof shows it.
--
-- A new file takes five calls: begun, added, settled, named, folder synced. So their order is
-- proved: a file that takes the name unsynced may leave anything. So may one to which a write
-- failed, and one that wasn't begun: no sync makes such a file whole.
--
-- A split takes four calls: a part begun, settled, named and kept. It changes nothing, since at each
-- moment the folder has the same content, by the old name or by the new one: the part before keeps
-- a name, and the new part has its last byte. Nothing is written to the new part before its name is
-- durable. But a part that takes the name before it is whole and durable may leave anything, too.
--
-- With the mode `Never` a sync asks nothing of the disk, and is noted as skipped. From the first
-- such event on, a crash means the end of this process alone. If the machine stops or loses power
-- then, anything may be lost, and the record says nothing of it.
use Rattle.std.specs.Prelude.{◌≡◌, ◌⊎◌, ℕ, zero, suc, ◌+◌, ◌==◌, Bool, true, false, not, ◌&&◌, ◌||◌, if◌then◌else◌, List, [], ◌∷◌, ◌++◌, length, take, drop}
use Rattle.std.proofs.Common.{inl, inr}
use Rattle.zjournal.specs.Device.{Torn, Cut}
use Rattle.zjournal.specs.declared.file.mode.SyncMode.{SyncMode}
use Rattle.zjournal.specs.declared.file.mode.SyncMode.TheVariants.{Batch, Never}

-- a call with its result: which call, an offset or a length, whether it was done, and bytes
abbrev pub Event : Type 0
Event = ℕ × ℕ × Bool × List ℕ

-- the file was opened, and a crash leaves what it held
abbrev pub held : List ℕ → Event
held bytes = (0, 0, true, bytes)

-- these bytes were to be written at this offset
abbrev pub written : ℕ → Bool → List ℕ → Event
written at ok bytes = (1, at, ok, bytes)

-- the file was to be cut to this length
abbrev pub shortened : ℕ → Bool → Event
shortened len ok = (2, len, ok, [])

-- whether a sync asks the disk, and how one is noted: 0 if the disk was asked, 1 if skipped
abbrev pub asks : SyncMode → Bool
asks Batch = true
asks Never = false

abbrev pub skip_of : SyncMode → ℕ
skip_of Batch = 0
skip_of Never = 1

-- the file was to be made durable
abbrev pub synced : SyncMode → Bool → Event
synced mode ok = (3, skip_of mode, ok, [])

-- the device was asked for something, and made no call on the file
abbrev pub refused : Event
refused = (4, 0, false, [])

-- a new file was to be begun beside it
abbrev pub begun : Bool → Event
begun ok = (5, 0, ok, [])

-- these bytes were to be written at the end of the new file
abbrev pub added : Bool → List ℕ → Event
added ok bytes = (6, 0, ok, bytes)

-- the new file was to be made durable
abbrev pub settled : SyncMode → Bool → Event
settled mode ok = (7, skip_of mode, ok, [])

-- the new file was to take the name of the old one
abbrev pub named : Bool → Event
named ok = (8, 0, ok, [])

-- the folder, with the name, was to be made durable
abbrev pub folder_synced : SyncMode → Bool → Event
folder_synced mode ok = (9, skip_of mode, ok, [])

-- a new part was to be begun and written, in the place of a new file
abbrev pub part_begun : Bool → Event
part_begun ok = (10, 0, ok, [])

-- the new part was to be made durable, and the name of the part before it
abbrev pub part_settled : SyncMode → Bool → Event
part_settled mode ok = (11, skip_of mode, ok, [])

-- the new part was to take the name of the last one
abbrev pub part_named : Bool → Event
part_named ok = (12, 0, ok, [])

-- the folder, with that name, was to be made durable
abbrev pub part_kept : SyncMode → Bool → Event
part_kept mode ok = (13, skip_of mode, ok, [])

-- the call is a sync that asked nothing of the disk
abbrev pub is_skipped : Event → Bool
is_skipped e = (e.0 == 3 || e.0 == 7 || e.0 == 9 || e.0 == 11 || e.0 == 13) && not (e.1 == 0)

-- such a call is among these
abbrev pub skips : List Event → Bool
skips [] = false
skips (e ∷ earlier) = is_skipped e || skips earlier

-- a change since the last sync: a write of that many bytes at an offset, or a cut to a length. Or a
-- new file with these bytes took the name, synced or not
abbrev pub Change : Type 0
Change = (ℕ × ℕ) ⊎ (ℕ ⊎ (Bool × List ℕ))

-- what is left of a new file that took the name: all of it, or if it wasn't synced first, anything
abbrev pub IsLeftOf : Bool → List ℕ → List ℕ → Type 0
IsLeftOf true bytes c = c ≡ bytes
IsLeftOf false bytes c = Unit {0}

-- what a crash may make of a change
abbrev pub Takes : Change → List ℕ → List ℕ → Type 0
Takes (inl write) old new = Torn write.0 write.1 old new
Takes (inr (inl len)) old new = Cut len old new
Takes (inr (inr next)) old new = (new ≡ old) ⊎ IsLeftOf next.0 next.1 new

-- what a crash may leave: what was durable, through each change since, of which the newest is first
abbrev pub Reaches : List ℕ → List Change → List ℕ → Type 0
Reaches kept [] c = c ≡ kept
Reaches kept (change ∷ earlier) c = (d : List ℕ) × Reaches kept earlier d × Takes change d c

-- nothing has happened since a synced new file took the name
abbrev pub ends_with_name : List Change → Bool
ends_with_name [] = false
ends_with_name (inl write ∷ earlier) = false
ends_with_name (inr (inl len) ∷ earlier) = false
ends_with_name (inr (inr next) ∷ earlier) = next.0

pub record FileModel : Type 0 where
  -- what a read returns
  pub seen : List ℕ
  -- what was durable at the last sync, and the changes since
  pub kept : List ℕ
  pub changes : List Change
  -- the content of the new file, whether one is begun to which no write has failed, and whether all
  -- of it is durable
  pub beside : List ℕ
  pub is_begun : Bool
  pub is_whole : Bool
  -- how far a new part is: 0 if none is begun, 1 if it is written, 2 if it is durable
  pub part : ℕ
  -- whether a new file or part took the name, which may not be durable
  pub is_moved : Bool
  -- whether a call on the file has failed, and how many calls have failed
  pub has_failed : Bool
  pub faults : ℕ

abbrev pub counted : Bool → ℕ → ℕ
counted ok faults = if ok then faults else faults + 1

-- whether this sync of the file makes durable what a read returns, and whether this sync of the
-- folder does
abbrev pub keeps_file : Bool → FileModel → Bool
keeps_file ok m = ok && not m.has_failed && not m.is_moved

abbrev pub keeps_name : Bool → FileModel → Bool
keeps_name ok m = ok && not m.has_failed && ends_with_name m.changes

-- whether this sync of the folder makes durable the name of a part
abbrev pub keeps_part : Bool → FileModel → Bool
keeps_part ok m = ok && not m.has_failed && m.part == 2

-- The file after one more call of a split, by the number of the call. A part that isn't begun or
-- made durable is ended, and the file takes calls as before.
abbrev pub after_split : ℕ → Bool → FileModel → FileModel
after_split zero ok m =
    record m { is_begun = false; is_whole = false; part = if ok then 1 else 0; faults = counted ok m.faults }
after_split (suc zero) ok m = record m { part = if ok && m.part == 1 then 2 else 0; faults = counted ok m.faults }
after_split (suc (suc zero)) ok m =
    record m { changes = if m.part == 2 then m.changes else inr (inr (false, m.seen)) ∷ m.changes; is_moved = true; has_failed = m.has_failed || not ok; faults = counted ok m.faults }
after_split (suc (suc (suc more))) ok m =
    record m { is_moved = m.is_moved && not (keeps_part ok m); has_failed = m.has_failed || not ok; faults = counted ok m.faults }

-- The file after one more call. A failed change isn't seen, and may have been done in part. Once a
-- call on it has failed, a sync makes nothing durable. A new file changes nothing before it takes
-- the name: where it isn't begun or written, it is ended, and the file takes calls as before. While
-- the name isn't durable, no sync of the file makes anything durable.
abbrev pub after_call : ℕ → ℕ → Bool → List ℕ → FileModel → FileModel
after_call zero at ok bytes m =
    record { seen = bytes; kept = bytes; changes = []; beside = []; is_begun = false; is_whole = false; part = 0; is_moved = false; has_failed = false; faults = 0 }
after_call (suc zero) at ok bytes m =
    record m { seen = if ok then take at m.seen ++ bytes ++ drop (at + length bytes) m.seen else m.seen; changes = inl (at, length bytes) ∷ m.changes; has_failed = m.has_failed || not ok; faults = counted ok m.faults }
after_call (suc (suc zero)) len ok bytes m =
    record m { seen = if ok then take len m.seen else m.seen; changes = inr (inl len) ∷ m.changes; has_failed = m.has_failed || not ok; faults = counted ok m.faults }
after_call (suc (suc (suc zero))) at ok bytes m =
    record m { kept = if keeps_file ok m then m.seen else m.kept; changes = if keeps_file ok m then [] else m.changes; has_failed = m.has_failed || not ok; faults = counted ok m.faults }
after_call (suc (suc (suc (suc zero)))) at ok bytes m = record m { faults = m.faults + 1 }
after_call (suc (suc (suc (suc (suc zero))))) at ok bytes m =
    record m { beside = []; is_begun = ok; is_whole = false; part = 0; faults = counted ok m.faults }
after_call (suc (suc (suc (suc (suc (suc zero)))))) at ok bytes m =
    record m { beside = if ok then m.beside ++ bytes else []; is_begun = m.is_begun && ok; is_whole = false; faults = counted ok m.faults }
after_call (suc (suc (suc (suc (suc (suc (suc zero))))))) at ok bytes m =
    record m { is_whole = ok && m.is_begun && not m.has_failed; has_failed = m.has_failed || not ok; faults = counted ok m.faults }
after_call (suc (suc (suc (suc (suc (suc (suc (suc zero)))))))) at ok bytes m =
    record m { seen = if ok then m.beside else m.seen; changes = inr (inr (m.is_whole, m.beside)) ∷ m.changes; is_begun = m.is_begun && not ok; is_moved = true; has_failed = m.has_failed || not ok; faults = counted ok m.faults }
after_call (suc (suc (suc (suc (suc (suc (suc (suc (suc zero))))))))) at ok bytes m =
    record m { kept = if keeps_name ok m then m.seen else m.kept; changes = if keeps_name ok m then [] else m.changes; is_moved = m.is_moved && not (keeps_name ok m); has_failed = m.has_failed || not ok; faults = counted ok m.faults }
after_call (suc (suc (suc (suc (suc (suc (suc (suc (suc (suc call)))))))))) at ok bytes m = after_split call ok m

-- the file after these calls, of which the newest is first
abbrev pub replay : List Event → FileModel
replay [] = record { seen = []; kept = []; changes = []; beside = []; is_begun = false; is_whole = false; part = 0; is_moved = false; has_failed = false; faults = 0 }
replay (e ∷ earlier) = after_call e.0 e.1 e.2 e.3 (replay earlier)

-- what a crash may leave after these calls
abbrev pub MayLeave : List Event → List ℕ → Type 0
MayLeave events c = Reaches (replay events).kept (replay events).changes c
