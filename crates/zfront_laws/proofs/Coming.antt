-- A step at the bytes that come on a connection. Few of them are stored.
use Rattle.std.proofs.Common.{◌≡◌, ℕ, ◌+◌, ◌≤◌, Bool, true, false, List, [], ◌∷◌, ◌++◌, length, Option, None, Some, refl, sym, subst, arith}
use Rattle.std.specs.Prelude.{nat_lt, ◌||◌, if◌then◌else◌}
use Rattle.std.proofs.lemmas.Bool.{ltb-false}
use Rattle.zjute.specs.Frames.{next_of}
use Rattle.zconnections.specs.declared.buffers.phase.Phase.{Phase}
use Rattle.zconnections.specs.declared.buffers.phase.Phase.TheVariants.{Silent, Speaking, Closing}
use Rattle.zconnections.specs.buffers.Streams.{bytes_of, held_of, phase_of, with_bytes}
use Rattle.zconnections.specs.Tables.{TablesView, closed, is_open}
use Rattle.zfront.specs.declared.limits.TheConstants.{MAX_KEPT}
use Rattle.zfront.specs.Front.{FrontView, with_tables}
use Rattle.zfront.specs.Reading.{HandlesIn, Handles, HandlesAll, is_too_long, kept, keeps, Keeps}
use Rattle.zfront.specs.Reading.{word_asked, ComesBy, ComesIf, Comes, emptied}
use Rattle.zfront.specs.Words.{said, text_of_word}
use Rattle.zfront_laws.specs.Logs.{done_by, frame_calls, frame_log, frames_log, bytes_log, came_log}
use Rattle.zfront_laws.specs.Runs.{KeepsFew}
use Rattle.zfront_laws.proofs.Changes.{says}
use Rattle.zfront_laws.proofs.Held.{held-changed}
use Rattle.zfront_laws.proofs.Cached.{Cached, closes_kept, bytes_kept}
use Rattle.zfront_laws.proofs.Lighter.{Lighter, carries_lighter, closes, none_more}
use Rattle.zfront_laws.proofs.Steps.{Goes, both, retabled, same, seats_kept, tables_change, then_none}
use Rattle.zfront_laws.proofs.Serving.{serves, greets}

-- ---- frames

handles_in : (phase : Option Phase) (bytes : List ℕ) (c : ℕ) (old new : FrontView) → HandlesIn phase bytes c old new
    → Goes [] (done_by (frame_calls phase bytes old) old) old new
handles_in (Some Silent) bytes c old new is = subst (Goes [] (done_by (frame_calls (Some Silent) bytes old) old) old) (sym is) (greets bytes c old)
handles_in (Some (Speaking session)) bytes c old new has = serves bytes session c old new has
handles_in (Some Closing) bytes c old new is = same old new is
handles_in None bytes c old new is = same old new is

pub handles : (bytes : List ℕ) (c : ℕ) (old new : FrontView) → Handles bytes c old new → Goes [] (frame_log bytes c old) old new
handles bytes c old new has = handles_in (phase_of old.tables.streams c) bytes c old new has

pub handles_all : (frames : List (List ℕ)) (c : ℕ) (old new : FrontView) → (has : HandlesAll frames c old new)
    → Goes [] (frames_log frames c old new has) old new
handles_all [] c old new is = same old new is
handles_all (bytes ∷ frames) c old new has = both (handles bytes c old has.1 has.2) (handles_all frames c has.1 new has.3)

-- ---- what is stored

with_rest : (rest : List ℕ) (c : ℕ) (t : TablesView) → nat_lt MAX_KEPT (held_of t.streams + length rest) ≡ false
    → held_of (with_bytes t.streams c rest) ≤ MAX_KEPT
with_rest rest c t fits =
    omega (
      arith,
      held-changed t.streams c (λ s. record s { bytes = rest }) (length rest) (λ s. omega arith),
      ltb-false MAX_KEPT (held_of t.streams + length rest) fits,
    )

keeps_by : (long over : Bool) (rest : List ℕ) (c : ℕ) (t : TablesView) → nat_lt MAX_KEPT (held_of t.streams + length rest) ≡ over
    → held_of t.streams ≤ MAX_KEPT → held_of (if long || over then closed c t else record t { streams = with_bytes t.streams c rest }).streams
    ≤ MAX_KEPT
keeps_by true over rest c t is few = omega (arith, (closes c t).0, few)
keeps_by false true rest c t is few = omega (arith, (closes c t).0, few)
keeps_by false false rest c t is few = with_rest rest c t is

rest_kept : (over : Bool) (rest : List ℕ) (c : ℕ) (t : TablesView)
    → Cached t (if over then closed c t else record t { streams = with_bytes t.streams c rest })
rest_kept true rest c t = closes_kept c t
rest_kept false rest c t = bytes_kept c rest t

-- the rest of what came is stored, unless it is too much
pub keeps_rest : (rest : List ℕ) (c : ℕ) (v : FrontView) → Goes [] [] v (keeps rest c v)
keeps_rest rest c v = elim (is_open v.tables c) as (λ b. Goes [] [] v (if b then with_tables (kept rest c v.tables) v else v)) [
  | true ↦ tables_change (kept rest c v.tables) v
      (keeps_by (is_too_long (next_of rest)) (nat_lt MAX_KEPT (held_of v.tables.streams + length rest)) rest c v.tables refl)
      (seats_kept (kept rest c v.tables) v
      (rest_kept (is_too_long (next_of rest) || nat_lt MAX_KEPT (held_of v.tables.streams + length rest)) rest c v.tables))
  | false ↦ same v v refl
]

-- where few bytes were stored before
pub keeps_now : (rest : List ℕ) (c : ℕ) (old new : FrontView) → KeepsFew old → Keeps rest c old new → new ≡ keeps rest c old
keeps_now rest c old new few keep =
    let little : held_of old.tables.streams ≤ MAX_KEPT = few in
    keep (omega (arith, little))

-- ---- bytes

pub empties : (c : ℕ) (v : FrontView) → Goes [] [] v (emptied c v)
empties c v =
    retabled (emptied c v).tables v (emptied c v) refl
    (none_more _ _ (held-changed v.tables.streams c (λ s. record s { bytes = [] }) 0 (λ s. omega arith)), bytes_kept c [] v.tables)

comes_by : (word : _) (came : List ℕ) (c : ℕ) (old new : FrontView) → KeepsFew old → (has : ComesBy word came c old new)
    → Goes [] (bytes_log word came c old new has) old new
comes_by (Some word) came c old new few is =
    retabled (said word c old).tables old new is (says Lighter carries_lighter c (text_of_word word old) old.tables)
comes_by None came c old new few has =
    let done = handles_all has.2.frames c old has.1 has.2.handles in
    then_none done (subst (Goes [] [] has.1) (sym (keeps_now has.0 c has.1 new (done.few few) has.3)) (keeps_rest has.0 c has.1))

comes_if : (on : Bool) (bytes : List ℕ) (c : ℕ) (old new : FrontView) → KeepsFew old → (has : ComesIf on bytes c old new)
    → Goes [] (came_log on bytes c old new has) old new
comes_if false bytes c old new few is = same old new is
comes_if true bytes c old new few has =
    let came = bytes_of old.tables.streams c ++ bytes in
    let empty = empties c old in
    both empty (comes_by (word_asked (phase_of (emptied c old).tables.streams c) came) came c (emptied c old) new (empty.few few) has)

pub comes : (bytes : List ℕ) (c : ℕ) (old new : FrontView) → KeepsFew old → (has : Comes bytes c old new)
    → Goes [] (came_log (is_open old.tables c) bytes c old new has) old new
comes bytes c old new few has = comes_if (is_open old.tables c) bytes c old new few has
