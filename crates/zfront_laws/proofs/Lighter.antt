-- No change of the tables makes the streams hold more, except that what comes is stored.
use Rattle.std.proofs.Common.{ℕ, ◌+◌, ◌≤◌, true, false, None, Some, arith}
use Rattle.std.specs.Prelude.{if◌then◌else◌}
use Rattle.std.specs.Option.{option_map_or}
use Rattle.zconnections.specs.declared.buffers.phase.Phase.{Phase}
use Rattle.zconnections.specs.declared.buffers.phase.Phase.TheVariants.{Closing}
use Rattle.zconnections.specs.buffers.Streams.{StreamRows, empty_in, held_of}
use Rattle.zconnections.specs.buffers.Streams as stream
use Rattle.zconnections.specs.Tables.{TablesView, is_open, closed, closing, connection_of, moved}
use Rattle.zconnections.specs.Sweeping.{swept}
use Rattle.zfront_laws.proofs.Held.{held-changed}
use Rattle.zfront_laws.proofs.Cached.{Cached, unchanged, kept_both, closes_kept, noted_kept, rests_kept, sweeps_kept, touched_kept}
use Rattle.zfront_laws.proofs.Changes.{Carries}

-- the streams hold no more, and the seats are preserved
abbrev pub Lighter : TablesView → TablesView → Type 0
Lighter old new = (held_of new.streams ≤ held_of old.streams) × Cached old new

-- the streams are the same
pub as_many : (n : ℕ) → n ≤ n
as_many n = omega arith

pub unmoved : (t : TablesView) → Lighter t t
unmoved t = (as_many (held_of t.streams), unchanged t)

pub lighter : (old middle new : TablesView) → Lighter old middle → Lighter middle new → Lighter old new
lighter old middle new one two = (omega (arith, one.0, two.0), kept_both old middle new one.1 two.1)

pub none_more : (n m : ℕ) → n ≤ m + 0 → n ≤ m
none_more n m few = omega (arith, few)

-- the phase of a stream
pub phase_lighter : (rows : StreamRows) (c : ℕ) (phase : Phase) → held_of (stream.with_phase rows c phase) ≤ held_of rows
phase_lighter rows c phase = none_more _ _ (held-changed rows c (λ s. record s { phase = phase }) 0 (λ s. omega arith))

closed_lighter : (rows : StreamRows) (c : ℕ) → held_of (stream.closed rows c) ≤ held_of rows
closed_lighter rows c = none_more _ _ (held-changed rows c (λ s. empty_in Closing) 0 (λ s. omega arith))

closes_few : (c : ℕ) (t : TablesView) → held_of (closed c t).streams ≤ held_of t.streams
closes_few c t = elim (is_open t c) as (λ b. held_of (if b then closing c t else t).streams ≤ held_of t.streams) [
  | true ↦ closed_lighter t.streams c
  | false ↦ as_many (held_of t.streams)
]

pub closes : (c : ℕ) (t : TablesView) → Lighter t (closed c t)
closes c t = (closes_few c t, closes_kept c t)

-- the connection of a session is closed, and one that ended is gone
pub moves : (session : ℕ) (t : TablesView) → Lighter t (moved session t)
moves session t = elim (connection_of t.attachments session) as (λ o. Lighter t (option_map_or (λ c. closed c t) o t)) [
  | None ↦ unmoved t
  | Some c ↦ closes c t
]

sweeps : (session : ℕ) (t : TablesView) → Lighter t (swept session t)
sweeps session t = ((moves session t).0, sweeps_kept session t)

-- so each single change, and all that is made of them
pub carries_lighter : Carries Lighter
carries_lighter = record {
  none = unmoved;
  both = lighter;
  closes = closes;
  chunk = λ p t. unmoved t;
  watches = λ w t. unmoved t;
  notes = λ update reported t. (as_many (held_of t.streams), noted_kept update reported t);
  touches = λ session t. (as_many (held_of t.streams), touched_kept session t);
  rests = λ t. (as_many (held_of t.streams), rests_kept t);
  sweeps = sweeps;
}
