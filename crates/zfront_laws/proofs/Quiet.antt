-- Tables to which nothing was given: each connection that isn't closing is as it was. Each single
-- change but a greeting, and what is read, leaves them so.
use Rattle.std.proofs.Common.{◌≡◌, ◌≢◌, ◌⊎◌, inl, inr, ◌∙◌, ℕ, true, false, Option, None, Some, refl, sym, ap}
use Rattle.std.specs.Prelude.{if◌then◌else◌}
use Rattle.std.specs.Cmp.{nat_cmp_total}
use Rattle.std.specs.FinMap.{get, insert, nat_cmp-IsAntisymmetric}
use Rattle.std.specs.Option.{option_map, option_map_or}
use Rattle.ztree.proofs.Maps.{same_some, none_some, get-insert-here, get-insert-elsewhere}
use Rattle.zconnections.specs.declared.buffers.phase.Phase.{Phase}
use Rattle.zconnections.specs.declared.buffers.phase.Phase.TheVariants.{Closing}
use Rattle.zconnections.specs.buffers.Streams.{StreamView, StreamRows, changed, empty_in, phase_of}
use Rattle.zconnections.specs.buffers.Streams as stream
use Rattle.zconnections.specs.Tables.{TablesView, is_open, closing, closed, moved, connection_of}
use Rattle.zfront_laws.proofs.Seated.{same_number}
use Rattle.zfront_laws.proofs.Changes.{Carries}

-- ---- rows of streams

pub row_elsewhere : (to : StreamView → StreamView) (rows : StreamRows) (c d : ℕ) → d ≢ c → get (changed to rows c) d ≡ get rows d
row_elsewhere to rows c d other = each (get rows c)
  where
    each : (o : Option StreamView) → get (option_map_or (λ s. insert rows c (to s)) o rows) d ≡ get rows d
    each None = refl
    each (Some s) = get-insert-elsewhere nat_cmp_total nat_cmp-IsAntisymmetric rows c (to s) d other

pub row_here : (to : StreamView → StreamView) (rows : StreamRows) (c : ℕ) (row : StreamView) → get (changed to rows c) c ≡ Some row
    → (s : StreamView) × (get rows c ≡ Some s) × (to s ≡ row)
row_here to rows c row is = each (get rows c) refl is
  where
    each : (o : Option StreamView) → get rows c ≡ o → get (option_map_or (λ s. insert rows c (to s)) o rows) c ≡ Some row
        → (s : StreamView) × (get rows c ≡ Some s) × (to s ≡ row)
    each None found has = absurd (none_some row (sym found ∙ has))
    each (Some s) found has = (s, found, same_some (to s) row (sym (get-insert-here nat_cmp_total nat_cmp-IsAntisymmetric rows c (to s)) ∙ has))

-- the row of a connection in a phase
pub row_of : (rows : StreamRows) (c : ℕ) (p : Phase) → phase_of rows c ≡ Some p → (row : StreamView) × (get rows c ≡ Some row) × (row.phase ≡ p)
row_of rows c p is = each (get rows c) refl is
  where
    each : (o : Option StreamView) → get rows c ≡ o → option_map (λ (s : StreamView). s.phase) o ≡ Some p
        → (row : StreamView) × (get rows c ≡ Some row) × (row.phase ≡ p)
    each None found has = absurd (none_some p has)
    each (Some s) found has = (s, found, same_some s.phase p has)

pub phase_by : (rows : StreamRows) (c : ℕ) (row : StreamView) → get rows c ≡ Some row → phase_of rows c ≡ Some row.phase
phase_by rows c row is = ap (option_map (λ (s : StreamView). s.phase)) is

-- a connection that isn't closing is as it was
abbrev pub StaysOpen : StreamRows → StreamRows → ℕ → Type 0
StaysOpen old new c = (row : StreamView) → get new c ≡ Some row → (row.phase ≡ Closing → ⊥) → get old c ≡ Some row

pub stays_both : (old middle new : StreamRows) (c : ℕ) → StaysOpen old middle c → StaysOpen middle new c → StaysOpen old new c
stays_both old middle new c one two row is going = one row (two row is going) going

-- so its phase is as it was
pub was_in : (old new : StreamRows) (c : ℕ) (p : Phase) → StaysOpen old new c → (p ≡ Closing → ⊥) → phase_of new c ≡ Some p → phase_of old c ≡ Some p
was_in old new c p stays going is =
    let row = row_of new c p is in
    phase_by old c row.0 (stays row.0 row.1 (λ closes. going (sym row.2 ∙ closes))) ∙ ap (λ q. Some q) row.2

closed_stays : (rows : StreamRows) (c d : ℕ) → StaysOpen rows (stream.closed rows c) d
closed_stays rows c d row is going = each (same_number d c)
  where
    each : (d ≡ c) ⊎ (d ≢ c) → get rows d ≡ Some row
    each (inl same) =
        absurd (going (sym (ap (λ (s : StreamView). s.phase) (row_here (λ s. empty_in Closing) rows c row
        (ap (get (stream.closed rows c)) (sym same) ∙ is)).2)))
    each (inr other) = sym (row_elsewhere (λ s. empty_in Closing) rows c d other) ∙ is

-- ---- tables

abbrev pub Quiet : TablesView → TablesView → Type 0
Quiet old new = (c : ℕ) → StaysOpen old.streams new.streams c

unmoved : (t : TablesView) → Quiet t t
unmoved t c row is going = is

closes_quiet : (c : ℕ) (t : TablesView) → Quiet t (closed c t)
closes_quiet c t = elim (is_open t c) as (λ b. Quiet t (if b then closing c t else t)) [
  | true ↦ closed_stays t.streams c
  | false ↦ unmoved t
]

pub moves_quiet : (session : ℕ) (t : TablesView) → Quiet t (moved session t)
moves_quiet session t = elim (connection_of t.attachments session) as (λ o. Quiet t (option_map_or (λ c. closed c t) o t)) [
  | None ↦ unmoved t
  | Some c ↦ closes_quiet c t
]

pub carries_quiet : Carries Quiet
carries_quiet = record {
  none = unmoved;
  both = λ t u v one two c. stays_both t.streams u.streams v.streams c (one c) (two c);
  closes = closes_quiet;
  chunk = λ p t. unmoved t;
  watches = λ w t. unmoved t;
  notes = λ update reported t. unmoved t;
  touches = λ session t. unmoved t;
  rests = λ t. unmoved t;
  sweeps = moves_quiet;
}
