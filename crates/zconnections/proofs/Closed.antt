-- After the last chunk of a connection nothing is sent on it.
use Rattle.std.proofs.Common.{◌≡◌, ℕ, true, false, cond, None, Some, option_map, refl, sym, ap}
use mathlib.Core.Bool.{true≢false}
use Rattle.std.specs.Option.{option_map_or}
use Rattle.std.specs.Cmp.{nat_cmp_total}
use Rattle.std.specs.FinMap.{get, insert, nat_cmp-IsAntisymmetric}
use Rattle.ztree.proofs.Maps.{get-insert-here}
use Rattle.zconnections.specs.declared.buffers.phase.Phase.TheVariants.{Closing}
use Rattle.zconnections.specs.buffers.Streams.{StreamView, StreamRows, empty_in, phase_of, closed as closed_rows}
use Rattle.zconnections.specs.Laws.{NothingGoesBehind, ClosedOnce}
use Rattle.zconnections.specs.Tables.{TablesView, closed, closing, is_open, may_send}

-- nothing may be sent on a connection that was closed
closed_phase : (rows : StreamRows) (c : ℕ) → may_send (phase_of rows c) ≡ true → may_send (phase_of (closed_rows rows c) c) ≡ false
closed_phase rows c sends =
    elim (get rows c) as (λ o. may_send (option_map (λ s. s.phase) o) ≡ true
    → may_send (phase_of (option_map_or (λ s. insert rows c (empty_in Closing)) o rows) c) ≡ false) [
      | None ↦ λ never. absurd (true≢false (sym never))
      | Some s ↦ λ _. ap (λ o. may_send (option_map (λ (r : StreamView). r.phase) o))
          (get-insert-here nat_cmp_total nat_cmp-IsAntisymmetric rows c (empty_in Closing))
    ] sends

not_open : (c : ℕ) (t : TablesView) → is_open (closed c t) c ≡ false
not_open c t =
    elim (is_open t c) as (λ b. is_open t c ≡ b → is_open (cond b (closing c t) t) c ≡ false) [
      | true ↦ λ sends. closed_phase t.streams c sends
      | false ↦ λ shut. shut
    ] refl

pub nothing_behind : NothingGoesBehind
nothing_behind c bytes t = rw (not_open c t) refl

pub once : ClosedOnce
once c t = rw (not_open c t) refl
