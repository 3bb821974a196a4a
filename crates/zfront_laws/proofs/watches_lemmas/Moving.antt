-- Tables that move: watches and what is to be sent stay, and no open connection shuts.
use Rattle.std.proofs.Common.{◌≡◌, ◌≢◌, ◌∙◌, ℕ, true, List, Option, Some, None, refl, sym, ap, inl, inr}
use Rattle.std.specs.Prelude.{◌⊎◌}
use Rattle.std.specs.Cmp.{nat_cmp_total}
use Rattle.std.specs.FinMap as finite
use Rattle.std.specs.FinMap.{nat_cmp-IsAntisymmetric}
use Rattle.std.specs.Option.{option_map, option_map_or}
use Rattle.ztree.proofs.Maps.{same_or_other, get-insert-here}
use Rattle.zconnections.specs.declared.buffers.phase.Phase.TheVariants.{Speaking}
use Rattle.zconnections.specs.buffers.Streams.{StreamRows, StreamView, changed, phase_of, with_bytes, with_phase}
use Rattle.zconnections.specs.attachments.Attachments.{AttachmentsView}
use Rattle.zconnections.specs.Tables.{TablesView, may_send}
use Rattle.zfront_laws.proofs.Seated.{phase_elsewhere}
use Rattle.zfront_laws.specs.watches.Watching.{IsMoved}

-- a stream that is changed stays open
module _ (to : StreamView → StreamView) (stays : (s : StreamView) → may_send (Some s.phase) ≡ true
    → may_send (Some (to s).phase) ≡ true) (rows : StreamRows)
    (c d : ℕ) where
  pub stays_open : may_send (phase_of rows d) ≡ true → may_send (phase_of (changed to rows c) d) ≡ true
  stays_open opens = near (same_or_other nat_cmp_total nat_cmp-IsAntisymmetric d c)
    where
      there : (s : StreamView) → finite.get rows c ≡ Some s → d ≡ c → may_send (phase_of (finite.insert rows c (to s)) d) ≡ true
      there s is same =
          ap (λ o. may_send (option_map (λ (s : StreamView). s.phase) o))
          (ap (finite.get (finite.insert rows c (to s))) same ∙ get-insert-here nat_cmp_total nat_cmp-IsAntisymmetric rows c (to s))
          ∙ stays s (sym (ap (λ o. may_send (option_map (λ (s : StreamView). s.phase) o)) (ap (finite.get rows) same ∙ is)) ∙ opens)

      by : (o : Option StreamView) → finite.get rows c ≡ o → d ≡ c
          → may_send (phase_of (option_map_or (λ s. finite.insert rows c (to s)) o rows) d) ≡ true
      by None is same = opens
      by (Some s) is same = there s is same

      near : (d ≡ c) ⊎ (d ≢ c) → may_send (phase_of (changed to rows c) d) ≡ true
      near (inl same) = by (finite.get rows c) refl same
      near (inr other) = ap may_send (phase_elsewhere to rows c d other) ∙ opens

-- other attachments
pub attachments_move : (t : TablesView) (m : AttachmentsView) → IsMoved t (record t { attachments = m })
attachments_move t m = record { watches = refl; limits = refl; unsent = refl; opens = λ c opens. opens }

-- other bytes
pub bytes_move : (t : TablesView) (c : ℕ) (bytes : List ℕ) → IsMoved t (record t { streams = with_bytes t.streams c bytes })
bytes_move t c bytes = record {
  watches = refl;
  limits = refl;
  unsent = refl;
  opens = λ d opens. stays_open (λ s. record s { bytes = bytes }) (λ s is. is) t.streams c d opens;
}

-- a connection speaks for a session
pub speaks_moves : (t : TablesView) (c session : ℕ) (m : AttachmentsView)
    → IsMoved t (record t { streams = with_phase t.streams c (Speaking session); attachments = m })
speaks_moves t c session m = record {
  watches = refl;
  limits = refl;
  unsent = refl;
  opens = λ d opens. stays_open (λ s. record s { phase = Speaking session }) (λ s is. refl) t.streams c d opens;
}
