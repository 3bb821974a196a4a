use Rattle.std.proofs.Common.{[], ◌∷◌, refl}
use Rattle.zconnections.specs.declared.buffers.phase.Phase.TheVariants.{Closing}
use Rattle.zconnections.specs.buffers.Streams.{StreamView, empty_in}
use Rattle.zconnections.proofs.buffers_lemmas.Samples.{changed-three, changed-four}
use Rattle.zconnections.proofs.buffers.rows.streams_are_changed.Goals as goal

pub returns : goal.returns
returns c = record {
  opened = refl;
  phase = changed-three (λ (s : StreamView). record s { phase = Closing });
  bytes = changed-three (λ (s : StreamView). record s { bytes = 2 ∷ [] });
  closed = changed-three (λ (s : StreamView). empty_in Closing);
  no_phase = changed-four (λ (s : StreamView). record s { phase = Closing });
  no_bytes = changed-four (λ (s : StreamView). record s { bytes = 2 ∷ [] });
  not_closed = changed-four (λ (s : StreamView). empty_in Closing);
}
