-- On the sample streams of the worked rows.
use Rattle.std.proofs.Common.{◌≡◌, [], ◌∷◌, ◌∙◌}
use Rattle.std.specs.FinMap.{empty, insert}
use Rattle.zconnections.specs.declared.buffers.phase.Phase.TheVariants.{Speaking}
use Rattle.zconnections.specs.buffers.Streams.{StreamView, changed}
use Rattle.zconnections.specs.buffers.support.Samples.{silent, entries_with, streams}
use Rattle.zconnections.proofs.buffers_lemmas.Changing.{changed-there, changed-absent, insert-insert}
use Rattle.ztree.proofs.Entries.{get-entries}

-- the stream of connection 3
abbrev three : StreamView
three = record { phase = Speaking 7; bytes = 1 ∷ 2 ∷ [] }

-- it is changed
pub changed-three : (to : StreamView → StreamView) → changed to streams 3 ≡ insert (insert empty 5 silent) 3 (to three)
changed-three to =
    changed-there to streams 3 three (get-entries (entries_with (Speaking 7) (1 ∷ 2 ∷ [])) 3)
    ∙ insert-insert (insert empty 5 silent) 3 three (to three)

-- connection 4 has none
pub changed-four : (to : StreamView → StreamView) → changed to streams 4 ≡ streams
changed-four to = changed-absent to streams 4 (get-entries (entries_with (Speaking 7) (1 ∷ 2 ∷ [])) 4)
