use Rattle.std.proofs.Common.{[], ◌∷◌, refl, ap}
use Rattle.std.specs.Option.{option_map, option_map_or}
use Rattle.std.specs.List.Sorted.{IsStrictlySortedBy}
use Rattle.zconnections.specs.declared.buffers.phase.Phase.TheVariants.{Speaking}
use Rattle.zconnections.specs.buffers.Streams.{StreamView}
use Rattle.zconnections.specs.buffers.support.Samples.{entries_with}
use Rattle.zconnections.proofs.buffers_lemmas.Counting.{held-rising}
use Rattle.ztree.proofs.Entries.{get-entries}
use Rattle.zconnections.proofs.buffers.rows.streams_are_read.Goals as goal

pub returns : goal.returns
unfolding IsStrictlySortedBy
returns c =
    let es = entries_with (Speaking 7) (1 ∷ 2 ∷ []) in
    record {
      speaking = ap (option_map (λ (s : StreamView). s.phase)) (get-entries es 3);
      silent = ap (option_map (λ (s : StreamView). s.phase)) (get-entries es 5);
      absent = ap (option_map (λ (s : StreamView). s.phase)) (get-entries es 4);
      bytes = ap (λ o. option_map_or (λ (s : StreamView). s.bytes) o []) (get-entries es 3);
      none = ap (λ o. option_map_or (λ (s : StreamView). s.bytes) o []) (get-entries es 5);
      no_stream = ap (λ o. option_map_or (λ (s : StreamView). s.bytes) o []) (get-entries es 4);
      held = held-rising es ((refl, tt), (tt, tt));
    }
