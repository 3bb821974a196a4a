use Rattle.std.proofs.Common.{refl, [], ◌∷◌}
use Rattle.zcodec.specs.Forms.{number_at}
use Rattle.zsnapshots.proofs.Loaded.{not_followed_by}
use Rattle.zsnapshots.proofs.rows.frames_are_followed.Goals as goal

pub returns : goal.returns
unfolding number_at
returns c = record {
  more = (7 ∷ [], 9 ∷ [], refl, λ none. cc);
  same = (7 ∷ [], 7 ∷ [], refl, λ none. cc);
  none = not_followed_by (0 ∷ 0 ∷ 0 ∷ 1 ∷ 7 ∷ []) (7 ∷ []) [] refl refl;
  cut = λ followed. let read = followed.2 in cc;
}
