use Rattle.std.proofs.Common.{refl, [], ◌∷◌}
use Rattle.zcodec.specs.Forms.{number_at}
use Rattle.zwire.specs.Fields.{call_number, client}
use Rattle.zwire.specs.Replies.{reply_at, reply}
use Rattle.zsnapshots.specs.Rows.{session_text, kept, reply_text}
use Rattle.zsnapshots.proofs.rows.faults_are_reported.Goals as goal

pub returns : goal.returns
unfolding reply_text session_text kept reply reply_at client call_number number_at
returns c = record {
  none = refl;
  part = refl;
  too_long = refl;
  client_32 = (32 ∷ 0 ∷ 0 ∷ 0 ∷ 0 ∷ 0 ∷ 0 ∷ 0 ∷ 7 ∷ 1 ∷ [], [], refl, refl);
  more = (2 ∷ 0 ∷ 0 ∷ 0 ∷ 0 ∷ 0 ∷ 0 ∷ 0 ∷ 7 ∷ 1 ∷ 0 ∷ [], [], refl, refl);
  short = (0 ∷ 0 ∷ 0 ∷ [], [], refl, refl);
}
