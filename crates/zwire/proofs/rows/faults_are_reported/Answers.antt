use Rattle.std.proofs.Common.{refl, [], ◌∷◌}
use Rattle.zcodec.specs.Forms.{number_at}
use Rattle.zwire.specs.records.Records.{server}
use Rattle.zwire.specs.Fields.{client, process_at, process}
use Rattle.zwire.specs.Messages.{order_at, message_at, any_message}
use Rattle.zwire.specs.Frames.{contents}
use Rattle.zwire.proofs.rows.faults_are_reported.Goals as goal

pub returns : goal.returns
unfolding contents any_message message_at order_at process process_at server client number_at
returns c = record {
  none = refl;
  part_of_a_length = refl;
  part_of_a_frame = refl;
  longest = refl;
  too_long = refl;
  far_too_long = refl;
  empty = ([], [], refl, refl);
  no_message = (0 ∷ 1 ∷ 2 ∷ [], [], refl, refl);
  other_process =
      (3 ∷ 0 ∷ 11 ∷ [], [], refl, refl);
  server_17 = (0 ∷ 1 ∷ 17 ∷ 11 ∷ [], [], refl, refl);
  client_32 =
      (0 ∷ 2 ∷ 32 ∷ 11 ∷ [], [], refl, refl);
  other_message = (0 ∷ 1 ∷ 2 ∷ 15 ∷ [], [], refl, refl);
  more =
      (0 ∷ 1 ∷ 2 ∷ 11 ∷ 0 ∷ [], [], refl, refl);
}
