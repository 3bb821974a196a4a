use Rattle.std.proofs.Common.{refl}
use Rattle.zcodec.specs.Forms.{number_at}
use Rattle.zwire.specs.records.Records.{server}
use Rattle.zwire.specs.Fields.{process_at, process}
use Rattle.zwire.specs.Messages.{order_at, message_at, any_message}
use Rattle.zwire.specs.Frames.{contents}
use Rattle.zpeers.proofs.rows.frames_are_accepted.Goals as goal

pub returns : goal.returns
unfolding contents any_message message_at order_at process process_at server number_at
returns c = record { message = ((refl, refl), tt, refl) }
