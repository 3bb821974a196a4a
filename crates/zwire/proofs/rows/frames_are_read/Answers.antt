use Rattle.std.proofs.Common.{refl}
use Rattle.zcodec.specs.Forms.{number_at}
use Rattle.zwire.specs.records.Records.{server}
use Rattle.zwire.specs.Fields.{process_at, process}
use Rattle.zwire.specs.Messages.{order_at, message_at, any_message}
use Rattle.zwire.specs.Frames.{contents, frame}
use Rattle.zwire.proofs.rows.frames_are_read.Goals as goal

pub returns : goal.returns
unfolding frame contents any_message message_at order_at process process_at server number_at
returns c = record { read = refl }
