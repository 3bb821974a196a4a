use Rattle.std.proofs.Common.{refl}
use Rattle.zwire.specs.records.Calls.{update}
use Rattle.zwire.specs.records.Records.{server}
use Rattle.zwire.specs.Fields.{call_number, log_number, epoch, client, process}
use Rattle.zwire.specs.Messages.{entry, any_message}
use Rattle.zwire.specs.Frames.{contents, frame}
use Rattle.zwire.proofs.rows.servers_have_frames.Goals as goal

pub returns : goal.returns
unfolding frame contents any_message entry process client server call_number log_number epoch update
returns c = record { update = refl; ack = refl; snapshot = refl }
