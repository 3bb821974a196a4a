use Rattle.std.proofs.Common.{refl}
use Rattle.zwire.specs.records.Calls.{update}
use Rattle.zwire.specs.records.Fields.{path}
use Rattle.zwire.specs.records.Records.{server}
use Rattle.zwire.specs.Fields.{call_number, client, process, refusal}
use Rattle.zwire.specs.Replies.{query, reply}
use Rattle.zwire.specs.Messages.{any_message}
use Rattle.zwire.specs.Frames.{contents, frame}
use Rattle.zwire.proofs.rows.calls_have_frames.Goals as goal

pub returns : goal.returns
unfolding frame contents any_message query reply refusal process client server call_number update path
returns c = record { submit = refl; query = refl; answer = refl }
