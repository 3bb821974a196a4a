use Rattle.std.proofs.Common.{refl}
use Rattle.zwire.specs.records.Records.{server}
use Rattle.zwire.specs.Fields.{process, log_number}
use Rattle.zwire.specs.Messages.{any_message}
use Rattle.zwire.specs.Frames.{contents}
use Rattle.zsnapshots.specs.Rows.{limits, header_text}
use Rattle.zpeers.proofs.rows.records_have_bytes.Goals as goal

pub returns : goal.returns
unfolding contents any_message process server header_text limits log_number
returns c = record { frame = refl; row = refl; end = refl }
