use Rattle.std.proofs.Common.{refl}
use Rattle.zcodec.specs.Forms.{number_at}
use Rattle.zwire.specs.Fields.{call_number, client}
use Rattle.zwire.specs.Replies.{reply_at, reply}
use Rattle.zsnapshots.specs.Rows.{kept, reply_text}
use Rattle.zsnapshots.proofs.rows.rows_are_read.Goals as goal

pub returns : goal.returns
unfolding reply_text kept reply reply_at client call_number number_at
returns c = record { read = refl }
