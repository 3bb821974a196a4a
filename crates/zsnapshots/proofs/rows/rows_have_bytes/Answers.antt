use Rattle.std.proofs.Common.{refl}
use Rattle.zwire.specs.records.Fields.{path, content}
use Rattle.zwire.specs.Fields.{call_number, log_number, client}
use Rattle.zwire.specs.Replies.{reply}
use Rattle.zsnapshots.specs.Rows.{limits, header_text, node, node_text, session, session_text, term, kept, reply_text}
use Rattle.zsnapshots.proofs.rows.rows_have_bytes.Goals as goal

pub returns : goal.returns
unfolding header_text limits node_text node term session_text session reply_text kept reply client call_number log_number path content
returns c = record { header = refl; session = refl; node = refl; reply = refl }
