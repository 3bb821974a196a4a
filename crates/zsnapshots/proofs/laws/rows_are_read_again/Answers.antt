use Rattle.zsnapshots.specs.Rows.{header_text, session_text, node_text, reply_text}
use Rattle.zsnapshots.proofs.RowForms.{is_header, is_session_text, is_node_text, is_reply_text, are_rows}
use Rattle.zsnapshots.proofs.laws.rows_are_read_again.Goals as goal

pub returns : goal.returns
returns c =
    record {
      header = are_rows header_text is_header;
      session = are_rows session_text is_session_text;
      node = are_rows node_text is_node_text;
      reply = are_rows reply_text is_reply_text;
    }
