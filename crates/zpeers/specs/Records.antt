-- What a process sends to another: records, each a tag and bytes after their length. A message is
-- a frame. If it has a state, its rows follow, each in a record of its own, and then the end.
use Rattle.std.specs.Prelude.{ℕ, List, [], ◌∷◌, ◌++◌, map}
use Rattle.std.specs.Int.{w8}
use Rattle.zcodec.specs.Forms.{Form, number, both}
use Rattle.zcodec.specs.Choices.{sized}
use Rattle.zjute.specs.Shapes.{fields}
use Rattle.ztree.specs.Tree.{Tree}
use Rattle.zcalls.specs.Cached.{CachedState}
use Rattle.zops.specs.Machine.{MachineState}
use Rattle.zprotocol.specs.declared.message.Message.TheVariants.{Snapshot}
use Rattle.zprotocol.specs.declared.process.Process.{Process}
use Rattle.zprotocol.specs.server.View.{Transfer}
use Rattle.zserver.specs.Server.{TreeMessage}
use Rattle.zwire.specs.declared.limits.TheConstants.{MAX_FRAME}
use Rattle.zwire.specs.Frames.{contents, frame_of}
use Rattle.zsnapshots.specs.Rows.{header_text, session_text, node_text, reply_text}
use Rattle.zsnapshots.specs.States.{StateRow, rows_of}
use Rattle.zsnapshots.specs.States.StateRow.{OfHeader, OfSession, OfNode, OfReply}
use Rattle.zpeers.specs.declared.tags.TheConstants.{FRAME, ROW, END}

pub record LinkRecord : Type 0 where
  pub tag : ℕ
  pub bytes : List ℕ

-- the bytes of a record: its tag, and then its bytes after their length
abbrev pub link_record : Form LinkRecord
link_record = fields (both (number w8) (sized MAX_FRAME)) (λ r. (r.tag, r.bytes))
    (λ p. record { tag = p.0; bytes = p.1 })

-- the frame of a message, without its length
abbrev pub frame_record : Process → Process → TreeMessage → LinkRecord
frame_record own to m = record { tag = FRAME; bytes = contents.spell (frame_of own to m) }

-- the bytes of a row, without their length
abbrev pub row_text : StateRow → List ℕ
row_text (OfHeader h) = header_text.spell h
row_text (OfSession e) = session_text.spell e
row_text (OfNode e) = node_text.spell e
row_text (OfReply e) = reply_text.spell e

abbrev pub row_record : StateRow → LinkRecord
row_record x = record { tag = ROW; bytes = row_text x }

abbrev pub end_record : LinkRecord
end_record = record { tag = END; bytes = [] }

-- what a snapshot has: the state of a machine
abbrev pub TreeTransfer : Type 0
TreeTransfer = Transfer (CachedState Tree)

abbrev pub state_of : TreeTransfer → MachineState
state_of t = record { service = t.machine; applied = t.last }

-- the records of a state
abbrev pub state_records : MachineState → List LinkRecord
state_records s = map row_record (rows_of s) ++ end_record ∷ []

-- what follows the frame of a message
abbrev pub after_frame : TreeMessage → List LinkRecord
after_frame (Snapshot epoch t) = state_records (state_of t)
after_frame m = []

-- the records of a message from a process to another
abbrev pub records_of : Process → Process → TreeMessage → List LinkRecord
records_of own to m = frame_record own to m ∷ after_frame m
