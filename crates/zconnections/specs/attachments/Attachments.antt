-- Attachments of sessions to connections: what a server stores of a session beside the tree. The
-- source is the ZooKeeper Programmer's Guide, "ZooKeeper Sessions".
use Rattle.std.specs.Prelude.{ℕ, true, false, ◌||◌, List, None, Some, if◌then◌else◌, map, unwrap_or}
use Rattle.std.specs.Option.{option_map_or}
use Rattle.std.specs.Ordering.{nat_cmp}
use Rattle.std.specs.List.{filter_map}
use Rattle.std.specs.FinMap.{FinMap, get, insert, entries, from_entries}
use Rattle.zconnections.specs.declared.attachments.attachment.Attachment.{Attachment}

-- an attachment for each session, under the session's id
abbrev pub AttachmentsView : Type 0
AttachmentsView = FinMap nat_cmp Attachment

-- the attachment of a session that a connection opens
abbrev pub new_attachment : ℕ → Attachment
new_attachment connection =
    record { connection = Some connection; is_touched = true; was_touched = false; made_ephemeral = false }

-- the attachment of a session that was opened earlier and has no connection now; it counts as one
-- that sent a request just now and made an ephemeral node, since no one knows whether it did
abbrev pub restored_attachment : Attachment
restored_attachment =
    record { connection = None; is_touched = true; was_touched = false; made_ephemeral = true }

-- attached to a connection, which sent a request just now
abbrev pub taken_up : ℕ → Attachment → Attachment
taken_up connection s = record s { connection = Some connection; is_touched = true }

-- with a request since the last `rest`
abbrev pub touched : Attachment → Attachment
touched s = record s { is_touched = true }

-- with an ephemeral node made at some time
abbrev pub with_ephemeral : Attachment → Attachment
with_ephemeral s = record s { made_ephemeral = true }

-- without a connection
abbrev pub left : Attachment → Attachment
left s = record s { connection = None }

-- after a `rest`: a request since the last one is now before it
abbrev pub rested : Attachment → Attachment
rested s = record s { is_touched = false; was_touched = s.is_touched }

-- the attachments after a connection has taken a session; an unknown session was opened earlier
abbrev pub with_seat : AttachmentsView → ℕ → ℕ → AttachmentsView
with_seat m id connection = insert m id (taken_up connection (unwrap_or (get m id) restored_attachment))

-- the attachments with one session's changed, if it exists
abbrev pub with_changed : (Attachment → Attachment) → AttachmentsView → ℕ → AttachmentsView
with_changed change m id = option_map_or (λ s. insert m id (change s)) (get m id) m

-- the sessions with a request since the last `rest` but one, in the order of ids
abbrev pub touched_ids : AttachmentsView → List ℕ
touched_ids m = filter_map (λ e. if e.1.is_touched || e.1.was_touched then Some e.0 else None) (entries m)

-- the attachments, each after `rest`
abbrev pub all_rested : AttachmentsView → AttachmentsView
all_rested m = from_entries (map (λ e. (e.0, rested e.1)) (entries m))
