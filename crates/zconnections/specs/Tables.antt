-- The state of a server for ZooKeeper's clients: connections with their unread bytes, sessions with
-- their connections, watches with their limits, and chunks to be sent. The source is the ZooKeeper Programmer's
-- Guide, "ZooKeeper Sessions".
use Rattle.std.specs.Prelude.{ℕ, Bool, true, false, List, [], ◌∷◌, ◌++◌, Option, None, Some, if◌then◌else◌}
use Rattle.std.specs.Option.{option_map_or, option_and_then}
use Rattle.std.specs.FinMap as finite
use Rattle.zconnections.specs.declared.buffers.phase.Phase.{Phase}
use Rattle.zconnections.specs.declared.buffers.phase.Phase.TheVariants.{Silent, Speaking, Closing}
use Rattle.zconnections.specs.buffers.Streams.{StreamRows, phase_of, with_phase}
use Rattle.zconnections.specs.buffers.Streams as stream
use Rattle.zconnections.specs.buffers.Outbox.{ChunkView}
use Rattle.zconnections.specs.buffers.Outbox as outbox
use Rattle.zconnections.specs.attachments.Attachments.{AttachmentsView, with_changed, with_seat, left, new_attachment}
use Rattle.zwatches.specs.Watches.{Watches}
use Rattle.zwatches.specs.declared.limits.WatchLimits.{WatchLimits}
use Rattle.zwatches.specs.Events as watch

pub record TablesView : Type 0 where
  pub streams : StreamRows
  pub attachments : AttachmentsView
  pub watches : Watches
  pub limits : WatchLimits
  pub unsent : List ChunkView

-- in this phase, bytes may still be sent on the connection
abbrev pub may_send : Option Phase → Bool
may_send (Some Silent) = true
may_send (Some (Speaking session)) = true
may_send (Some Closing) = false
may_send None = false

-- the connection exists, and isn't closing
abbrev pub is_open : TablesView → ℕ → Bool
is_open t c = may_send (phase_of t.streams c)

-- the session of a connection in this phase
abbrev pub session_in : Option Phase → Option ℕ
session_in (Some Silent) = None
session_in (Some (Speaking session)) = Some session
session_in (Some Closing) = None
session_in None = None

-- a chunk that isn't the last of its connection, and one that is
abbrev pub chunk : ℕ → List ℕ → ChunkView
chunk c bytes = record { connection = c; bytes = bytes; is_last = false }

abbrev pub last_chunk : ℕ → ChunkView
last_chunk c = record { connection = c; bytes = []; is_last = true }

-- a chunk is queued at the end
abbrev pub with_chunk : ChunkView → TablesView → TablesView
with_chunk p t = record t { unsent = t.unsent ++ p ∷ [] }

-- bytes are queued for a connection; nothing is queued if it is closing
abbrev pub sent : ℕ → List ℕ → TablesView → TablesView
sent c bytes t = if is_open t c then with_chunk (chunk c bytes) t else t

-- the session of a connection, if it has one, is detached
abbrev pub without_seat : Option ℕ → TablesView → AttachmentsView
without_seat session t = option_map_or (λ s. with_changed left t.attachments s) session t.attachments

-- a connection is detached from its session, and its watches are removed
abbrev pub parted : ℕ → TablesView → TablesView
parted c t =
    record t {
      attachments = without_seat (session_in (phase_of t.streams c)) t;
      watches = watch.without t.watches c;
    }

-- nothing more is read on a connection, and it is closed once all queued chunks are sent
abbrev pub closing : ℕ → TablesView → TablesView
closing c t = with_chunk (last_chunk c) (record (parted c t) { streams = stream.closed t.streams c })

abbrev pub closed : ℕ → TablesView → TablesView
closed c t = if is_open t c then closing c t else t

-- a connection ended
abbrev pub ended : ℕ → TablesView → TablesView
ended c t =
    record (parted c t) { streams = finite.remove t.streams c; unsent = outbox.without t.unsent c }

-- a session was opened on a connection
abbrev pub attachment : ℕ → ℕ → TablesView → TablesView
attachment session c t =
    record t {
      streams = with_phase t.streams c (Speaking session);
      attachments = finite.insert t.attachments session (new_attachment c);
    }

-- the connection that a session has
abbrev pub connection_of : AttachmentsView → ℕ → Option ℕ
connection_of rows session = option_and_then (λ s. s.connection) (finite.get rows session)

-- the connection that a session has is closed
abbrev pub moved : ℕ → TablesView → TablesView
moved session t = option_map_or (λ c. closed c t) (connection_of t.attachments session) t

-- a session is attached to a connection
abbrev pub seated : ℕ → ℕ → TablesView → TablesView
seated session c t =
    record t {
      streams = with_phase t.streams c (Speaking session);
      attachments = with_seat t.attachments session c;
    }

-- a session is attached to a connection, and its old connection is closed
abbrev pub taken_up : ℕ → ℕ → TablesView → TablesView
taken_up session c t = seated session c (moved session t)
