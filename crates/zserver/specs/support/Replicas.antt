-- How a server's replica makes its state, and how the fields of the replica make its view. Also the
-- rows of its table, over the plain tree.
use Rattle.std.specs.Prelude.{◌≡◌, ℕ, ◌+◌, true, false, Option, None, Some, List, map, Result, Ok, Err, if◌then◌else◌}
use Rattle.ztree.specs.Tree.{Tree}
use Rattle.zcalls.specs.declared.call.Entry.{Entry}
use Rattle.zcalls.specs.declared.call.Query.{Query}
use Rattle.zcalls.specs.declared.reply.Reply.{Reply}
use Rattle.zcalls.specs.Cached.{CachedState}
use Rattle.zops.specs.Machine.{MachineView}
use Rattle.zprotocol.specs.declared.message.Message.TheVariants as message
use Rattle.zprotocol.specs.declared.process.Process.{Process}
use Rattle.zprotocol.specs.declared.process.Process.TheVariants.{Server}
use Rattle.zprotocol.specs.server.Machine.{cached_tree}
use Rattle.zprotocol.specs.server.Memory.{grows_by}
use Rattle.zprotocol.specs.server.Table.{accept_result, entries_above, forward_post, has_room, if_initialised}
use Rattle.zprotocol.specs.server.Table.{submit_row, query_row, update_row, server_step}
use Rattle.zprotocol.specs.server.View.{Neighbour, Post, Transfer, spare}
use Rattle.zserver.specs.declared.stopped.Stopped.{Stopped}
use Rattle.zserver.specs.Server.{ServerState, TreeView, TreeMessage, TreeResult, running}

-- the state of a server, by its replica or by why it stopped: one that has stopped has no replica
abbrev pub server_of : Result TreeView Stopped → ServerState
server_of (Err why) = record { view = spare; stopped = Some why }
server_of (Ok v) = running v

-- the tree with cached replies that the machine represents, if there is one
abbrev pub state_of : Option MachineView → Option (CachedState Tree)
state_of None = None
state_of (Some m) = Some m.state.service

-- the number of the last entry, which the machine counts
abbrev pub last_of : Option MachineView → ℕ
last_of None = 0
last_of (Some m) = m.state.applied

-- the payload that a machine hands over
abbrev pub transfer_of : MachineView → Transfer (CachedState Tree)
transfer_of m = record { last = m.state.applied; machine = m.state.service }

-- a machine that is held hasn't run out of memory
abbrev pub IsWhole : Option MachineView → Type 0
IsWhole None = Unit {0}
IsWhole (Some m) = m.is_broken ≡ false

-- the machine applies an entry, and counts it
unfoldable pub applied_result : TreeView → Entry → TreeView × Option Reply
applied_result v entry = elim v.machine [
  | None ↦ (v, None)
  | Some m ↦ let did = cached_tree.apply m entry in (record v { machine = Some did.0; last = v.last + 1 }, did.1)
]

-- the number of the next entry, where the server has the state and a number is left
unfoldable pub next_number : TreeView → Option ℕ
next_number v = elim v.machine [ None ↦ None | Some m ↦ if has_room v then Some (v.last + 1) else None ]

-- accept, where the server has the state
unfoldable pub accept_row : TreeView → ℕ → Entry → TreeResult
accept_row v n entry = if_initialised v (λ m. accept_result cached_tree v m n entry)

-- Submit, of the entry's update
abbrev pub submit_at : TreeView → Entry → TreeResult
submit_at v entry = submit_row cached_tree v entry.client entry.number entry.update

-- Query
abbrev pub query_at : TreeView → ℕ → ℕ → Query → TreeResult
query_at v client number query = query_row cached_tree v client number query

-- Update
abbrev pub update_at : TreeView → ℕ → ℕ → ℕ → Entry → TreeResult
update_at v p epoch n entry = update_row cached_tree v p epoch n entry

-- what a message leads to, by any sender
abbrev pub step_at : TreeView → Process → TreeMessage → TreeResult
step_at v from m = server_step cached_tree v from m

-- at this row a server grows: its log gets longer, or it sends something
abbrev pub GrowsBy : TreeView → TreeResult → Type 0
GrowsBy v did = grows_by v did ≡ true

-- the messages that forward the entries above a number to the successor
abbrev pub posts_above : ℕ → List (ℕ × Entry) → Neighbour → List (Post (CachedState Tree))
posts_above n sent succ = map (forward_post succ) (entries_above n sent)

-- the message that sends the state of a machine to the successor
abbrev pub snapshot_post : Neighbour → MachineView → Post (CachedState Tree)
snapshot_post succ m = (Server succ.0, message.Snapshot succ.1 (transfer_of m))
