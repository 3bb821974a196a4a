-- The sessions of the tree: how one is opened, renewed and ended, and what the clock does. The
-- source is the ZooKeeper Programmer's Guide, "ZooKeeper Sessions" and "Ephemeral Nodes". Three
-- things are this project's profile. Time is counted in ticks. A session's id is the zxid of its
-- open. Only open and ping set a deadline.
use Rattle.std.specs.Prelude.{ℕ, ◌+◌, List, [], ◌∷◌, None, Some, if◌then◌else◌, nat_le}
use Rattle.std.specs.Option.{option_map_or}
use Rattle.std.specs.FinMap.{get, insert, remove, entries}
use Rattle.std.specs.List.{filter_map}
use Rattle.ztree.specs.declared.session.Session.{Session}
use Rattle.ztree.specs.Tree.{Tree, Path, Sessions, ephemerals, without_node}

-- a client's session that expires `timeout` ticks from now
abbrev pub new_session : ℕ → ℕ → ℕ → Session
new_session client timeout time = record { client = client; timeout = timeout; deadline = time + timeout }

-- the tree with one more session; its id is the zxid of the next change
abbrev pub with_session : Tree → ℕ → ℕ → Tree
with_session t client timeout = record t { sessions = insert t.sessions (t.zxid + 1) (new_session client timeout t.time) }

-- the session with a deadline of its whole timeout from now
abbrev pub renewed_session : ℕ → Session → Session
renewed_session time s = record s { deadline = time + s.timeout }

-- the tree with the session renewed, if it exists
abbrev pub with_renewed_session : Tree → ℕ → Tree
with_renewed_session t id = record t { sessions = option_map_or (λ s. insert t.sessions id (renewed_session t.time s)) (get t.sessions id) t.sessions }

-- the tree after the next change removes the nodes at these paths, one after the other
abbrev pub without_nodes : Tree → List Path → Tree
without_nodes t [] = t
without_nodes t (path ∷ paths) = without_nodes (without_node t path) paths

-- the tree after a session ends: without the session and every node that it owns
abbrev pub without_session : Tree → ℕ → Tree
without_session t id = record (without_nodes t (ephemerals t.nodes id)) { sessions = remove t.sessions id }

-- the tree after these sessions end one after the other, in the same change
abbrev pub without_sessions : Tree → List ℕ → Tree
without_sessions t [] = t
without_sessions t (id ∷ ids) = without_sessions (without_session t id) ids

-- the ids of the sessions that expire at the tick, in the order of ids
abbrev pub due_sessions : Sessions → ℕ → List ℕ
due_sessions sessions tick = filter_map (λ e. if nat_le e.1.deadline tick then Some e.0 else None) (entries sessions)

-- the tree with the clock one tick further
abbrev pub with_next_tick : Tree → Tree
with_next_tick t = record t { time = t.time + 1 }
