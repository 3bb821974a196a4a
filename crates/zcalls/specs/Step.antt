-- The sequential step: what each call does to the tree, and its reply. This is the sequential
-- specification: the service as one machine that does one call after the other. The source is the
-- ZooKeeper Programmer's Guide, "ZooKeeper Sessions" (a timeout is 2 to 20 ticks unless limits are
-- chosen), "Ephemeral Nodes", "TTL Nodes" and "ZooKeeper access control using ACLs". Which client a
-- session belongs to, when a TTL expires, and the limits are this project's profile.
use Rattle.std.specs.Prelude.{ℕ, ◌+◌, ◌-◌, Bool, Option, None, Some, Result, Ok, Err, if◌then◌else◌, nat_le, nat_lt, ◌||◌, false, List, length, codes}
use Rattle.std.specs.FinMap as finite
use Rattle.ztree.specs.Stale.{stale_nodes}
use Rattle.ztree.specs.Tree.{Tree, Path, children, stat_of, with_next_zxid}
use Rattle.ztree.specs.Sessions.{with_session, with_renewed_session, without_nodes, without_session, without_sessions, due_sessions, with_next_tick}
use Rattle.ztree.specs.declared.node.Node.{Node}
use Rattle.ztree.specs.declared.limits.TheConstants.{ZXID_BOUND, TICK_BOUND, MIN_TIMEOUT}
use Rattle.zcalls.specs.declared.call.Update.{Update}
use Rattle.zcalls.specs.declared.call.Update.TheVariants.{Create, Delete, SetData, SetAcl, Multi, Open, Ping, Close, Tick}
use Rattle.zcalls.specs.declared.call.Query.{Query}
use Rattle.zcalls.specs.declared.call.Query.TheVariants as query
use Rattle.zcalls.specs.declared.refusal.Refusal.{Refusal}
use Rattle.zcalls.specs.declared.refusal.Refusal.TheVariants.{NoNode, NodeExists, NotEmpty, BadVersion, NoChildrenForEphemerals, SessionGone, SequenceFull, PathLimit, RootFixed, Full, TooManySessions, Exhausted}
use Rattle.zcalls.specs.declared.change.ChangeReply.{ChangeReply}
use Rattle.zcalls.specs.declared.reply.Reply.{Reply}
use Rattle.zcalls.specs.declared.reply.Reply.TheVariants as reply
use Rattle.zcalls.specs.Change.{reply_of}
use Rattle.zcalls.specs.Part.{create_step, delete_step, set_step, acl_step, is_gone}
use Rattle.zcalls.specs.Multi.{Run, run}

-- the text shown for a refusal
abbrev pub refusal_name : Refusal → List ℕ
refusal_name NoNode = codes "NoNode"
refusal_name NodeExists = codes "NodeExists"
refusal_name NotEmpty = codes "NotEmpty"
refusal_name BadVersion = codes "BadVersion"
refusal_name NoChildrenForEphemerals = codes "NoChildrenForEphemerals"
refusal_name SessionGone = codes "SessionGone"
refusal_name SequenceFull = codes "SequenceFull"
refusal_name PathLimit = codes "PathLimit"
refusal_name RootFixed = codes "RootFixed"
refusal_name Full = codes "Full"
refusal_name TooManySessions = codes "TooManySessions"
refusal_name Exhausted = codes "Exhausted"

-- no further zxid is left, or at a tick no further tick; a ping takes neither
abbrev pub is_exhausted : Tree → Update → Bool
is_exhausted t (Ping session) = false
is_exhausted t Tick = nat_le (ZXID_BOUND - 1) t.zxid || nat_le (TICK_BOUND - 1) t.time
is_exhausted t update = nat_le (ZXID_BOUND - 1) t.zxid

-- the result of a change of one node: a refusal leaves the tree unchanged, a success takes the next
-- zxid
abbrev pub change_result : Tree → Result (Tree × ChangeReply) Refusal → Tree × Reply
change_result t (Err refusal) = (t, reply.Refused refusal)
change_result t (Ok (u, did)) = (with_next_zxid u, reply_of did)

-- the result of a multi: a refused part leaves the tree unchanged, a success takes one zxid for all
-- parts
abbrev pub multi_result : Tree → Run → Tree × Reply
multi_result t (Err (number, refusal)) = (t, reply.MultiRefused number refusal)
multi_result t (Ok (u, replies)) = (with_next_zxid u, reply.Multi replies)

-- the timeout granted for the one asked for: the nearest value from 2 ticks to the greatest
abbrev pub granted_timeout : ℕ → ℕ → ℕ
granted_timeout greatest ticks =
    if nat_lt ticks MIN_TIMEOUT then MIN_TIMEOUT else
    if nat_lt greatest ticks then greatest else
    ticks

-- a client opens a session; its id is the zxid of this change
abbrev pub open_result : Tree → ℕ → ℕ → Tree × Reply
open_result t client timeout =
    if nat_le t.limits.sessions (finite.len t.sessions) then (t, reply.Refused TooManySessions) else
    (with_next_zxid (with_session t client timeout), reply.Opened (t.zxid + 1) timeout)

-- what a client does to its own session; any other session is refused as gone
abbrev pub session_result : Tree → ℕ → ℕ → Tree × Reply → Tree × Reply
session_result t client session did = if is_gone t.sessions client session then (t, reply.Refused SessionGone) else did

-- the tree after a tick that ends these sessions and then removes these nodes
abbrev pub after_tick : Tree → List ℕ → List Path → Tree
after_tick t ids paths = with_next_tick (without_nodes (without_sessions t ids) paths)

-- the tree, with the next zxid if it was changed
abbrev pub counted_if : Bool → Tree → Tree
counted_if changed t = if changed then with_next_zxid t else t

-- there are sessions to end or nodes to remove
abbrev pub is_busy : List ℕ → List Path → Bool
is_busy ids paths = nat_lt 0 (length ids) || nat_lt 0 (length paths)

-- A tick ends these sessions, and then removes these nodes, all in one change. If there are none,
-- it makes no change.
abbrev pub tick_result : Tree → List ℕ → List Path → Tree × Reply
tick_result t ids paths = (counted_if (is_busy ids paths) (after_tick t ids paths), reply.Ticked (t.time + 1) (length ids) (length paths))

-- the sessions whose deadline the next tick reaches
abbrev pub due_next : Tree → List ℕ
due_next t = due_sessions t.sessions (t.time + 1)

-- the nodes that the next tick removes as stale, chosen before it
abbrev pub stale_next : Tree → List Path
stale_next t = stale_nodes t.nodes (t.time + 1)

-- a client's update, while a next zxid is left
abbrev pub update_result : Tree → ℕ → Update → Tree × Reply
update_result t client (Create create) = change_result t (create_step t client create)
update_result t client (Delete delete) = change_result t (delete_step t delete)
update_result t client (SetData set) = change_result t (set_step t set)
update_result t client (SetAcl set) = change_result t (acl_step t set)
update_result t client (Multi parts) = multi_result t (run t client parts)
update_result t client (Open ticks) = open_result t client (granted_timeout t.limits.timeout ticks)
update_result t client (Ping session) = session_result t client session (with_renewed_session t session, reply.Pinged)
update_result t client (Close session) = session_result t client session (with_next_zxid (without_session t session), reply.Closed)
update_result t client Tick = tick_result t (due_next t) (stale_next t)

-- a client's update: the tree after it, and the reply
unfoldable pub step : Tree → ℕ → Update → Tree × Reply
step t client update = if is_exhausted t update then (t, reply.Refused Exhausted) else update_result t client update

-- the reply for a node if it exists, else `NoNode`
abbrev pub on_node : Option Node → (Node → Reply) → Reply
on_node None reported = reply.Refused NoNode
on_node (Some n) reported = reported n

-- the reply to a query; the tree stays unchanged
unfoldable pub query_reply : Tree → Query → Reply
query_reply t (query.GetData path) = on_node (finite.get t.nodes path) (λ n. reply.Data n.bytes (stat_of t.nodes path n))
query_reply t (query.Exists path) = on_node (finite.get t.nodes path) (λ n. reply.Exists (stat_of t.nodes path n))
query_reply t (query.GetChildren path) = on_node (finite.get t.nodes path) (λ n. reply.Children (children t.nodes path))
