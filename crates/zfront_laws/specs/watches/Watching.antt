-- A model of what a front does at its inputs, one happening after the other, and which happenings
-- are allowed while watches are set. The source is the ZooKeeper Programmer's Guide, "ZooKeeper
-- Watches" and "Semantics of Watches".
use Rattle.std.specs.Prelude.{◌≡◌, ◌⊎◌, ℕ, ℤ, int_lt, Bool, true, false, not, ◌&&◌, ◌||◌, List, [], ◌∷◌, ◌++◌, Some, None, Ok, if◌then◌else◌}
use Rattle.std.specs.FinMap.{get, insert, remove}
use Rattle.std.specs.FinSet.{contains}
use Rattle.std.specs.Option.{option_map_or}
use Rattle.std.specs.Ordering.{eq_by_cmp}
use Rattle.ztree.specs.declared.node.Node.{Node}
use Rattle.ztree.specs.Tree.{Tree, Nodes, Path, has_node}
use Rattle.zcalls.specs.Lists.{Among}
use Rattle.zcalls.specs.declared.call.Call.{Call}
use Rattle.zcalls.specs.declared.call.Call.TheVariants.{Update}
use Rattle.zcalls.specs.declared.call.Part.{Part}
use Rattle.zcalls.specs.declared.call.Update.{Update as Act}
use Rattle.zcalls.specs.declared.call.Update.TheVariants.{Close, Multi}
use Rattle.zcalls.specs.declared.reply.Reply.{Reply}
use Rattle.zcalls.specs.declared.reply.Reply.TheVariants as reply
use Rattle.zjute.specs.declared.connecting.ConnectRequest.{ConnectRequest}
use Rattle.zjute.specs.declared.event.EventKind.{EventKind}
use Rattle.zjute.specs.declared.event.EventKind.TheVariants.{NodeCreated, NodeDeleted, NodeDataChanged, NodeChildrenChanged}
use Rattle.zjute.specs.declared.request.AddWatch.{AddWatch}
use Rattle.zjute.specs.declared.request.Asked.{Asked}
use Rattle.zjute.specs.declared.request.Asked.TheVariants as asked
use Rattle.zjute.specs.declared.request.SetWatches.{SetWatches}
use Rattle.zjute.specs.declared.request.SetWatches2.{SetWatches2}
use Rattle.zjute.specs.declared.request.WatchesAt.{WatchesAt}
use Rattle.zjute.specs.declared.watch_type.AddMode.{AddMode}
use Rattle.zjute.specs.declared.watch_type.AddMode.TheVariants as mode
use Rattle.zjute.specs.declared.watch_type.WatchType.{WatchType}
use Rattle.zjute.specs.WatchNumbers.{mode_of, type_of}
use Rattle.zrequests.specs.Asking.{path_in}
use Rattle.zwatches.specs.declared.changes.event.Event.{Event}
use Rattle.zwatches.specs.changes.Events.{events_of}
use Rattle.zwatches.specs.changes.Laws.{data_at, children_at}
use Rattle.zresponses.specs.Stats.{long_of}
use Rattle.zresponses.specs.Stats as zxids
use Rattle.zresponses.specs.declared.answer.Answer.{Answer}
use Rattle.zprotocol.specs.world.PlainTree.{serve}
use Rattle.ztree_service.specs.log.Logs.{Log, calls_of, tree_after}
use Rattle.zconnections.specs.buffers.Streams.{phase_of}
use Rattle.zconnections.specs.declared.buffers.phase.Phase.TheVariants.{Silent, Speaking}
use Rattle.zwatches.specs.declared.kind.Kind.{Kind}
use Rattle.zwatches.specs.declared.kind.Kind.TheVariants.{Data, Missing, Children, EachData, EachChildren, Recursive}
use Rattle.zwatches.specs.declared.watch.Watch.{Watch}
use Rattle.zwatches.specs.Watches.{fires_once, place, watch, watch_cmp}
use Rattle.zwatches.specs.Laws.{is_below}
use Rattle.zwatches.specs.Events.{fires, is_at}
use Rattle.zconnections.specs.Tables.{TablesView, closed, is_open, sent}
use Rattle.zconnections.specs.Reporting.{event_frame, reported}
use Rattle.zresponses.specs.effects.Frames.{answer_frame, response_frame}
use Rattle.zresponses.specs.effects.Watching.{unwatched, waiting}

-- the base from which zxids are told, the tree at the start, the log of answered calls, the tables,
-- and the nodes that existed when each watch was set. For a watch that stays, a node of which it was
-- told is there as it was then
pub record Scene : Type 0 where
  pub base : ℕ
  pub start : Tree
  pub log : Log
  pub set_at : Watch → Nodes
  pub tables : TablesView

-- the tree after the log
abbrev pub tree_of : Scene → Tree
tree_of s = tree_after s.start (calls_of s.log)

-- A call is answered. An event is sent to the watches that it fires. A watch is set. Watches of a
-- connection are removed. A re-registered watch gets the event that it missed. A request is
-- answered. A connect request is answered. A word is answered and its connection closed. A
-- connection is closed. Connections and sessions change otherwise
pub data Happening : Type 0 where
  Served : Call → Reply → Happening
  Fired : Event → Happening
  Set : ℕ → Kind → Path → Happening
  Dropped : ℕ → WatchType → Path → Happening
  Missed : ℕ → Event → Happening
  Answered : ℕ → ℤ → Answer → Happening
  Greeted : ℕ → ConnectRequest → ℤ → ℤ → List ℕ → Happening
  Said : ℕ → List ℕ → Happening
  Closed : ℕ → Happening
  Moved : TablesView → Happening

-- the nodes at the setting of each watch, after one is set; a watch already set is unchanged
abbrev pub set_now : Watch → Scene → Watch → Nodes
set_now w s other =
    if eq_by_cmp watch_cmp other w && not (contains s.tables.watches w) then (tree_of s).nodes else s.set_at other

-- these nodes, with the one at the path as it is now
abbrev pub with_node : Nodes → Path → Nodes → Nodes
with_node now path before = option_map_or (λ n. insert before path n) (get now path) (remove before path)

abbrev pub is_creation : EventKind → Bool
is_creation NodeCreated = true
is_creation other = false

-- the event makes a node for a persistent watch of its children: there are none to tell of yet
abbrev pub makes : Event → Watch → Bool
makes e w = is_creation e.kind && is_at (place e.path EachChildren) w

-- the watch stays, and was told of the node at the event's path
abbrev pub is_told : Event → Watch → Bool
is_told e w = not (fires_once w.kind) && (fires e.kind e.path w || makes e w)

-- the nodes that a watch knows after an event is sent, from those that it knew before
abbrev pub told : Nodes → Event → Watch → Nodes → Nodes
told now e w before = if is_told e w then with_node now e.path before else before

-- the same of each watch of a scene
abbrev pub told_now : Event → Scene → Watch → Nodes
told_now e s w = told (tree_of s).nodes e w (s.set_at w)

-- the effect of a happening on a scene
abbrev pub after : Happening → Scene → Scene
after (Served call reply) s = record s { log = s.log ++ (call, reply) ∷ [] }
after (Fired e) s = record s { set_at = told_now e s; tables = reported e s.tables }
after (Set c kind path) s = record s { set_at = set_now (watch path kind c) s; tables = waiting c kind path s.tables }
after (Dropped c type path) s = record s { tables = unwatched c type path s.tables }
after (Missed c e) s = record s { tables = sent c (event_frame e) s.tables }
after (Answered c xid answer) s = record s { tables = sent c (answer_frame (zxids.told s.base (tree_of s).zxid) xid answer) s.tables }
after (Greeted c greeting timeout session password) s =
    record s { tables = sent c (response_frame greeting timeout session password) s.tables }
after (Said c bytes) s = record s { tables = closed c (sent c bytes s.tables) }
after (Closed c) s = record s { tables = closed c s.tables }
after (Moved t) s = record s { tables = t }

-- the watch is set
abbrev pub Stands : Scene → Watch → Type 0
Stands s w = contains s.tables.watches w ≡ true

-- What a watch of this kind waits for is the same at the path. That is the node without its
-- children, or when its children last changed, or all nodes from there on without their children
abbrev pub IsSameAt : Kind → Path → Nodes → Nodes → Type 0
IsSameAt Data path before now = data_at now path ≡ data_at before path
IsSameAt Missing path before now = data_at now path ≡ data_at before path
IsSameAt Children path before now = children_at now path ≡ children_at before path
IsSameAt EachData path before now = data_at now path ≡ data_at before path
IsSameAt EachChildren path before now = children_at now path ≡ children_at before path
IsSameAt Recursive path before now = (below : Path) → is_below path below ≡ true → data_at now below ≡ data_at before below

-- nothing has changed for the watch since it was set, or since it was told
abbrev pub IsUnchanged : Scene → Watch → Type 0
IsUnchanged s w = IsSameAt w.kind w.path (s.set_at w) (tree_of s).nodes

-- no watch of the connection has missed a change
abbrev pub HasReportedAll : Scene → ℕ → Type 0
HasReportedAll s c = (w : Watch) → Stands s w → w.connection ≡ c → IsUnchanged s w

-- the event is one of the last update
abbrev pub IsOfTheLast : Scene → Event → Type 0
IsOfTheLast s e =
    (log : Log) × (update : Act) × (reply : Reply) × (s.log ≡ log ++ (Update update, reply) ∷ []) × Among e (events_of update reply)

-- the last update is a multi: one part may create a node that another part deletes
abbrev pub IsMulti : Scene → Type 0
IsMulti s = (log : Log) × (parts : List Part) × (reply : Reply) × (s.log ≡ log ++ (Update (Multi parts), reply) ∷ [])

-- a watch of this kind may have several changes in one multi, or one that is undone in it: it waits
-- for a creation, or stays
abbrev pub takes_more : Kind → Bool
takes_more Data = false
takes_more Missing = true
takes_more Children = false
takes_more EachData = true
takes_more EachChildren = true
takes_more Recursive = true

-- something has changed for the watch since it was set, or since it was told; or it takes more, and
-- the last update is a multi
abbrev pub HasChanged : Scene → Watch → Type 0
HasChanged s w = (IsUnchanged s w → ⊥) ⊎ ((takes_more w.kind ≡ true) × IsMulti s)

-- something has changed for each watch that the event fires
abbrev pub FiresChanged : Scene → Event → Type 0
FiresChanged s e = (w : Watch) → Stands s w → fires e.kind e.path w ≡ true → HasChanged s w

-- the event is a deletion, and no node is at its path
abbrev pub IsGone : Scene → Event → Type 0
IsGone s e = (e.kind ≡ NodeDeleted) × (get (tree_of s).nodes e.path ≡ None)

-- the children of the node at the path changed in the last change of the tree
abbrev pub LostChild : Scene → Event → Type 0
LostChild s e = (e.kind ≡ NodeChildrenChanged) × (children_at (tree_of s).nodes e.path ≡ Some (tree_of s).zxid)

-- watches, their limits and queued chunks are unchanged, and no open connection is closed
pub record IsMoved (old new : TablesView) : Type 0 where
  pub watches : new.watches ≡ old.watches
  pub limits : new.limits ≡ old.limits
  pub unsent : new.unsent ≡ old.unsent
  pub opens : (c : ℕ) → is_open old c ≡ true → is_open new c ≡ true

-- the session of the connection was closed just now; the answer shows no node, and the connection
-- is closed after it
abbrev pub IsClose : Scene → ℕ → Type 0
IsClose s c =
    (log : Log) × (session : ℕ) × (s.log ≡ log ++ (Update (Close session), reply.Closed) ∷ [])
    × (phase_of s.tables.streams c ≡ Some (Speaking session))

-- one of these texts is the path's
abbrev pub Names : List (List ℕ) → Path → Type 0
Names texts path = (text : List ℕ) × Among text texts × (path_in (Some text) ≡ Ok path)

-- the node at the path exists, and this zxid of it is above the one that the client has seen
abbrev pub IsNewer : ℤ → (Node → ℕ) → Nodes → Path → Type 0
IsNewer seen zxid nodes path = (n : Node) × (get nodes path ≡ Some n) × (int_lt seen (long_of (zxid n)) ≡ true)

-- which events a client has missed when it re-registers these watches, where the tree has these
-- nodes. A data watch missed that its node is gone, or was written since. A watch for a creation
-- missed that its node exists. A child watch missed that its node is gone, or that its children
-- changed since. "Since" means after the zxid that the request names
abbrev pub IsMissed : SetWatches → Nodes → EventKind → Path → Type 0
IsMissed set nodes NodeDeleted path = (Names set.data_watches path ⊎ Names set.child_watches path) × (get nodes path ≡ None)
IsMissed set nodes NodeCreated path = Names set.exist_watches path × (has_node nodes path ≡ true)
IsMissed set nodes NodeDataChanged path = Names set.data_watches path × IsNewer set.relative_zxid (λ n. n.mzxid) nodes path
IsMissed set nodes NodeChildrenChanged path = Names set.child_watches path × IsNewer set.relative_zxid (λ n. n.pzxid) nodes path
IsMissed set nodes other path = ⊥

-- which requests connections have in a step
abbrev pub Asking : Type 1
Asking = ℕ → Asked → Type 0

-- the connection has a request that re-registers these watches
abbrev pub Renews : Asking → ℕ → SetWatches → Type 0
Renews Asks c set =
    Asks c (asked.SetWatches set) ⊎ ((all : SetWatches2) × Asks c (asked.SetWatches2 all) × (all.watches ≡ set))

-- the paths of re-registered watches that stay
abbrev pub texts_of : AddMode → SetWatches2 → List (List ℕ)
texts_of mode.Persistent all = all.persistent_watches
texts_of mode.Recursive all = all.recursive_watches

-- the connection has a request that adds a watch of this mode at this path, or re-registers one
abbrev pub Adds : Asking → ℕ → AddMode → Path → Type 0
Adds Asks c added path =
    ((add : AddWatch) × Asks c (asked.AddWatch add) × (mode_of add.mode ≡ Some added) × (path_in add.path ≡ Ok path))
    ⊎ ((all : SetWatches2) × Asks c (asked.SetWatches2 all) × Names (texts_of added all) path)

-- the connection has a request that removes its watches of this type at this path
abbrev pub Removes : Asking → ℕ → WatchType → Path → Type 0
Removes Asks c type path =
    (at : WatchesAt) × Asks c (asked.RemoveWatches at) × (type_of at.kind ≡ Some type) × (path_in at.path ≡ Ok path)

-- where a watch of this kind may be set: where its node exists, or where it doesn't, or wherever its
-- connection asks for it
abbrev pub MaySet : Asking → ℕ → Kind → Path → Nodes → Type 0
MaySet Asks c Data path nodes = has_node nodes path ≡ true
MaySet Asks c Missing path nodes = has_node nodes path ≡ false
MaySet Asks c Children path nodes = has_node nodes path ≡ true
MaySet Asks c EachData path nodes = Adds Asks c mode.Persistent path
MaySet Asks c EachChildren path nodes = Adds Asks c mode.Persistent path
MaySet Asks c Recursive path nodes = Adds Asks c mode.Recursive path

-- when each happening is allowed. A reply is the tree's. An event has a cause, and fires watches
-- with a change. A watch is set where its node exists, or where it doesn't, or is asked for. Watches
-- are removed by a request of their own connection. A missed event goes to a connection that
-- re-registers its watch. A connection gets an answer only if no watch of it has missed a change. A
-- word is answered where nothing was read yet, so that connection has no watch
abbrev pub May : Asking → Happening → Scene → Type 0
May Asks (Served call reply) s = reply ≡ (serve (tree_of s) 0 call).1
May Asks (Fired e) s = ((IsOfTheLast s e ⊎ IsGone s e) × FiresChanged s e) ⊎ LostChild s e
May Asks (Set c kind path) s = MaySet Asks c kind path (tree_of s).nodes
May Asks (Dropped c type path) s = Removes Asks c type path
May Asks (Missed c e) s = (set : SetWatches) × Renews Asks c set × IsMissed set (tree_of s).nodes e.kind e.path
May Asks (Answered c xid answer) s = HasReportedAll s c ⊎ IsClose s c
May Asks (Greeted c greeting timeout session password) s = Unit {0}
May Asks (Said c bytes) s = phase_of s.tables.streams c ≡ Some Silent
May Asks (Closed c) s = Unit {0}
May Asks (Moved t) s = IsMoved s.tables t

-- happenings in order, each allowed
abbrev pub Happens : Asking → List Happening → Scene → Scene → Type 0
Happens Asks [] s t = t ≡ s
Happens Asks (h ∷ hs) s t = May Asks h s × Happens Asks hs (after h s) t
