-- The state of a front end for ZooKeeper's clients, and the effect of its calls: one tree, and the
-- tables of its connections. The sources are the ZooKeeper Programmer's Guide, "ZooKeeper Sessions"
-- and "ZooKeeper Watches".
use Rattle.std.specs.Prelude.{ℕ, Bool, true, false, ◌||◌, nat_lt, List, [], ◌∷◌, ◌++◌, map, if◌then◌else◌}
use Rattle.std.specs.FinMap.{keys, from_entries}
use Rattle.std.specs.List.{filter, list_any, flat_map}
use Rattle.zpath.specs.Grammar.{path_cmp}
use Rattle.ztree.specs.Tree.{Path, Tree, parent_of}
use Rattle.zcalls.specs.declared.call.Call.{Call}
use Rattle.zcalls.specs.declared.call.Call.TheVariants as call
use Rattle.zcalls.specs.declared.call.Query.TheVariants.{Exists}
use Rattle.zcalls.specs.declared.call.Update.{Update}
use Rattle.zcalls.specs.declared.call.Update.TheVariants as act
use Rattle.zcalls.specs.declared.reply.Reply.{Reply}
use Rattle.zcalls.specs.declared.reply.Reply.TheVariants as reply
use Rattle.zcalls.specs.Step.{query_reply, due_next, stale_next}
use Rattle.zresponses.specs.declared.clock.Clock.{Clock}
use Rattle.ztree_service.specs.Sizes.{owned_by}
use Rattle.ztree_service.specs.log.Logs.{served, tree_after}
use Rattle.zjute.specs.declared.event.EventKind.TheVariants.{NodeDeleted}
use Rattle.zwatches.specs.Events.{is_awaited}
use Rattle.zconnections.specs.Tables.{TablesView}
use Rattle.zconnections.specs.Reporting.{reported_all}
use Rattle.zconnections.specs.Sweeping.{is_gone, swept_all, some_made_one}
use Rattle.zresponses.specs.effects.Looking.{seen}

-- the tree, the tables, whether updates are recorded and those not yet taken, the secret of
-- passwords, and the conversion of ticks to times
pub record FrontView : Type 0 where
  pub tree : Tree
  pub tables : TablesView
  pub is_kept : Bool
  pub made : List Update
  pub secret : List ℕ
  pub clock : Clock

-- the same with these tables
abbrev pub with_tables : TablesView → FrontView → FrontView
with_tables t v = record v { tables = t }

-- ---- calls

-- the updates among the calls, in order
abbrev pub updates_among : List Call → List Update
updates_among [] = []
updates_among (call.Update update ∷ calls) = update ∷ updates_among calls
updates_among (call.Query query ∷ calls) = updates_among calls

-- the updates of these calls that are recorded
abbrev pub left_of : Bool → List Call → List Update
left_of is_kept calls = if is_kept then updates_among calls else []

-- calls are made in order: the tree after them, and their recorded updates
abbrev pub asked : List Call → FrontView → FrontView
asked calls v = record v { tree = tree_after v.tree calls; made = v.made ++ left_of v.is_kept calls }

-- the replies to these calls
abbrev pub replies_to : List Call → FrontView → List Reply
replies_to calls v = served v.tree calls

-- ---- ended sessions, and watched nodes deleted with them

-- the call may end sessions
abbrev pub may_end : Call → Bool
may_end (call.Update (act.Close session)) = true
may_end (call.Update act.Tick) = true
may_end other = false

-- the sessions that a call may end: the one that it closes, or those that are due at the next tick
abbrev pub ended_by : Tree → Call → List ℕ
ended_by t (call.Update (act.Close session)) = session ∷ []
ended_by t (call.Update act.Tick) = due_next t
ended_by t other = []

-- the nodes that a call removes as stale
abbrev pub stale_by : Tree → Call → List Path
stale_by t (call.Update act.Tick) = stale_next t
stale_by t other = []

-- the sessions that these calls may end, from the tree before them; a ping among them only puts off
-- an end
abbrev pub ending : List Call → Tree → List ℕ
ending calls t = flat_map (ended_by t) calls

-- the nodes that these calls may remove, from the tree before them: stale ones, and those of the
-- sessions that they may end
abbrev pub doomed : List Call → Tree → List Path
doomed calls t = flat_map (stale_by t) calls ++ flat_map (owned_by t) (ending calls t)

-- those of these sessions that the tree no longer has
abbrev pub gone_from : List ℕ → FrontView → List ℕ
gone_from ids v = filter (is_gone v.tree.sessions) ids

-- and they are removed
abbrev pub swept : List ℕ → FrontView → FrontView
swept ids v = with_tables (swept_all (gone_from ids v) v.tables) v

-- a tick deleted nodes
abbrev pub takes_nodes : Reply → Bool
takes_nodes (reply.Ticked time ended removed) = nat_lt 0 removed
takes_nodes reported = false

-- nodes may be gone that no reply names: a tick deleted them, or they went with one of these
-- sessions, which made an ephemeral node
abbrev pub took_unnamed : List Reply → List ℕ → FrontView → Bool
took_unnamed replies ids v = list_any takes_nodes replies || some_made_one v.tables.attachments (gone_from ids v)

-- these nodes and their parents, whose children change with them
abbrev pub with_parents : List Path → List Path
with_parents paths = paths ++ map parent_of paths

-- paths in order, each once
abbrev pub in_order : List Path → List Path
in_order paths = keys (from_entries {R = path_cmp} (map (λ path. (path, tt {0})) paths))

-- the nodes that these calls may remove, and their parents, where some watch waits for a deletion
abbrev pub watched : List Call → FrontView → List Path
watched calls v = in_order (filter (is_awaited v.tables.watches NodeDeleted) (with_parents (doomed calls v.tree)))

-- the reply to an exists query at each path
abbrev pub looks : Tree → List Path → List Reply
looks t paths = map (λ path. query_reply t (Exists path)) paths

-- these nodes existed before, and are checked: events are sent for those that are gone or lost a
-- child
abbrev pub looked : List Path → FrontView → FrontView
looked paths v = with_tables (reported_all (seen v.tree.zxid paths (looks v.tree paths)) v.tables) v

abbrev pub looked_if : Bool → List Path → FrontView → FrontView
looked_if false paths v = v
looked_if true paths v = looked paths v

-- after calls, if they may have ended sessions
abbrev pub tidied_if : Bool → List Reply → List ℕ → List Path → FrontView → FrontView
tidied_if false replies ids paths v = v
tidied_if true replies ids paths v = looked_if (took_unnamed replies ids v) paths (swept ids v)

-- after calls with these replies, which might end these sessions, where these nodes were watched
-- before
abbrev pub tidied : List Call → List Reply → List ℕ → List Path → FrontView → FrontView
tidied calls replies ids paths v = tidied_if (list_any may_end calls) replies ids paths v

-- the same after calls of this front
abbrev pub tidied_of : List Call → FrontView → FrontView → FrontView
tidied_of calls old v = tidied calls (replies_to calls old) (ending calls old.tree) (watched calls old) v
