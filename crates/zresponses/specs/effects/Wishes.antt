-- What a request asks for of the watches of its connection, from the replies to its calls. The
-- source is the ZooKeeper Programmer's Guide, "ZooKeeper Watches", zookeeper.jute (`SetWatches`), and
-- ZooKeeper 3.8 (`DataTree.addWatch` and `DataTree.setWatches`).
use Rattle.std.specs.Prelude.{ℤ, List, [], ◌∷◌, ◌++◌, length, take, drop, int_lt, Option, None, Some, if◌then◌else◌}
use Rattle.ztree.specs.Tree.{Path}
use Rattle.zcalls.specs.declared.call.Call.{Call}
use Rattle.zcalls.specs.declared.call.Call.TheVariants.{Query}
use Rattle.zcalls.specs.declared.call.Query.{Query as Question}
use Rattle.zcalls.specs.declared.call.Query.TheVariants as query
use Rattle.zcalls.specs.declared.reply.Reply.{Reply}
use Rattle.zcalls.specs.declared.reply.Reply.TheVariants as reply
use Rattle.zcalls.specs.declared.refusal.Refusal.TheVariants.{NoNode}
use Rattle.zjute.specs.declared.event.EventKind.TheVariants.{NodeCreated, NodeDeleted, NodeDataChanged, NodeChildrenChanged}
use Rattle.zjute.specs.declared.request.Asked.{Asked}
use Rattle.zjute.specs.declared.request.Asked.TheVariants as asked
use Rattle.zjute.specs.declared.request.Look.{Look}
use Rattle.zjute.specs.declared.request.SetWatches.{SetWatches}
use Rattle.zjute.specs.declared.request.SetWatches2.{SetWatches2}
use Rattle.zjute.specs.declared.watch_type.AddMode.{AddMode}
use Rattle.zjute.specs.declared.watch_type.AddMode.TheVariants.{Persistent, Recursive}
use Rattle.zjute.specs.declared.watch_type.WatchType.{WatchType}
use Rattle.zjute.specs.WatchNumbers.{mode_of, type_of}
use Rattle.zrequests.specs.Requests.{watched_in}
use Rattle.zwatches.specs.changes.Events.{event}
use Rattle.zresponses.specs.Stats.{long_of}
use Rattle.zwatches.specs.declared.kind.Kind.{Kind}
use Rattle.zwatches.specs.declared.kind.Kind.TheVariants.{Data, Missing, Children, EachData, EachChildren}
use Rattle.zwatches.specs.declared.kind.Kind.TheVariants.{Recursive as EachBelow}
use Rattle.zresponses.specs.declared.effects.wish.Wish.{Wish}
use Rattle.zresponses.specs.declared.effects.wish.Wish.TheVariants.{Waits, Reports, Has, Ends}

-- the watch of a query, from its reply; `exists` watches a node or waits for its creation, and
-- `getData` and `getChildren` watch an existing node
abbrev pub query_wish : Question → Reply → List Wish
query_wish (query.Exists path) (reply.Exists stat) = Waits Data path ∷ []
query_wish (query.Exists path) (reply.Refused NoNode) = Waits Missing path ∷ []
query_wish (query.GetData path) (reply.Data bytes stat) = Waits Data path ∷ []
query_wish (query.GetChildren path) (reply.Children names) = Waits Children path ∷ []
query_wish query reported = []

-- the watch of a request for one node: that of its first call
abbrev pub first_wish : List Call → List Reply → List Wish
first_wish (Query query ∷ calls) (reported ∷ replies) = query_wish query reported
first_wish calls replies = []

-- the watch of a request, if it asks for one
abbrev pub look_wish : Look → List Call → List Reply → List Wish
look_wish look calls replies = if look.watch then first_wish calls replies else []

-- a re-registered watch, from the zxid that its client has seen and the node's stat; if its event
-- happened meanwhile, the event is sent at once
abbrev pub wish_again : Kind → ℤ → Path → Reply → List Wish
wish_again Data seen path (reply.Exists stat) =
    (if int_lt seen (long_of stat.mzxid) then Reports (event NodeDataChanged path) else Waits Data path) ∷ []
wish_again Data seen path (reply.Refused NoNode) = Reports (event NodeDeleted path) ∷ []
wish_again Missing seen path (reply.Exists stat) = Reports (event NodeCreated path) ∷ []
wish_again Missing seen path (reply.Refused NoNode) = Waits Missing path ∷ []
wish_again Children seen path (reply.Exists stat) =
    (if int_lt seen (long_of stat.pzxid) then Reports (event NodeChildrenChanged path) else Waits Children path) ∷ []
wish_again Children seen path (reply.Refused NoNode) = Reports (event NodeDeleted path) ∷ []
wish_again kind seen path reported = []

-- the same from its call, which asks whether the node exists
abbrev pub call_again : Kind → ℤ → Call → Reply → List Wish
call_again kind seen (Query (query.Exists path)) reported = wish_again kind seen path reported
call_again kind seen call reported = []

-- the watches of one kind
abbrev pub wishes_again : Kind → ℤ → List Call → List Reply → List Wish
wishes_again kind seen (call ∷ calls) (reported ∷ replies) = call_again kind seen call reported ++ wishes_again kind seen calls replies
wishes_again kind seen calls replies = []

-- all of them: data watches first, then those for a creation, then child watches
abbrev pub all_again : SetWatches → List Call → List Reply → List Wish
all_again set calls replies =
    let data_count = length set.data_watches in
    let missing_count = length set.exist_watches in
    let seen = set.relative_zxid in
    wishes_again Data seen (take data_count calls) (take data_count replies)
    ++ (wishes_again Missing seen (take missing_count (drop data_count calls)) (take missing_count (drop data_count replies))
    ++ wishes_again Children seen (drop missing_count (drop data_count calls)) (drop missing_count (drop data_count replies)))

-- the path of a request that asks for one node
abbrev pub at_first : (Path → List Wish) → List Call → List Wish
at_first wished (Query (query.Exists path) ∷ calls) = wished path
at_first wished calls = []

-- a watch is added: a persistent one is of the data and of the children of its node
abbrev pub added : AddMode → Path → List Wish
added Persistent path = Waits EachData path ∷ Waits EachChildren path ∷ []
added Recursive path = Waits EachBelow path ∷ []

-- the added watch of a request
abbrev pub added_by : Option AddMode → List Call → List Wish
added_by None calls = []
added_by (Some mode) calls = at_first (added mode) calls

-- the watches of a request that checks whether there is one
abbrev pub checked_by : Option WatchType → List Call → List Wish
checked_by None calls = []
checked_by (Some type) calls = at_first (λ path. Has type path ∷ []) calls

-- the watches that a request removes
abbrev pub ended_by : Option WatchType → List Call → List Wish
ended_by None calls = []
ended_by (Some type) calls = at_first (λ path. Ends type path ∷ []) calls

-- the added watch of each call; a persistent watch that is re-registered has missed no event
abbrev pub all_added : AddMode → List Call → List Wish
all_added mode [] = []
all_added mode (call ∷ calls) = added_by (Some mode) (call ∷ []) ++ all_added mode calls

-- the watches of `SetWatches2`: those of its first three lists, then persistent ones, then recursive
-- ones
abbrev pub each_again : SetWatches2 → List Call → List Reply → List Wish
each_again set calls replies =
    let count = length (watched_in set.watches) in
    let persistent_count = length set.persistent_watches in
    all_again set.watches (take count calls) (take count replies)
    ++ (all_added Persistent (take persistent_count (drop count calls))
    ++ all_added Recursive (drop persistent_count (drop count calls)))

-- what a request asks for, from its calls and their replies
abbrev pub wishes : Asked → List Call → List Reply → List Wish
wishes (asked.Exists look) calls replies = look_wish look calls replies
wishes (asked.GetData look) calls replies = look_wish look calls replies
wishes (asked.GetChildren look) calls replies = look_wish look calls replies
wishes (asked.GetChildren2 look) calls replies = look_wish look calls replies
wishes (asked.SetWatches set) calls replies = all_again set calls replies
wishes (asked.SetWatches2 set) calls replies = each_again set calls replies
wishes (asked.AddWatch add) calls replies = added_by (mode_of add.mode) calls
wishes (asked.CheckWatches at) calls replies = checked_by (type_of at.kind) calls
wishes (asked.RemoveWatches at) calls replies = ended_by (type_of at.kind) calls
wishes other calls replies = []
