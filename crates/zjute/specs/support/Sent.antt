-- What is sent, field by field. kazoo 2.8.0 reads each as it is stated here.
use Rattle.std.specs.Prelude.{pos, ℕ, List, [], ◌∷◌, Option, Some, None, Bool}
use Rattle.zjute.specs.declared.code.Code.{Code}
use Rattle.zjute.specs.declared.code.Code.TheVariants as code
use Rattle.zjute.specs.declared.connecting.ConnectResponse.{ConnectResponse}
use Rattle.zjute.specs.declared.event.EventKind.TheVariants as event
use Rattle.zjute.specs.declared.event.KeeperState.TheVariants as state
use Rattle.zjute.specs.declared.event.WatcherEvent.{WatcherEvent}
use Rattle.zjute.specs.declared.reply.PartResult.TheVariants as result
use Rattle.zjute.specs.declared.reply.Body.{Body}
use Rattle.zjute.specs.declared.reply.Body.TheVariants as body
use Rattle.zjute.specs.declared.reply.Reply.{Reply}
use Rattle.zjute.specs.declared.stat.StatRecord.{StatRecord}
use Rattle.zjute.specs.support.Kazoo.{slash_a, hi, world, anyone, open_acls, no_password}

abbrev pub some_stat : StatRecord
some_stat = record { czxid = pos 1; mzxid = pos 2; ctime = pos 3; mtime = pos 4; version = pos 5; cversion = pos 6; aversion = pos 7; ephemeral_owner = pos 8; data_length = pos 9; num_children = pos 10; pzxid = pos 11 }

abbrev pub stat_bytes : List ℕ
stat_bytes =
    0 ∷ 0 ∷ 0 ∷ 0 ∷ 0 ∷ 0 ∷ 0 ∷ 1 ∷  -- czxid 1
    0 ∷ 0 ∷ 0 ∷ 0 ∷ 0 ∷ 0 ∷ 0 ∷ 2 ∷  -- mzxid 2
    0 ∷ 0 ∷ 0 ∷ 0 ∷ 0 ∷ 0 ∷ 0 ∷ 3 ∷  -- ctime 3
    0 ∷ 0 ∷ 0 ∷ 0 ∷ 0 ∷ 0 ∷ 0 ∷ 4 ∷  -- mtime 4
    0 ∷ 0 ∷ 0 ∷ 5 ∷  -- version 5
    0 ∷ 0 ∷ 0 ∷ 6 ∷  -- cversion 6
    0 ∷ 0 ∷ 0 ∷ 7 ∷  -- aversion 7
    0 ∷ 0 ∷ 0 ∷ 0 ∷ 0 ∷ 0 ∷ 0 ∷ 8 ∷  -- ephemeralOwner 8
    0 ∷ 0 ∷ 0 ∷ 9 ∷  -- dataLength 9
    0 ∷ 0 ∷ 0 ∷ 10 ∷  -- numChildren 10
    0 ∷ 0 ∷ 0 ∷ 0 ∷ 0 ∷ 0 ∷ 0 ∷ 11 ∷  -- pzxid 11
    []

-- after the zxid 9
abbrev pub answer : ℕ → Code → Body → Reply
answer xid c b = record { xid = pos xid; zxid = pos 9; code = c; body = b }

-- a create was done, and /a is the path
abbrev pub created_bytes : List ℕ
created_bytes =
    0 ∷ 0 ∷ 0 ∷ 7 ∷  -- xid 7
    0 ∷ 0 ∷ 0 ∷ 0 ∷ 0 ∷ 0 ∷ 0 ∷ 9 ∷  -- zxid 9
    0 ∷ 0 ∷ 0 ∷ 0 ∷  -- code 0: ok
    0 ∷ 0 ∷ 0 ∷ 2 ∷ 47 ∷ 97 ∷  -- path /a
    []

abbrev pub created : Reply
created = answer 7 code.Ok (body.Path slash_a)

-- there is no such node
abbrev pub refused_bytes : List ℕ
refused_bytes =
    0 ∷ 0 ∷ 0 ∷ 8 ∷  -- xid 8
    0 ∷ 0 ∷ 0 ∷ 0 ∷ 0 ∷ 0 ∷ 0 ∷ 9 ∷  -- zxid 9
    255 ∷ 255 ∷ 255 ∷ 155 ∷  -- code -101: NoNode
    []

abbrev pub refused : Reply
refused = answer 8 code.NoNode body.Nothing

-- the data "hi" and the stat
abbrev pub reported_data_bytes : List ℕ
reported_data_bytes =
    0 ∷ 0 ∷ 0 ∷ 10 ∷  -- xid 10
    0 ∷ 0 ∷ 0 ∷ 0 ∷ 0 ∷ 0 ∷ 0 ∷ 9 ∷  -- zxid 9
    0 ∷ 0 ∷ 0 ∷ 0 ∷  -- code 0: ok
    0 ∷ 0 ∷ 0 ∷ 2 ∷ 104 ∷ 105 ∷  -- data "hi"
    0 ∷ 0 ∷ 0 ∷ 0 ∷ 0 ∷ 0 ∷ 0 ∷ 1 ∷  -- czxid 1
    0 ∷ 0 ∷ 0 ∷ 0 ∷ 0 ∷ 0 ∷ 0 ∷ 2 ∷  -- mzxid 2
    0 ∷ 0 ∷ 0 ∷ 0 ∷ 0 ∷ 0 ∷ 0 ∷ 3 ∷  -- ctime 3
    0 ∷ 0 ∷ 0 ∷ 0 ∷ 0 ∷ 0 ∷ 0 ∷ 4 ∷  -- mtime 4
    0 ∷ 0 ∷ 0 ∷ 5 ∷  -- version 5
    0 ∷ 0 ∷ 0 ∷ 6 ∷  -- cversion 6
    0 ∷ 0 ∷ 0 ∷ 7 ∷  -- aversion 7
    0 ∷ 0 ∷ 0 ∷ 0 ∷ 0 ∷ 0 ∷ 0 ∷ 8 ∷  -- ephemeralOwner 8
    0 ∷ 0 ∷ 0 ∷ 9 ∷  -- dataLength 9
    0 ∷ 0 ∷ 0 ∷ 10 ∷  -- numChildren 10
    0 ∷ 0 ∷ 0 ∷ 0 ∷ 0 ∷ 0 ∷ 0 ∷ 11 ∷  -- pzxid 11
    []

abbrev pub reported_data : Reply
reported_data = answer 10 code.Ok (body.DataStat (Some hi) some_stat)

-- null data and the stat
abbrev pub reported_null_bytes : List ℕ
reported_null_bytes =
    0 ∷ 0 ∷ 0 ∷ 10 ∷  -- xid 10
    0 ∷ 0 ∷ 0 ∷ 0 ∷ 0 ∷ 0 ∷ 0 ∷ 9 ∷  -- zxid 9
    0 ∷ 0 ∷ 0 ∷ 0 ∷  -- code 0: ok
    255 ∷ 255 ∷ 255 ∷ 255 ∷  -- data: null
    0 ∷ 0 ∷ 0 ∷ 0 ∷ 0 ∷ 0 ∷ 0 ∷ 1 ∷  -- czxid 1
    0 ∷ 0 ∷ 0 ∷ 0 ∷ 0 ∷ 0 ∷ 0 ∷ 2 ∷  -- mzxid 2
    0 ∷ 0 ∷ 0 ∷ 0 ∷ 0 ∷ 0 ∷ 0 ∷ 3 ∷  -- ctime 3
    0 ∷ 0 ∷ 0 ∷ 0 ∷ 0 ∷ 0 ∷ 0 ∷ 4 ∷  -- mtime 4
    0 ∷ 0 ∷ 0 ∷ 5 ∷  -- version 5
    0 ∷ 0 ∷ 0 ∷ 6 ∷  -- cversion 6
    0 ∷ 0 ∷ 0 ∷ 7 ∷  -- aversion 7
    0 ∷ 0 ∷ 0 ∷ 0 ∷ 0 ∷ 0 ∷ 0 ∷ 8 ∷  -- ephemeralOwner 8
    0 ∷ 0 ∷ 0 ∷ 9 ∷  -- dataLength 9
    0 ∷ 0 ∷ 0 ∷ 10 ∷  -- numChildren 10
    0 ∷ 0 ∷ 0 ∷ 0 ∷ 0 ∷ 0 ∷ 0 ∷ 11 ∷  -- pzxid 11
    []

abbrev pub reported_null : Reply
reported_null = answer 10 code.Ok (body.DataStat None some_stat)

-- the names "a" and "hi" of children
abbrev pub reported_names_bytes : List ℕ
reported_names_bytes =
    0 ∷ 0 ∷ 0 ∷ 14 ∷  -- xid 14
    0 ∷ 0 ∷ 0 ∷ 0 ∷ 0 ∷ 0 ∷ 0 ∷ 9 ∷  -- zxid 9
    0 ∷ 0 ∷ 0 ∷ 0 ∷  -- code 0: ok
    0 ∷ 0 ∷ 0 ∷ 2 ∷  -- two names
    0 ∷ 0 ∷ 0 ∷ 1 ∷ 97 ∷  -- "a"
    0 ∷ 0 ∷ 0 ∷ 2 ∷ 104 ∷ 105 ∷  -- "hi"
    []

abbrev pub reported_names : Reply
reported_names = answer 14 code.Ok (body.Names ((97 ∷ []) ∷ hi ∷ []))

-- a watch was added
abbrev pub watched_bytes : List ℕ
watched_bytes =
    0 ∷ 0 ∷ 0 ∷ 15 ∷  -- xid 15
    0 ∷ 0 ∷ 0 ∷ 0 ∷ 0 ∷ 0 ∷ 0 ∷ 9 ∷  -- zxid 9
    0 ∷ 0 ∷ 0 ∷ 0 ∷  -- code 0: ok
    0 ∷ 0 ∷ 0 ∷ 0 ∷  -- code 0 once more
    []

abbrev pub watched : Reply
watched = answer 15 code.Ok (body.Error code.Ok)

-- the open ACL and the stat
abbrev pub reported_acl_bytes : List ℕ
reported_acl_bytes =
    0 ∷ 0 ∷ 0 ∷ 12 ∷  -- xid 12
    0 ∷ 0 ∷ 0 ∷ 0 ∷ 0 ∷ 0 ∷ 0 ∷ 9 ∷  -- zxid 9
    0 ∷ 0 ∷ 0 ∷ 0 ∷  -- code 0: ok
    0 ∷ 0 ∷ 0 ∷ 1 ∷  -- one ACL
    0 ∷ 0 ∷ 0 ∷ 31 ∷  -- its permissions: all
    0 ∷ 0 ∷ 0 ∷ 5 ∷ 119 ∷ 111 ∷ 114 ∷ 108 ∷ 100 ∷  -- its scheme: world
    0 ∷ 0 ∷ 0 ∷ 6 ∷ 97 ∷ 110 ∷ 121 ∷ 111 ∷ 110 ∷ 101 ∷  -- its id: anyone
    0 ∷ 0 ∷ 0 ∷ 0 ∷ 0 ∷ 0 ∷ 0 ∷ 1 ∷  -- czxid 1
    0 ∷ 0 ∷ 0 ∷ 0 ∷ 0 ∷ 0 ∷ 0 ∷ 2 ∷  -- mzxid 2
    0 ∷ 0 ∷ 0 ∷ 0 ∷ 0 ∷ 0 ∷ 0 ∷ 3 ∷  -- ctime 3
    0 ∷ 0 ∷ 0 ∷ 0 ∷ 0 ∷ 0 ∷ 0 ∷ 4 ∷  -- mtime 4
    0 ∷ 0 ∷ 0 ∷ 5 ∷  -- version 5
    0 ∷ 0 ∷ 0 ∷ 6 ∷  -- cversion 6
    0 ∷ 0 ∷ 0 ∷ 7 ∷  -- aversion 7
    0 ∷ 0 ∷ 0 ∷ 0 ∷ 0 ∷ 0 ∷ 0 ∷ 8 ∷  -- ephemeralOwner 8
    0 ∷ 0 ∷ 0 ∷ 9 ∷  -- dataLength 9
    0 ∷ 0 ∷ 0 ∷ 10 ∷  -- numChildren 10
    0 ∷ 0 ∷ 0 ∷ 0 ∷ 0 ∷ 0 ∷ 0 ∷ 11 ∷  -- pzxid 11
    []

abbrev pub reported_acl : Reply
reported_acl = answer 12 code.Ok (body.AclsStat open_acls some_stat)

-- a check was done, and then a delete
abbrev pub multi_done_bytes : List ℕ
multi_done_bytes =
    0 ∷ 0 ∷ 0 ∷ 17 ∷  -- xid 17
    0 ∷ 0 ∷ 0 ∷ 0 ∷ 0 ∷ 0 ∷ 0 ∷ 9 ∷  -- zxid 9
    0 ∷ 0 ∷ 0 ∷ 0 ∷  -- code 0: ok
    0 ∷ 0 ∷ 0 ∷ 13 ∷  -- kind 13: check
    0 ∷  -- not the end
    0 ∷ 0 ∷ 0 ∷ 0 ∷  -- code 0
    0 ∷ 0 ∷ 0 ∷ 2 ∷  -- kind 2: delete
    0 ∷  -- not the end
    0 ∷ 0 ∷ 0 ∷ 0 ∷  -- code 0
    255 ∷ 255 ∷ 255 ∷ 255 ∷  -- the last header: no kind
    1 ∷  -- the end
    255 ∷ 255 ∷ 255 ∷ 255 ∷  -- no code
    []

abbrev pub multi_done : Reply
multi_done = answer 17 code.Ok (body.Results (result.Check ∷ result.Delete ∷ []))

-- the second of three parts was refused: there is no such node
abbrev pub multi_refused_bytes : List ℕ
multi_refused_bytes =
    0 ∷ 0 ∷ 0 ∷ 17 ∷  -- xid 17
    0 ∷ 0 ∷ 0 ∷ 0 ∷ 0 ∷ 0 ∷ 0 ∷ 9 ∷  -- zxid 9
    0 ∷ 0 ∷ 0 ∷ 0 ∷  -- code 0: ok
    255 ∷ 255 ∷ 255 ∷ 255 ∷  -- kind -1: error
    0 ∷  -- not the end
    0 ∷ 0 ∷ 0 ∷ 0 ∷  -- code 0
    0 ∷ 0 ∷ 0 ∷ 0 ∷  -- code 0: ok
    255 ∷ 255 ∷ 255 ∷ 255 ∷  -- kind -1: error
    0 ∷  -- not the end
    255 ∷ 255 ∷ 255 ∷ 155 ∷  -- code -101
    255 ∷ 255 ∷ 255 ∷ 155 ∷  -- code -101: NoNode
    255 ∷ 255 ∷ 255 ∷ 255 ∷  -- kind -1: error
    0 ∷  -- not the end
    255 ∷ 255 ∷ 255 ∷ 254 ∷  -- code -2
    255 ∷ 255 ∷ 255 ∷ 254 ∷  -- code -2: RuntimeInconsistency
    255 ∷ 255 ∷ 255 ∷ 255 ∷  -- the last header: no kind
    1 ∷  -- the end
    255 ∷ 255 ∷ 255 ∷ 255 ∷  -- no code
    []

abbrev pub multi_refused : Reply
multi_refused = answer 17 code.Ok (body.Results (result.Error code.Ok ∷ result.Error code.NoNode ∷ result.Error code.RuntimeInconsistency ∷ []))

-- a create, a create with its stat, and a write
abbrev pub multi_kinds_bytes : List ℕ
multi_kinds_bytes =
    0 ∷ 0 ∷ 0 ∷ 17 ∷  -- xid 17
    0 ∷ 0 ∷ 0 ∷ 0 ∷ 0 ∷ 0 ∷ 0 ∷ 9 ∷  -- zxid 9
    0 ∷ 0 ∷ 0 ∷ 0 ∷  -- code 0: ok
    0 ∷ 0 ∷ 0 ∷ 1 ∷  -- kind 1: create
    0 ∷  -- not the end
    0 ∷ 0 ∷ 0 ∷ 0 ∷  -- code 0
    0 ∷ 0 ∷ 0 ∷ 2 ∷ 47 ∷ 97 ∷  -- path /a
    0 ∷ 0 ∷ 0 ∷ 15 ∷  -- kind 15: create2
    0 ∷  -- not the end
    0 ∷ 0 ∷ 0 ∷ 0 ∷  -- code 0
    0 ∷ 0 ∷ 0 ∷ 2 ∷ 47 ∷ 97 ∷  -- path /a
    0 ∷ 0 ∷ 0 ∷ 0 ∷ 0 ∷ 0 ∷ 0 ∷ 1 ∷  -- czxid 1
    0 ∷ 0 ∷ 0 ∷ 0 ∷ 0 ∷ 0 ∷ 0 ∷ 2 ∷  -- mzxid 2
    0 ∷ 0 ∷ 0 ∷ 0 ∷ 0 ∷ 0 ∷ 0 ∷ 3 ∷  -- ctime 3
    0 ∷ 0 ∷ 0 ∷ 0 ∷ 0 ∷ 0 ∷ 0 ∷ 4 ∷  -- mtime 4
    0 ∷ 0 ∷ 0 ∷ 5 ∷  -- version 5
    0 ∷ 0 ∷ 0 ∷ 6 ∷  -- cversion 6
    0 ∷ 0 ∷ 0 ∷ 7 ∷  -- aversion 7
    0 ∷ 0 ∷ 0 ∷ 0 ∷ 0 ∷ 0 ∷ 0 ∷ 8 ∷  -- ephemeralOwner 8
    0 ∷ 0 ∷ 0 ∷ 9 ∷  -- dataLength 9
    0 ∷ 0 ∷ 0 ∷ 10 ∷  -- numChildren 10
    0 ∷ 0 ∷ 0 ∷ 0 ∷ 0 ∷ 0 ∷ 0 ∷ 11 ∷  -- pzxid 11
    0 ∷ 0 ∷ 0 ∷ 5 ∷  -- kind 5: setData
    0 ∷  -- not the end
    0 ∷ 0 ∷ 0 ∷ 0 ∷  -- code 0
    0 ∷ 0 ∷ 0 ∷ 0 ∷ 0 ∷ 0 ∷ 0 ∷ 1 ∷  -- czxid 1
    0 ∷ 0 ∷ 0 ∷ 0 ∷ 0 ∷ 0 ∷ 0 ∷ 2 ∷  -- mzxid 2
    0 ∷ 0 ∷ 0 ∷ 0 ∷ 0 ∷ 0 ∷ 0 ∷ 3 ∷  -- ctime 3
    0 ∷ 0 ∷ 0 ∷ 0 ∷ 0 ∷ 0 ∷ 0 ∷ 4 ∷  -- mtime 4
    0 ∷ 0 ∷ 0 ∷ 5 ∷  -- version 5
    0 ∷ 0 ∷ 0 ∷ 6 ∷  -- cversion 6
    0 ∷ 0 ∷ 0 ∷ 7 ∷  -- aversion 7
    0 ∷ 0 ∷ 0 ∷ 0 ∷ 0 ∷ 0 ∷ 0 ∷ 8 ∷  -- ephemeralOwner 8
    0 ∷ 0 ∷ 0 ∷ 9 ∷  -- dataLength 9
    0 ∷ 0 ∷ 0 ∷ 10 ∷  -- numChildren 10
    0 ∷ 0 ∷ 0 ∷ 0 ∷ 0 ∷ 0 ∷ 0 ∷ 11 ∷  -- pzxid 11
    255 ∷ 255 ∷ 255 ∷ 255 ∷  -- the last header: no kind
    1 ∷  -- the end
    255 ∷ 255 ∷ 255 ∷ 255 ∷  -- no code
    []

abbrev pub multi_kinds : Reply
multi_kinds = answer 17 code.Ok (body.Results (result.Create slash_a ∷ result.Create2 slash_a some_stat ∷ result.SetData some_stat ∷ []))

-- the data of /a was written
abbrev pub event_bytes : List ℕ
event_bytes =
    255 ∷ 255 ∷ 255 ∷ 255 ∷  -- xid -1
    255 ∷ 255 ∷ 255 ∷ 255 ∷ 255 ∷ 255 ∷ 255 ∷ 255 ∷  -- zxid -1
    0 ∷ 0 ∷ 0 ∷ 0 ∷  -- code 0: ok
    0 ∷ 0 ∷ 0 ∷ 3 ∷  -- type 3: NodeDataChanged
    0 ∷ 0 ∷ 0 ∷ 3 ∷  -- state 3: SyncConnected
    0 ∷ 0 ∷ 0 ∷ 2 ∷ 47 ∷ 97 ∷  -- path /a
    []

abbrev pub data_changed : WatcherEvent
data_changed = record { kind = event.NodeDataChanged; state = state.SyncConnected; path = slash_a }

-- the answer to the first frame, without its last byte
abbrev pub connected_front : List ℕ → List ℕ
connected_front last =
    0 ∷ 0 ∷ 0 ∷ 0 ∷  -- protocol 0
    0 ∷ 0 ∷ 39 ∷ 16 ∷  -- timeout: 10,000 ms
    0 ∷ 0 ∷ 0 ∷ 0 ∷ 0 ∷ 18 ∷ 52 ∷ 86 ∷  -- session 1193046
    0 ∷ 0 ∷ 0 ∷ 16 ∷ 0 ∷ 0 ∷ 0 ∷ 0 ∷ 0 ∷ 0 ∷ 0 ∷ 0 ∷ 0 ∷ 0 ∷ 0 ∷ 0 ∷ 0 ∷ 0 ∷ 0 ∷ 0 ∷  -- password of 16 bytes
    last

abbrev pub connected : Option Bool → ConnectResponse
connected read_only = record { protocol_version = pos 0; timeout = pos 10000; session_id = pos 1193046; password = no_password; read_only = read_only }

-- five nodes are below the path
abbrev pub counted_bytes : List ℕ
counted_bytes =
    0 ∷ 0 ∷ 0 ∷ 31 ∷  -- xid 31
    0 ∷ 0 ∷ 0 ∷ 0 ∷ 0 ∷ 0 ∷ 0 ∷ 9 ∷  -- zxid 9
    0 ∷ 0 ∷ 0 ∷ 0 ∷  -- code 0: ok
    0 ∷ 0 ∷ 0 ∷ 5 ∷  -- the number 5
    []

abbrev pub counted : Reply
counted = answer 31 code.Ok (body.Number (pos 5))

-- the client is world:anyone
abbrev pub named_bytes : List ℕ
named_bytes =
    0 ∷ 0 ∷ 0 ∷ 32 ∷  -- xid 32
    0 ∷ 0 ∷ 0 ∷ 0 ∷ 0 ∷ 0 ∷ 0 ∷ 9 ∷  -- zxid 9
    0 ∷ 0 ∷ 0 ∷ 0 ∷  -- code 0: ok
    0 ∷ 0 ∷ 0 ∷ 1 ∷  -- one client
    0 ∷ 0 ∷ 0 ∷ 5 ∷ 119 ∷ 111 ∷ 114 ∷ 108 ∷ 100 ∷  -- its scheme: world
    0 ∷ 0 ∷ 0 ∷ 6 ∷ 97 ∷ 110 ∷ 121 ∷ 111 ∷ 110 ∷ 101 ∷  -- its id: anyone
    []

abbrev pub named : Reply
named = answer 32 code.Ok (body.Client world anyone)

-- a token of SASL has no answer
abbrev pub no_token_bytes : List ℕ
no_token_bytes =
    0 ∷ 0 ∷ 0 ∷ 29 ∷  -- xid 29
    0 ∷ 0 ∷ 0 ∷ 0 ∷ 0 ∷ 0 ∷ 0 ∷ 9 ∷  -- zxid 9
    0 ∷ 0 ∷ 0 ∷ 0 ∷  -- code 0: ok
    255 ∷ 255 ∷ 255 ∷ 255 ∷  -- token: null
    []

abbrev pub no_token : Reply
no_token = answer 29 code.Ok body.NoToken
