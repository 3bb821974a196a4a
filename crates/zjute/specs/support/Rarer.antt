-- What clients send that kazoo doesn't, by the records of zookeeper.jute, field by field.
use Rattle.std.specs.Prelude.{pos, ℕ, List, [], ◌∷◌, None, Some, false}
use Rattle.zjute.specs.declared.part.LookPart.TheVariants as look_part
use Rattle.zjute.specs.declared.part.PartRequest.TheVariants as part
use Rattle.zjute.specs.declared.request.Asked.TheVariants as asks
use Rattle.zjute.specs.declared.request.Request.{Request}
use Rattle.zjute.specs.Jute.{neg}
use Rattle.zjute.specs.support.Kazoo.{slash_a, hi, open_acls, asking}

-- a check of the version of /a (`CheckVersionRequest`)
abbrev pub check_bytes : List ℕ
check_bytes =
    0 ∷ 0 ∷ 0 ∷ 21 ∷  -- xid 21
    0 ∷ 0 ∷ 0 ∷ 13 ∷  -- type 13: check
    0 ∷ 0 ∷ 0 ∷ 2 ∷ 47 ∷ 97 ∷  -- path /a
    0 ∷ 0 ∷ 0 ∷ 7 ∷  -- version 7
    []

abbrev pub check_asked : Request
check_asked = asking 21 (asks.Check (record { path = Some slash_a; version = pos 7 }))

-- whether /a has a watch of data (`CheckWatchesRequest`)
abbrev pub check_watches_bytes : List ℕ
check_watches_bytes =
    0 ∷ 0 ∷ 0 ∷ 22 ∷  -- xid 22
    0 ∷ 0 ∷ 0 ∷ 17 ∷  -- type 17: checkWatches
    0 ∷ 0 ∷ 0 ∷ 2 ∷ 47 ∷ 97 ∷  -- path /a
    0 ∷ 0 ∷ 0 ∷ 2 ∷  -- kind 2: data
    []

abbrev pub check_watches_asked : Request
check_watches_asked = asking 22 (asks.CheckWatches (record { path = Some slash_a; kind = pos 2 }))

-- no watch of /a any more (`RemoveWatchesRequest`)
abbrev pub remove_watches_bytes : List ℕ
remove_watches_bytes =
    0 ∷ 0 ∷ 0 ∷ 23 ∷  -- xid 23
    0 ∷ 0 ∷ 0 ∷ 18 ∷  -- type 18: removeWatches
    0 ∷ 0 ∷ 0 ∷ 2 ∷ 47 ∷ 97 ∷  -- path /a
    0 ∷ 0 ∷ 0 ∷ 3 ∷  -- kind 3: any
    []

abbrev pub remove_watches_asked : Request
remove_watches_asked = asking 23 (asks.RemoveWatches (record { path = Some slash_a; kind = pos 3 }))

-- a create of /a for 60 seconds (`CreateTTLRequest`)
abbrev pub create_ttl_bytes : List ℕ
create_ttl_bytes =
    0 ∷ 0 ∷ 0 ∷ 24 ∷  -- xid 24
    0 ∷ 0 ∷ 0 ∷ 21 ∷  -- type 21: createTTL
    0 ∷ 0 ∷ 0 ∷ 2 ∷ 47 ∷ 97 ∷  -- path /a
    0 ∷ 0 ∷ 0 ∷ 2 ∷ 104 ∷ 105 ∷  -- data "hi"
    0 ∷ 0 ∷ 0 ∷ 1 ∷  -- one ACL
    0 ∷ 0 ∷ 0 ∷ 31 ∷  -- its permissions: all
    0 ∷ 0 ∷ 0 ∷ 5 ∷ 119 ∷ 111 ∷ 114 ∷ 108 ∷ 100 ∷  -- its scheme: world
    0 ∷ 0 ∷ 0 ∷ 6 ∷ 97 ∷ 110 ∷ 121 ∷ 111 ∷ 110 ∷ 101 ∷  -- its id: anyone
    0 ∷ 0 ∷ 0 ∷ 5 ∷  -- flags: persistent with TTL
    0 ∷ 0 ∷ 0 ∷ 0 ∷ 0 ∷ 0 ∷ 234 ∷ 96 ∷  -- TTL: 60,000 ms
    []

abbrev pub create_ttl_asked : Request
create_ttl_asked = asking 24 (asks.CreateTtl (record { create = record { path = Some slash_a; bytes = Some hi; acls = Some open_acls; flags = pos 5 }; ttl = pos 60000 }))

-- a create of the container /a (`CreateRequest`)
abbrev pub create_container_bytes : List ℕ
create_container_bytes =
    0 ∷ 0 ∷ 0 ∷ 28 ∷  -- xid 28
    0 ∷ 0 ∷ 0 ∷ 19 ∷  -- type 19: createContainer
    0 ∷ 0 ∷ 0 ∷ 2 ∷ 47 ∷ 97 ∷  -- path /a
    0 ∷ 0 ∷ 0 ∷ 2 ∷ 104 ∷ 105 ∷  -- data "hi"
    255 ∷ 255 ∷ 255 ∷ 255 ∷  -- ACL: null
    0 ∷ 0 ∷ 0 ∷ 4 ∷  -- flags: container
    []

abbrev pub create_container_asked : Request
create_container_asked = asking 28 (asks.CreateContainer (record { path = Some slash_a; bytes = Some hi; acls = None; flags = pos 4 }))

-- the data of /a and its children (`MultiTransactionRecord` of reads)
abbrev pub multi_read_bytes : List ℕ
multi_read_bytes =
    0 ∷ 0 ∷ 0 ∷ 25 ∷  -- xid 25
    0 ∷ 0 ∷ 0 ∷ 22 ∷  -- type 22: multiRead
    0 ∷ 0 ∷ 0 ∷ 4 ∷  -- kind 4: getData
    0 ∷  -- not the end
    255 ∷ 255 ∷ 255 ∷ 255 ∷  -- no code
    0 ∷ 0 ∷ 0 ∷ 2 ∷ 47 ∷ 97 ∷  -- path /a
    0 ∷  -- no watch
    0 ∷ 0 ∷ 0 ∷ 8 ∷  -- kind 8: getChildren
    0 ∷  -- not the end
    255 ∷ 255 ∷ 255 ∷ 255 ∷  -- no code
    0 ∷ 0 ∷ 0 ∷ 2 ∷ 47 ∷ 97 ∷  -- path /a
    0 ∷  -- no watch
    255 ∷ 255 ∷ 255 ∷ 255 ∷  -- the last header: no kind
    1 ∷  -- the end
    255 ∷ 255 ∷ 255 ∷ 255 ∷  -- no code
    []

abbrev pub multi_read_asked : Request
multi_read_asked = asking 25 (asks.MultiRead (look_part.GetData (record { path = Some slash_a; watch = false }) ∷ look_part.GetChildren (record { path = Some slash_a; watch = false }) ∷ []))

-- the watches of before (`SetWatches`), whose xid is -8
abbrev pub set_watches_bytes : List ℕ
set_watches_bytes =
    255 ∷ 255 ∷ 255 ∷ 248 ∷  -- xid -8
    0 ∷ 0 ∷ 0 ∷ 101 ∷  -- type 101: setWatches
    0 ∷ 0 ∷ 0 ∷ 0 ∷ 0 ∷ 0 ∷ 0 ∷ 9 ∷  -- zxid seen: 9
    0 ∷ 0 ∷ 0 ∷ 1 ∷  -- one watch of data
    0 ∷ 0 ∷ 0 ∷ 2 ∷ 47 ∷ 97 ∷  -- path /a
    0 ∷ 0 ∷ 0 ∷ 0 ∷  -- no watch of existence
    0 ∷ 0 ∷ 0 ∷ 1 ∷  -- one watch of children
    0 ∷ 0 ∷ 0 ∷ 2 ∷ 47 ∷ 97 ∷  -- path /a
    []

abbrev pub set_watches_asked : Request
set_watches_asked = record { xid = neg 8; asked = asks.SetWatches (record { relative_zxid = pos 9; data_watches = slash_a ∷ []; exist_watches = []; child_watches = slash_a ∷ [] }) }

-- the same with those that stay (`SetWatches2`)
abbrev pub set_watches_2_bytes : List ℕ
set_watches_2_bytes =
    255 ∷ 255 ∷ 255 ∷ 248 ∷  -- xid -8
    0 ∷ 0 ∷ 0 ∷ 105 ∷  -- type 105: setWatches2
    0 ∷ 0 ∷ 0 ∷ 0 ∷ 0 ∷ 0 ∷ 0 ∷ 9 ∷  -- zxid seen: 9
    0 ∷ 0 ∷ 0 ∷ 0 ∷  -- no watch of data
    0 ∷ 0 ∷ 0 ∷ 1 ∷  -- one watch of existence
    0 ∷ 0 ∷ 0 ∷ 2 ∷ 47 ∷ 97 ∷  -- path /a
    0 ∷ 0 ∷ 0 ∷ 0 ∷  -- no watch of children
    0 ∷ 0 ∷ 0 ∷ 0 ∷  -- no persistent watch
    0 ∷ 0 ∷ 0 ∷ 1 ∷  -- one recursive watch
    0 ∷ 0 ∷ 0 ∷ 2 ∷ 47 ∷ 97 ∷  -- path /a
    []

abbrev pub set_watches_2_asked : Request
set_watches_2_asked = record { xid = neg 8; asked = asks.SetWatches2 (record { watches = record { relative_zxid = pos 9; data_watches = []; exist_watches = slash_a ∷ []; child_watches = [] }; persistent_watches = []; recursive_watches = slash_a ∷ [] }) }

-- a persistent watch of /a (`AddWatchRequest`)
abbrev pub add_watch_bytes : List ℕ
add_watch_bytes =
    0 ∷ 0 ∷ 0 ∷ 26 ∷  -- xid 26
    0 ∷ 0 ∷ 0 ∷ 106 ∷  -- type 106: addWatch
    0 ∷ 0 ∷ 0 ∷ 2 ∷ 47 ∷ 97 ∷  -- path /a
    0 ∷ 0 ∷ 0 ∷ 0 ∷  -- mode 0: persistent
    []

abbrev pub add_watch_asked : Request
add_watch_asked = asking 26 (asks.AddWatch (record { path = Some slash_a; mode = pos 0 }))

-- a multi that creates a container node (`CreateRequest`)
abbrev pub container_bytes : List ℕ
container_bytes =
    0 ∷ 0 ∷ 0 ∷ 27 ∷  -- xid 27
    0 ∷ 0 ∷ 0 ∷ 14 ∷  -- type 14: multi
    0 ∷ 0 ∷ 0 ∷ 19 ∷  -- kind 19: createContainer
    0 ∷  -- not the end
    255 ∷ 255 ∷ 255 ∷ 255 ∷  -- no code
    0 ∷ 0 ∷ 0 ∷ 2 ∷ 47 ∷ 97 ∷  -- path /a
    0 ∷ 0 ∷ 0 ∷ 2 ∷ 104 ∷ 105 ∷  -- data "hi"
    0 ∷ 0 ∷ 0 ∷ 0 ∷  -- no ACL
    0 ∷ 0 ∷ 0 ∷ 4 ∷  -- flags: container
    255 ∷ 255 ∷ 255 ∷ 255 ∷  -- the last header: no kind
    1 ∷  -- the end
    255 ∷ 255 ∷ 255 ∷ 255 ∷  -- no code
    []

abbrev pub container_asked : Request
container_asked = asking 27 (asks.Multi (part.CreateContainer (record { path = Some slash_a; bytes = Some hi; acls = Some []; flags = pos 4 }) ∷ []))

-- a token of SASL, "hi" (`GetSASLRequest`)
abbrev pub sasl_bytes : List ℕ
sasl_bytes =
    0 ∷ 0 ∷ 0 ∷ 29 ∷  -- xid 29
    0 ∷ 0 ∷ 0 ∷ 102 ∷  -- type 102: sasl
    0 ∷ 0 ∷ 0 ∷ 2 ∷ 104 ∷ 105 ∷  -- token "hi"
    []

abbrev pub sasl_asked : Request
sasl_asked = asking 29 (asks.Sasl hi)

-- the ephemeral nodes of the session below /a (`GetEphemeralsRequest`)
abbrev pub get_ephemerals_bytes : List ℕ
get_ephemerals_bytes =
    0 ∷ 0 ∷ 0 ∷ 30 ∷  -- xid 30
    0 ∷ 0 ∷ 0 ∷ 103 ∷  -- type 103: getEphemerals
    0 ∷ 0 ∷ 0 ∷ 2 ∷ 47 ∷ 97 ∷  -- prefix /a
    []

abbrev pub get_ephemerals_asked : Request
get_ephemerals_asked = asking 30 (asks.GetEphemerals (Some slash_a))

-- how many nodes are below /a (`GetAllChildrenNumberRequest`)
abbrev pub get_all_children_number_bytes : List ℕ
get_all_children_number_bytes =
    0 ∷ 0 ∷ 0 ∷ 31 ∷  -- xid 31
    0 ∷ 0 ∷ 0 ∷ 104 ∷  -- type 104: getAllChildrenNumber
    0 ∷ 0 ∷ 0 ∷ 2 ∷ 47 ∷ 97 ∷  -- path /a
    []

abbrev pub get_all_children_number_asked : Request
get_all_children_number_asked = asking 31 (asks.GetAllChildrenNumber (Some slash_a))

-- who the client is
abbrev pub who_am_i_bytes : List ℕ
who_am_i_bytes =
    0 ∷ 0 ∷ 0 ∷ 32 ∷  -- xid 32
    0 ∷ 0 ∷ 0 ∷ 107 ∷  -- type 107: whoAmI
    []

abbrev pub who_am_i_asked : Request
who_am_i_asked = asking 32 asks.WhoAmI
