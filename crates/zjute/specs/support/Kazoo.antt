-- What kazoo 2.8.0 sends, field by field, and what it asks.
use Rattle.std.specs.Prelude.{pos, ℕ, List, [], ◌∷◌, Option, Some, None, Bool, true, false}
use Rattle.zjute.specs.declared.acl.Acl.{Acl}
use Rattle.zjute.specs.declared.connecting.ConnectRequest.{ConnectRequest}
use Rattle.zjute.specs.declared.part.PartRequest.TheVariants as part
use Rattle.zjute.specs.declared.request.Asked.{Asked}
use Rattle.zjute.specs.declared.request.Asked.TheVariants as asks
use Rattle.zjute.specs.declared.request.Request.{Request}
use Rattle.zjute.specs.Jute.{neg}

-- the path /a
abbrev pub slash_a : List ℕ
slash_a = 47 ∷ 97 ∷ []

abbrev pub hi : List ℕ
hi = 104 ∷ 105 ∷ []

abbrev pub world : List ℕ
world = 119 ∷ 111 ∷ 114 ∷ 108 ∷ 100 ∷ []

abbrev pub anyone : List ℕ
anyone = 97 ∷ 110 ∷ 121 ∷ 111 ∷ 110 ∷ 101 ∷ []

abbrev pub digest : List ℕ
digest = 100 ∷ 105 ∷ 103 ∷ 101 ∷ 115 ∷ 116 ∷ []

-- the text u:p
abbrev pub u_p : List ℕ
u_p = 117 ∷ 58 ∷ 112 ∷ []

-- world:anyone with all permissions
abbrev pub open_acls : List Acl
open_acls = record { perms = pos 31; scheme = Some world; id = Some anyone } ∷ []

-- xid 1, a type, and what follows it
abbrev pub sent : ℕ → List ℕ → List ℕ
sent type bytes = 0 ∷ 0 ∷ 0 ∷ 1 ∷ 0 ∷ 0 ∷ 0 ∷ type ∷ bytes

abbrev pub asking : ℕ → Asked → Request
asking xid asked = record { xid = pos xid; asked = asked }

-- a create of /a, ephemeral, with the open ACL
abbrev pub create_bytes : List ℕ
create_bytes =
    0 ∷ 0 ∷ 0 ∷ 7 ∷  -- xid 7
    0 ∷ 0 ∷ 0 ∷ 1 ∷  -- type 1: create
    0 ∷ 0 ∷ 0 ∷ 2 ∷ 47 ∷ 97 ∷  -- path /a
    0 ∷ 0 ∷ 0 ∷ 2 ∷ 104 ∷ 105 ∷  -- data "hi"
    0 ∷ 0 ∷ 0 ∷ 1 ∷  -- one ACL
    0 ∷ 0 ∷ 0 ∷ 31 ∷  -- its permissions: all
    0 ∷ 0 ∷ 0 ∷ 5 ∷ 119 ∷ 111 ∷ 114 ∷ 108 ∷ 100 ∷  -- its scheme: world
    0 ∷ 0 ∷ 0 ∷ 6 ∷ 97 ∷ 110 ∷ 121 ∷ 111 ∷ 110 ∷ 101 ∷  -- its id: anyone
    0 ∷ 0 ∷ 0 ∷ 1 ∷  -- flags: ephemeral
    []

abbrev pub create_asked : Request
create_asked = asking 7 (asks.Create (record { path = Some slash_a; bytes = Some hi; acls = Some open_acls; flags = pos 1 }))

-- a delete of /a at any version
abbrev pub delete_bytes : List ℕ
delete_bytes =
    0 ∷ 0 ∷ 0 ∷ 8 ∷  -- xid 8
    0 ∷ 0 ∷ 0 ∷ 2 ∷  -- type 2: delete
    0 ∷ 0 ∷ 0 ∷ 2 ∷ 47 ∷ 97 ∷  -- path /a
    255 ∷ 255 ∷ 255 ∷ 255 ∷  -- version: any
    []

abbrev pub delete_asked : Request
delete_asked = asking 8 (asks.Delete (record { path = Some slash_a; version = neg 1 }))

-- a look whether /a exists, with a watch
abbrev pub exists_bytes : List ℕ
exists_bytes =
    0 ∷ 0 ∷ 0 ∷ 9 ∷  -- xid 9
    0 ∷ 0 ∷ 0 ∷ 3 ∷  -- type 3: exists
    0 ∷ 0 ∷ 0 ∷ 2 ∷ 47 ∷ 97 ∷  -- path /a
    1 ∷  -- watch
    []

abbrev pub exists_asked : Request
exists_asked = asking 9 (asks.Exists (record { path = Some slash_a; watch = true }))

-- a get of the data of /a
abbrev pub get_data_bytes : List ℕ
get_data_bytes =
    0 ∷ 0 ∷ 0 ∷ 10 ∷  -- xid 10
    0 ∷ 0 ∷ 0 ∷ 4 ∷  -- type 4: getData
    0 ∷ 0 ∷ 0 ∷ 2 ∷ 47 ∷ 97 ∷  -- path /a
    0 ∷  -- no watch
    []

abbrev pub get_data_asked : Request
get_data_asked = asking 10 (asks.GetData (record { path = Some slash_a; watch = false }))

-- a write of null data to /a at version 3
abbrev pub set_data_bytes : List ℕ
set_data_bytes =
    0 ∷ 0 ∷ 0 ∷ 11 ∷  -- xid 11
    0 ∷ 0 ∷ 0 ∷ 5 ∷  -- type 5: setData
    0 ∷ 0 ∷ 0 ∷ 2 ∷ 47 ∷ 97 ∷  -- path /a
    255 ∷ 255 ∷ 255 ∷ 255 ∷  -- data: null
    0 ∷ 0 ∷ 0 ∷ 3 ∷  -- version 3
    []

abbrev pub set_data_asked : Request
set_data_asked = asking 11 (asks.SetData (record { path = Some slash_a; bytes = None; version = pos 3 }))

-- a get of the ACL of /a
abbrev pub get_acl_bytes : List ℕ
get_acl_bytes =
    0 ∷ 0 ∷ 0 ∷ 12 ∷  -- xid 12
    0 ∷ 0 ∷ 0 ∷ 6 ∷  -- type 6: getACL
    0 ∷ 0 ∷ 0 ∷ 2 ∷ 47 ∷ 97 ∷  -- path /a
    []

abbrev pub get_acl_asked : Request
get_acl_asked = asking 12 (asks.GetAcl (Some slash_a))

-- a write of the open ACL to /a
abbrev pub set_acl_bytes : List ℕ
set_acl_bytes =
    0 ∷ 0 ∷ 0 ∷ 13 ∷  -- xid 13
    0 ∷ 0 ∷ 0 ∷ 7 ∷  -- type 7: setACL
    0 ∷ 0 ∷ 0 ∷ 2 ∷ 47 ∷ 97 ∷  -- path /a
    0 ∷ 0 ∷ 0 ∷ 1 ∷  -- one ACL
    0 ∷ 0 ∷ 0 ∷ 31 ∷  -- its permissions: all
    0 ∷ 0 ∷ 0 ∷ 5 ∷ 119 ∷ 111 ∷ 114 ∷ 108 ∷ 100 ∷  -- its scheme: world
    0 ∷ 0 ∷ 0 ∷ 6 ∷ 97 ∷ 110 ∷ 121 ∷ 111 ∷ 110 ∷ 101 ∷  -- its id: anyone
    255 ∷ 255 ∷ 255 ∷ 255 ∷  -- version: any
    []

abbrev pub set_acl_asked : Request
set_acl_asked = asking 13 (asks.SetAcl (record { path = Some slash_a; acls = Some open_acls; version = neg 1 }))

-- a get of the children of /a
abbrev pub get_children_bytes : List ℕ
get_children_bytes =
    0 ∷ 0 ∷ 0 ∷ 14 ∷  -- xid 14
    0 ∷ 0 ∷ 0 ∷ 8 ∷  -- type 8: getChildren
    0 ∷ 0 ∷ 0 ∷ 2 ∷ 47 ∷ 97 ∷  -- path /a
    0 ∷  -- no watch
    []

abbrev pub get_children_asked : Request
get_children_asked = asking 14 (asks.GetChildren (record { path = Some slash_a; watch = false }))

-- a sync of /a
abbrev pub sync_bytes : List ℕ
sync_bytes =
    0 ∷ 0 ∷ 0 ∷ 15 ∷  -- xid 15
    0 ∷ 0 ∷ 0 ∷ 9 ∷  -- type 9: sync
    0 ∷ 0 ∷ 0 ∷ 2 ∷ 47 ∷ 97 ∷  -- path /a
    []

abbrev pub sync_asked : Request
sync_asked = asking 15 (asks.Sync (Some slash_a))

-- a ping, whose xid is -2
abbrev pub ping_bytes : List ℕ
ping_bytes =
    255 ∷ 255 ∷ 255 ∷ 254 ∷  -- xid -2
    0 ∷ 0 ∷ 0 ∷ 11 ∷  -- type 11: ping
    []

abbrev pub ping_asked : Request
ping_asked = record { xid = neg 2; asked = asks.Ping }

-- the same with a stat, and a watch
abbrev pub get_children_2_bytes : List ℕ
get_children_2_bytes =
    0 ∷ 0 ∷ 0 ∷ 16 ∷  -- xid 16
    0 ∷ 0 ∷ 0 ∷ 12 ∷  -- type 12: getChildren2
    0 ∷ 0 ∷ 0 ∷ 2 ∷ 47 ∷ 97 ∷  -- path /a
    1 ∷  -- watch
    []

abbrev pub get_children_2_asked : Request
get_children_2_asked = asking 16 (asks.GetChildren2 (record { path = Some slash_a; watch = true }))

-- a multi that checks /a and deletes it
abbrev pub multi_bytes : List ℕ
multi_bytes =
    0 ∷ 0 ∷ 0 ∷ 17 ∷  -- xid 17
    0 ∷ 0 ∷ 0 ∷ 14 ∷  -- type 14: multi
    0 ∷ 0 ∷ 0 ∷ 13 ∷  -- kind 13: check
    0 ∷  -- not the end
    255 ∷ 255 ∷ 255 ∷ 255 ∷  -- no code
    0 ∷ 0 ∷ 0 ∷ 2 ∷ 47 ∷ 97 ∷  -- path /a
    0 ∷ 0 ∷ 0 ∷ 7 ∷  -- version 7
    0 ∷ 0 ∷ 0 ∷ 2 ∷  -- kind 2: delete
    0 ∷  -- not the end
    255 ∷ 255 ∷ 255 ∷ 255 ∷  -- no code
    0 ∷ 0 ∷ 0 ∷ 2 ∷ 47 ∷ 97 ∷  -- path /a
    255 ∷ 255 ∷ 255 ∷ 255 ∷  -- version: any
    255 ∷ 255 ∷ 255 ∷ 255 ∷  -- the last header: no kind
    1 ∷  -- the end
    255 ∷ 255 ∷ 255 ∷ 255 ∷  -- no code
    []

abbrev pub multi_asked : Request
multi_asked = asking 17 (asks.Multi (part.Check (record { path = Some slash_a; version = pos 7 }) ∷ part.Delete (record { path = Some slash_a; version = neg 1 }) ∷ []))

-- a create of /a with its stat in the answer
abbrev pub create_2_bytes : List ℕ
create_2_bytes =
    0 ∷ 0 ∷ 0 ∷ 18 ∷  -- xid 18
    0 ∷ 0 ∷ 0 ∷ 15 ∷  -- type 15: create2
    0 ∷ 0 ∷ 0 ∷ 2 ∷ 47 ∷ 97 ∷  -- path /a
    0 ∷ 0 ∷ 0 ∷ 2 ∷ 104 ∷ 105 ∷  -- data "hi"
    0 ∷ 0 ∷ 0 ∷ 1 ∷  -- one ACL
    0 ∷ 0 ∷ 0 ∷ 31 ∷  -- its permissions: all
    0 ∷ 0 ∷ 0 ∷ 5 ∷ 119 ∷ 111 ∷ 114 ∷ 108 ∷ 100 ∷  -- its scheme: world
    0 ∷ 0 ∷ 0 ∷ 6 ∷ 97 ∷ 110 ∷ 121 ∷ 111 ∷ 110 ∷ 101 ∷  -- its id: anyone
    0 ∷ 0 ∷ 0 ∷ 0 ∷  -- flags: persistent
    []

abbrev pub create_2_asked : Request
create_2_asked = asking 18 (asks.Create2 (record { path = Some slash_a; bytes = Some hi; acls = Some open_acls; flags = pos 0 }))

-- the user of a digest, whose xid is -4
abbrev pub auth_bytes : List ℕ
auth_bytes =
    255 ∷ 255 ∷ 255 ∷ 252 ∷  -- xid -4
    0 ∷ 0 ∷ 0 ∷ 100 ∷  -- type 100: auth
    0 ∷ 0 ∷ 0 ∷ 0 ∷  -- a number that is 0
    0 ∷ 0 ∷ 0 ∷ 6 ∷ 100 ∷ 105 ∷ 103 ∷ 101 ∷ 115 ∷ 116 ∷  -- scheme digest
    0 ∷ 0 ∷ 0 ∷ 3 ∷ 117 ∷ 58 ∷ 112 ∷  -- u:p
    []

abbrev pub auth_asked : Request
auth_asked = record { xid = neg 4; asked = asks.Auth (record { kind = pos 0; scheme = Some digest; auth = Some u_p }) }

-- the end of a session
abbrev pub close_bytes : List ℕ
close_bytes =
    0 ∷ 0 ∷ 0 ∷ 19 ∷  -- xid 19
    255 ∷ 255 ∷ 255 ∷ 245 ∷  -- type -11: closeSession
    []

abbrev pub close_asked : Request
close_asked = asking 19 asks.CloseSession

-- a reconfiguration, which is no kind of this service
abbrev pub reconfig_bytes : List ℕ
reconfig_bytes =
    0 ∷ 0 ∷ 0 ∷ 20 ∷  -- xid 20
    0 ∷ 0 ∷ 0 ∷ 16 ∷  -- type 16: reconfig
    0 ∷ 0 ∷ 0 ∷ 1 ∷ 97 ∷  -- joining "a"
    255 ∷ 255 ∷ 255 ∷ 255 ∷  -- leaving: null
    255 ∷ 255 ∷ 255 ∷ 255 ∷  -- new members: null
    255 ∷ 255 ∷ 255 ∷ 255 ∷ 255 ∷ 255 ∷ 255 ∷ 255 ∷  -- configuration -1
    []

abbrev pub reconfig_asked : Request
reconfig_asked = asking 20 (asks.Other (pos 16) (0 ∷ 0 ∷ 0 ∷ 1 ∷ 97 ∷ 255 ∷ 255 ∷ 255 ∷ 255 ∷ 255 ∷ 255 ∷ 255 ∷ 255 ∷ 255 ∷ 255 ∷ 255 ∷ 255 ∷ 255 ∷ 255 ∷ 255 ∷ 255 ∷ []))

-- 16 bytes of 0
abbrev pub no_password : List ℕ
no_password = 0 ∷ 0 ∷ 0 ∷ 0 ∷ 0 ∷ 0 ∷ 0 ∷ 0 ∷ 0 ∷ 0 ∷ 0 ∷ 0 ∷ 0 ∷ 0 ∷ 0 ∷ 0 ∷ []

-- the first frame of a connection, without its last byte
abbrev pub connect_front : List ℕ → List ℕ
connect_front last =
    0 ∷ 0 ∷ 0 ∷ 0 ∷  -- protocol 0
    0 ∷ 0 ∷ 0 ∷ 0 ∷ 0 ∷ 0 ∷ 0 ∷ 5 ∷  -- zxid seen: 5
    0 ∷ 0 ∷ 39 ∷ 16 ∷  -- timeout: 10,000 ms
    0 ∷ 0 ∷ 0 ∷ 0 ∷ 0 ∷ 18 ∷ 52 ∷ 86 ∷  -- session 1193046
    0 ∷ 0 ∷ 0 ∷ 16 ∷ 0 ∷ 0 ∷ 0 ∷ 0 ∷ 0 ∷ 0 ∷ 0 ∷ 0 ∷ 0 ∷ 0 ∷ 0 ∷ 0 ∷ 0 ∷ 0 ∷ 0 ∷ 0 ∷  -- password of 16 bytes
    last

abbrev pub connecting : Option Bool → ConnectRequest
connecting read_only = record { protocol_version = pos 0; last_zxid_seen = pos 5; timeout = pos 10000; session_id = pos 1193046; password = Some no_password; read_only = read_only }
