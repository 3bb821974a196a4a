-- The records of requests: each encodes the fields of its zookeeper.jute record in order.
use Rattle.std.specs.Prelude.{List, Option}
use Rattle.zcodec.specs.Forms.{Form, both}
use Rattle.zcodec.specs.Choices.{listed, listed_or_null, flag}
use Rattle.zjute.specs.declared.limits.TheConstants.{MAX_FRAME}
use Rattle.zjute.specs.declared.acl.Acl.{Acl}
use Rattle.zjute.specs.declared.request.CreateRequest.{CreateRequest}
use Rattle.zjute.specs.declared.request.CreateTtl.{CreateTtl}
use Rattle.zjute.specs.declared.request.AtVersion.{AtVersion}
use Rattle.zjute.specs.declared.request.Look.{Look}
use Rattle.zjute.specs.declared.request.SetDataRequest.{SetDataRequest}
use Rattle.zjute.specs.declared.request.SetAclRequest.{SetAclRequest}
use Rattle.zjute.specs.declared.request.WatchesAt.{WatchesAt}
use Rattle.zjute.specs.declared.request.AddWatch.{AddWatch}
use Rattle.zjute.specs.declared.request.Auth.{Auth}
use Rattle.zjute.specs.declared.request.SetWatches.{SetWatches}
use Rattle.zjute.specs.declared.request.SetWatches2.{SetWatches2}
use Rattle.zjute.specs.Jute.{int, long, buffer, texts}
use Rattle.zjute.specs.Shapes.{fields}

-- `ACL`, and `Id` in it
unfoldable pub acl : Form Acl
acl = fields (both int (both buffer buffer)) (λ a. (a.perms, (a.scheme, a.id)))
    (λ f. record { perms = f.0; scheme = f.1.0; id = f.1.1 })

-- `vector<ACL>`
unfoldable pub acls : Form (List Acl)
acls = listed MAX_FRAME acl

-- the same in a request; a count of -1 means null
unfoldable pub acls_or_null : Form (Option (List Acl))
acls_or_null = listed_or_null MAX_FRAME acl

-- `CreateRequest`
unfoldable pub create : Form CreateRequest
create = fields (both buffer (both buffer (both acls_or_null int)))
    (λ c. (c.path, (c.bytes, (c.acls, c.flags))))
    (λ f. record { path = f.0; bytes = f.1.0; acls = f.1.1.0; flags = f.1.1.1 })

-- `CreateTTLRequest`
unfoldable pub create_ttl : Form CreateTtl
create_ttl = fields (both create long) (λ c. (c.create, c.ttl))
    (λ f. record { create = f.0; ttl = f.1 })

-- `DeleteRequest` and `CheckVersionRequest`
unfoldable pub at_version : Form AtVersion
at_version = fields (both buffer int) (λ a. (a.path, a.version))
    (λ f. record { path = f.0; version = f.1 })

-- `ExistsRequest`, `GetDataRequest`, `GetChildrenRequest` and `GetChildren2Request`
unfoldable pub look : Form Look
look = fields (both buffer flag) (λ l. (l.path, l.watch)) (λ f. record { path = f.0; watch = f.1 })

-- `SetDataRequest`
unfoldable pub set_data : Form SetDataRequest
set_data = fields (both buffer (both buffer int)) (λ s. (s.path, (s.bytes, s.version)))
    (λ f. record { path = f.0; bytes = f.1.0; version = f.1.1 })

-- `SetACLRequest`
unfoldable pub set_acl : Form SetAclRequest
set_acl = fields (both buffer (both acls_or_null int)) (λ s. (s.path, (s.acls, s.version)))
    (λ f. record { path = f.0; acls = f.1.0; version = f.1.1 })

-- `CheckWatchesRequest` and `RemoveWatchesRequest`
unfoldable pub watches_at : Form WatchesAt
watches_at = fields (both buffer int) (λ w. (w.path, w.kind))
    (λ f. record { path = f.0; kind = f.1 })

-- `AddWatchRequest`
unfoldable pub add_watch : Form AddWatch
add_watch = fields (both buffer int) (λ w. (w.path, w.mode))
    (λ f. record { path = f.0; mode = f.1 })

-- `AuthPacket`
unfoldable pub auth : Form Auth
auth = fields (both int (both buffer buffer)) (λ a. (a.kind, (a.scheme, a.auth)))
    (λ f. record { kind = f.0; scheme = f.1.0; auth = f.1.1 })

-- `SetWatches`
unfoldable pub set_watches : Form SetWatches
set_watches = fields (both long (both texts (both texts texts)))
    (λ w. (w.relative_zxid, (w.data_watches, (w.exist_watches, w.child_watches))))
    (λ f. record {
      relative_zxid = f.0;
      data_watches = f.1.0;
      exist_watches = f.1.1.0;
      child_watches = f.1.1.1;
    })

-- `SetWatches2`
unfoldable pub set_watches_2 : Form SetWatches2
set_watches_2 = fields (both set_watches (both texts texts))
    (λ w. (w.watches, (w.persistent_watches, w.recursive_watches)))
    (λ f. record { watches = f.0; persistent_watches = f.1.0; recursive_watches = f.1.1 })
