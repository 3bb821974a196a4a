-- The calls that each request makes. A request makes these calls, or is refused at once with a
-- code. The kinds of requests are those of zookeeper.jute and of ZooKeeper's `ZooDefs.OpCode`.
use Rattle.std.specs.Prelude.{ℕ, ℤ, negsuc, nat_lt, List, [], ◌∷◌, ◌++◌, length, codes, Option, None, Some, Ok, Err, if◌then◌else◌}
use Rattle.std.specs.Ordering.{int_eq}
use Rattle.ztree.specs.Tree.{Path}
use Rattle.zcalls.specs.declared.call.Kind.{Kind}
use Rattle.zcalls.specs.declared.call.Create.{Create}
use Rattle.zcalls.specs.declared.call.Delete.{Delete}
use Rattle.zcalls.specs.declared.call.SetData.{SetData}
use Rattle.zcalls.specs.declared.call.SetAcl.{SetAcl}
use Rattle.zcalls.specs.declared.call.Check.{Check}
use Rattle.zcalls.specs.declared.call.Expected.TheVariants.{Any}
use Rattle.zcalls.specs.declared.call.Part.{Part}
use Rattle.zcalls.specs.declared.call.Part.TheVariants as part
use Rattle.zcalls.specs.declared.call.Update.TheVariants as act
use Rattle.zcalls.specs.declared.call.Query.{Query as Question}
use Rattle.zcalls.specs.declared.call.Query.TheVariants.{GetData, Exists, GetChildren}
use Rattle.zcalls.specs.declared.call.Call.{Call}
use Rattle.zcalls.specs.declared.call.Call.TheVariants.{Update, Query}
use Rattle.zjute.specs.declared.code.Code.{Code}
use Rattle.zjute.specs.declared.code.Code.TheVariants.{BadArguments, InvalidAcl, MarshallingError, Unimplemented, AuthFailed}
use Rattle.zjute.specs.declared.request.Asked.{Asked}
use Rattle.zjute.specs.declared.request.Asked.TheVariants as asked
use Rattle.zjute.specs.declared.request.CreateRequest.{CreateRequest as AskedCreate}
use Rattle.zjute.specs.declared.request.CreateTtl.{CreateTtl}
use Rattle.zjute.specs.declared.request.AtVersion.{AtVersion}
use Rattle.zjute.specs.declared.request.SetDataRequest.{SetDataRequest as AskedSet}
use Rattle.zjute.specs.declared.request.SetAclRequest.{SetAclRequest as AskedAcl}
use Rattle.zjute.specs.declared.request.SetWatches.{SetWatches}
use Rattle.zjute.specs.declared.request.SetWatches2.{SetWatches2}
use Rattle.zjute.specs.declared.request.Auth.{Auth}
use Rattle.zjute.specs.declared.part.PartRequest.{PartRequest as AskedPart}
use Rattle.zjute.specs.declared.part.PartRequest.TheVariants as of_multi
use Rattle.zjute.specs.declared.part.LookPart.{LookPart}
use Rattle.zjute.specs.declared.part.LookPart.TheVariants as look
use Rattle.zjute.specs.WatchNumbers.{mode_of, type_of}
use Rattle.zrequests.specs.declared.limits.TheConstants.{MAX_PATHS}
use Rattle.zrequests.specs.declared.fault.Unasked.TheVariants.{Refused}
use Rattle.zrequests.specs.Terms.{Terms}
use Rattle.zrequests.specs.Asking.{Meaning, then_means, each_in, path_in, data_in, version_in, is_text, has_open_acl, kind_in, ttl_in, timed_kind_in}

-- a create of a node of this kind; the path is checked first, then the ACL, then the data
abbrev pub node_in : Terms → Kind → AskedCreate → Meaning Create
node_in terms kind create =
    then_means (path_in create.path) (λ path.
    if has_open_acl create.acls
    then then_means (data_in terms create.bytes) (λ bytes. Ok (record { path = path; kind = kind; bytes = bytes }))
    else Err (Refused InvalidAcl))

-- a create for a session; the kind is checked first
abbrev pub create_in : Terms → ℕ → AskedCreate → Meaning Create
create_in terms session create = then_means (kind_in session create.flags) (λ kind. node_in terms kind create)

-- a create with a TTL; the TTL and the kind are checked first
abbrev pub timed_create_in : Terms → CreateTtl → Meaning Create
timed_create_in terms timed =
    then_means (ttl_in terms.tick timed.ttl) (λ ticks.
    then_means (timed_kind_in ticks timed.create.flags) (λ kind. node_in terms kind timed.create))

-- a delete
abbrev pub delete_in : AtVersion → Meaning Delete
delete_in at = then_means (path_in at.path) (λ path. Ok (record { path = path; version = version_in at.version }))

-- a check
abbrev pub check_in : AtVersion → Meaning Check
check_in at = then_means (path_in at.path) (λ path. Ok (record { path = path; version = version_in at.version }))

-- a set; the path is checked first
abbrev pub set_in : Terms → AskedSet → Meaning SetData
set_in terms set =
    then_means (path_in set.path) (λ path.
    then_means (data_in terms set.bytes) (λ bytes.
    Ok (record { path = path; bytes = bytes; version = version_in set.version })))

-- a part that creates a node
abbrev pub part_of_create : Meaning Create → Meaning Part
part_of_create means = then_means means (λ create. Ok (part.Create create))

-- a part that deletes a node
abbrev pub part_of_delete : AtVersion → Meaning Part
part_of_delete at = then_means (delete_in at) (λ delete. Ok (part.Delete delete))

-- a part that writes a node's data
abbrev pub part_of_set : Terms → AskedSet → Meaning Part
part_of_set terms set = then_means (set_in terms set) (λ set. Ok (part.SetData set))

-- a part that checks a node's version
abbrev pub part_of_check : AtVersion → Meaning Part
part_of_check at = then_means (check_in at) (λ check. Ok (part.Check check))

-- a part of a multi, from the terms and the session
abbrev pub part_in : Terms → ℕ → AskedPart → Meaning Part
part_in terms session (of_multi.Create create) = part_of_create (create_in terms session create)
part_in terms session (of_multi.Create2 create) = part_of_create (create_in terms session create)
part_in terms session (of_multi.CreateTtl timed) = part_of_create (timed_create_in terms timed)
part_in terms session (of_multi.CreateContainer create) = part_of_create (create_in terms session create)
part_in terms session (of_multi.Delete at) = part_of_delete at
part_in terms session (of_multi.SetData set) = part_of_set terms set
part_in terms session (of_multi.Check at) = part_of_check at

-- the code of a part that is refused at once; whose session it is doesn't matter
abbrev pub refusal_of : Meaning Part → Option Code
refusal_of (Err (Refused why)) = Some why
refusal_of other = None

abbrev pub refused_in : Terms → AskedPart → Option Code
refused_in terms asked = refusal_of (part_in terms 0 asked)

-- a part that every tree refuses: a delete of the root
abbrev pub never_done : Part
never_done = part.Delete (record { path = []; version = Any })

-- a part, and those after it; in the place of one that is refused at once, one that is never done,
-- and none after it
abbrev pub or_never : Meaning Part → List Part → List Part
or_never (Ok part) more = part ∷ more
or_never (Err why) more = never_done ∷ []

-- the parts of a multi, so that the tree refuses the first that it can't do
abbrev pub parts_in : Terms → ℕ → List AskedPart → List Part
parts_in terms session [] = []
parts_in terms session (asked ∷ more) = or_never (part_in terms session asked) (parts_in terms session more)

-- a single call
abbrev pub one : Call → Meaning (List Call)
one call = Ok (call ∷ [])

-- a multi of these parts
abbrev pub one_of_parts : List Part → Meaning (List Call)
one_of_parts parts = one (Update (act.Multi parts))

-- a multi: no call if it is empty, and at most as many parts as the terms say
abbrev pub multi_in : Terms → ℕ → List AskedPart → Meaning (List Call)
multi_in terms session [] = Ok []
multi_in terms session (part ∷ parts) =
    if nat_lt terms.parts (length (part ∷ parts))
    then Err (Refused BadArguments)
    else one_of_parts (parts_in terms session (part ∷ parts))

-- a query of a path
abbrev pub query_in : (Path → Question) → Option (List ℕ) → Meaning Call
query_in query path = then_means (path_in path) (λ path. Ok (Query (query path)))

-- a part of a multiRead
abbrev pub look_in : LookPart → Meaning Call
look_in (look.GetData asked) = query_in GetData asked.path
look_in (look.GetChildren asked) = query_in GetChildren asked.path

-- a multiRead: at most as many looks as the terms say
abbrev pub looks_in : Terms → List LookPart → Meaning (List Call)
looks_in terms looks = if nat_lt terms.parts (length looks) then Err (Refused BadArguments) else each_in look_in looks

-- the path of a re-registered watch: its stat shows whether it has changed
abbrev pub watch_in : List ℕ → Meaning Call
watch_in path = query_in Exists (Some path)

-- the paths of re-registered watches
abbrev pub watched_in : SetWatches → List (List ℕ)
watched_in set = set.data_watches ++ set.exist_watches ++ set.child_watches

-- re-registered watches: at most MAX_PATHS paths
abbrev pub watches_in : SetWatches → Meaning (List Call)
watches_in set =
    if nat_lt MAX_PATHS (length (watched_in set)) then Err (Refused BadArguments) else each_in watch_in (watched_in set)

-- all paths of re-registered watches, with persistent ones and recursive ones
abbrev pub all_watched_in : SetWatches2 → List (List ℕ)
all_watched_in set = watched_in set.watches ++ set.persistent_watches ++ set.recursive_watches

-- the same of all five lists
abbrev pub all_watches_in : SetWatches2 → Meaning (List Call)
all_watches_in set =
    if nat_lt MAX_PATHS (length (all_watched_in set)) then Err (Refused BadArguments) else each_in watch_in (all_watched_in set)

-- a query on its own
abbrev pub look_alone : (Path → Question) → Option (List ℕ) → Meaning (List Call)
look_alone query path = then_means (query_in query path) one

-- the path of watches to check, to remove or to add; an unknown number of a type or of a mode is
-- refused first
abbrev pub numbered_in : {A : Type 0} → Option A → Option (List ℕ) → Meaning (List Call)
numbered_in None path = Err (Refused MarshallingError)
numbered_in (Some known) path = look_alone Exists path

-- the names of the children, then the stat
abbrev pub children_in : Option (List ℕ) → Meaning (List Call)
children_in path = then_means (path_in path) (λ path. Ok (Query (GetChildren path) ∷ Query (Exists path) ∷ []))

-- who the client is: `digest` is accepted and ignored
abbrev pub auth_in : Auth → Meaning (List Call)
auth_in auth = if is_text (codes "digest") auth.scheme then Ok [] else Err (Refused AuthFailed)

-- sync: there is nothing to wait for, since each query sees all earlier changes
abbrev pub sync_in : Option (List ℕ) → Meaning (List Call)
sync_in None = Err (Refused BadArguments)
sync_in (Some path) = Ok []

-- a create on its own
abbrev pub create_alone : Meaning Create → Meaning (List Call)
create_alone means = then_means means (λ create. one (Update (act.Create create)))

-- a delete on its own
abbrev pub delete_alone : AtVersion → Meaning (List Call)
delete_alone at = then_means (delete_in at) (λ delete. one (Update (act.Delete delete)))

-- a set on its own
abbrev pub set_alone : Terms → AskedSet → Meaning (List Call)
set_alone terms set = then_means (set_in terms set) (λ set. one (Update (act.SetData set)))

-- a check on its own: a multi of one part
abbrev pub check_alone : AtVersion → Meaning (List Call)
check_alone at = then_means (check_in at) (λ check. one_of_parts (part.Check check ∷ []))

-- a write of an ACL: the path is checked first, then the ACL
abbrev pub set_acl_in : AskedAcl → Meaning SetAcl
set_acl_in set =
    then_means (path_in set.path) (λ path.
    if has_open_acl set.acls
    then Ok (record { path = path; version = version_in set.version })
    else Err (Refused InvalidAcl))

-- a write of an ACL on its own; it is no part of a multi
abbrev pub set_acl_alone : AskedAcl → Meaning (List Call)
set_acl_alone set = then_means (set_acl_in set) (λ set. one (Update (act.SetAcl set)))

-- another request: createSession, -10, is no client's, and the rest is unknown to ZooKeeper
abbrev pub other_in : ℤ → Meaning (List Call)
other_in number = Err (Refused (if int_eq number (negsuc 9) then MarshallingError else Unimplemented))

-- the calls of a request that changes no node; what reads all nodes makes none
abbrev pub reads_in : Terms → Asked → Meaning (List Call)
reads_in terms (asked.Exists look) = look_alone Exists look.path
reads_in terms (asked.GetData look) = look_alone GetData look.path
reads_in terms (asked.GetChildren look) = look_alone GetChildren look.path
reads_in terms (asked.GetChildren2 look) = children_in look.path
reads_in terms (asked.GetAcl path) = look_alone Exists path
reads_in terms (asked.MultiRead looks) = looks_in terms looks
reads_in terms (asked.SetWatches set) = watches_in set
reads_in terms (asked.SetWatches2 set) = all_watches_in set
reads_in terms (asked.CheckWatches at) = numbered_in (type_of at.kind) at.path
reads_in terms (asked.RemoveWatches at) = numbered_in (type_of at.kind) at.path
reads_in terms (asked.AddWatch add) = numbered_in (mode_of add.mode) add.path
reads_in terms (asked.Sync path) = sync_in path
reads_in terms (asked.Auth auth) = auth_in auth
reads_in terms (asked.Other number bytes) = other_in number
reads_in terms other = Ok []

-- the calls of a request in order, from the terms and the connection's session
abbrev pub calls_in : Terms → ℕ → Asked → Meaning (List Call)
calls_in terms session (asked.Create create) = create_alone (create_in terms session create)
calls_in terms session (asked.Create2 create) = create_alone (create_in terms session create)
calls_in terms session (asked.CreateContainer create) = create_alone (create_in terms session create)
calls_in terms session (asked.CreateTtl timed) = create_alone (timed_create_in terms timed)
calls_in terms session (asked.Delete at) = delete_alone at
calls_in terms session (asked.SetData set) = set_alone terms set
calls_in terms session (asked.SetAcl set) = set_acl_alone set
calls_in terms session (asked.Check at) = check_alone at
calls_in terms session (asked.Multi parts) = multi_in terms session parts
calls_in terms session asked.CloseSession = one (Update (act.Close session))
calls_in terms session other = reads_in terms other
