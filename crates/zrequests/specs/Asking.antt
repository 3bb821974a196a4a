-- What the fields of a request mean: paths, data, versions, node kinds, ACLs. The sources are the
-- ZooKeeper Programmer's Guide ("The ZooKeeper Data Model", "ZooKeeper access control using ACLs",
-- "TTL Nodes", "Container Nodes"), and ZooKeeper's `CreateMode` and `ZooDefs.Ids`. The limits, TTLs
-- in ticks, and accepting only the open ACL are this project's profile.
use Rattle.std.specs.Prelude.{◌≡◌, ◌⊎◌, ℕ, zero, suc, ℤ, pos, negsuc, Bool, false, ◌&&◌, nat_lt, nat_le, List, [], ◌∷◌, ◌++◌, length, codes, Option, None, Some, is_some, Result, Ok, Err, if◌then◌else◌}
use Rattle.std.specs.Int.{div_ceil}
use Rattle.std.specs.List.{list_all}
use Rattle.std.specs.Ordering.{int_eq}
use Rattle.std.specs.Str.{bytes_eq}
use Rattle.zpath.specs.Faults.{fault_of, names_of}
use Rattle.ztree.specs.Tree.{Path}
use Rattle.ztree.specs.declared.limits.TheConstants.{MAX_TTL}
use Rattle.zcalls.specs.declared.call.Kind.{Kind}
use Rattle.zcalls.specs.declared.call.Lifetime.TheVariants.{Persistent, WithTtl, Ephemeral, Container}
use Rattle.zcalls.specs.Part.{named, sequential}
use Rattle.zcalls.specs.declared.call.Expected.{Expected}
use Rattle.zcalls.specs.declared.call.Expected.TheVariants.{Any, Exactly}
use Rattle.zjute.specs.declared.acl.Acl.{Acl}
use Rattle.zjute.specs.declared.code.Code.TheVariants.{BadArguments}
use Rattle.zrequests.specs.declared.limits.TheConstants.{NO_VERSION, ALL_PERMISSIONS}
use Rattle.zrequests.specs.declared.fault.Unasked.{Unasked}
use Rattle.zrequests.specs.declared.fault.Unasked.TheVariants.{Refused, Memory}
use Rattle.zrequests.specs.Terms.{Terms}

-- what a request means, or why it makes no call
abbrev pub Meaning : Type 0 → Type 0
Meaning A = Result A Unasked

-- no call is made: out of memory, or the request's meaning is a refusal
abbrev pub IsUnasked : {A : Type 0} → Meaning A → Unasked → Type 0
IsUnasked meaning fault = (fault ≡ Memory) ⊎ (meaning ≡ Err fault)

-- continue with the meaning
abbrev pub then_means : {A B : Type 0} → Meaning A → (A → Meaning B) → Meaning B
then_means (Err fault) next = Err fault
then_means (Ok x) next = next x

-- the meaning of each element, from the left
abbrev pub each_in : {A B : Type 0} → (A → Meaning B) → List A → Meaning (List B)
each_in means [] = Ok []
each_in means (x ∷ xs) = then_means (means x) (λ y. then_means (each_in means xs) (λ ys. Ok (y ∷ ys)))

-- the same, after elements whose meaning is known
abbrev pub each_behind : {A B : Type 0} → List B → (A → Meaning B) → List A → Meaning (List B)
each_behind known means xs = then_means (each_in means xs) (λ more. Ok (known ++ more))

-- a path; a null string or an invalid path is refused
abbrev pub path_in : Option (List ℕ) → Meaning Path
path_in None = Err (Refused BadArguments)
path_in (Some text) = if is_some (fault_of text) then Err (Refused BadArguments) else Ok (names_of text)

-- data, of at most the size of the terms; a null buffer means no bytes
abbrev pub data_in : Terms → Option (List ℕ) → Meaning (List ℕ)
data_in terms None = Ok []
data_in terms (Some bytes) = if nat_lt terms.bytes (length bytes) then Err (Refused BadArguments) else Ok bytes

-- a version: -1 matches any; no node has one below -1
abbrev pub version_in : ℤ → Expected
version_in (pos n) = Exactly n
version_in (negsuc zero) = Any
version_in (negsuc (suc n)) = Exactly NO_VERSION

-- the string is this text
abbrev pub is_text : List ℕ → Option (List ℕ) → Bool
is_text text None = false
is_text text (Some bytes) = bytes_eq bytes text

-- anyone may do anything (`ZooDefs.Ids.OPEN_ACL_UNSAFE`)
abbrev pub is_open : Acl → Bool
is_open acl = int_eq acl.perms ALL_PERMISSIONS && is_text (codes "world") acl.scheme && is_text (codes "anyone") acl.id

-- an ACL; only the open one is accepted, which may be named several times, and no null or empty list
abbrev pub has_open_acl : Option (List Acl) → Bool
has_open_acl (Some (acl ∷ acls)) = list_all is_open (acl ∷ acls)
has_open_acl acls = false

-- the kind of a node created for a session, by its number (`CreateMode`)
abbrev pub kind_in : ℕ → ℤ → Meaning Kind
kind_in session flags =
    if int_eq flags (pos 0) then Ok (named Persistent) else
    if int_eq flags (pos 1) then Ok (named (Ephemeral session)) else
    if int_eq flags (pos 2) then Ok (sequential Persistent) else
    if int_eq flags (pos 3) then Ok (sequential (Ephemeral session)) else
    if int_eq flags (pos 4) then Ok (named Container) else
    Err (Refused BadArguments)

-- a TTL in ticks, from the milliseconds of a tick and of the TTL; a fraction of a tick is rounded
-- up
abbrev pub ttl_in : ℕ → ℤ → Meaning ℕ
ttl_in tick (pos millis) =
    let ticks = div_ceil millis tick in
    if nat_lt 0 ticks && nat_le ticks MAX_TTL then Ok ticks else Err (Refused BadArguments)
ttl_in tick (negsuc n) = Err (Refused BadArguments)

-- the kind of a node with this TTL, by its number (`CreateMode`)
abbrev pub timed_kind_in : ℕ → ℤ → Meaning Kind
timed_kind_in ticks flags =
    if int_eq flags (pos 5) then Ok (named (WithTtl ticks)) else
    if int_eq flags (pos 6) then Ok (sequential (WithTtl ticks)) else
    Err (Refused BadArguments)
