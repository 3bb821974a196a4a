-- Laws of the calls of requests. Each statement is the contract of a function in `src/laws.rt`.
use Rattle.std.specs.Prelude.{◌≡◌, ℕ, ◌<◌, true, is_err, List, Some, Ok}
use Rattle.std.specs.FinMap.{get}
use Rattle.std.specs.List.{AllByRecursion, list_any}
use Rattle.ztree.specs.Tree.{Tree, Path}
use Rattle.ztree.specs.declared.node.Node.{Node}
use Rattle.zcalls.specs.Bounds.{IsBounded}
use Rattle.zcalls.specs.declared.call.Lifetime.{Lifetime}
use Rattle.zcalls.specs.declared.call.Lifetime.TheVariants.{Persistent, WithTtl, Ephemeral, Container}
use Rattle.zcalls.specs.declared.call.Part.{Part as OfMulti}
use Rattle.zcalls.specs.declared.call.Part.TheVariants as part
use Rattle.zcalls.specs.declared.call.Update.{Update as Act}
use Rattle.zcalls.specs.declared.call.Update.TheVariants as act
use Rattle.zcalls.specs.declared.call.Call.{Call}
use Rattle.zcalls.specs.declared.call.Call.TheVariants.{Update, Query}
use Rattle.zcalls.specs.Step.{step}
use Rattle.zjute.specs.declared.part.PartRequest.{PartRequest as AskedPart}
use Rattle.zjute.specs.declared.request.Asked.{Asked}
use Rattle.zrequests.specs.declared.limits.TheConstants.{NO_VERSION}
use Rattle.zrequests.specs.Terms.{Terms}
use Rattle.zrequests.specs.Requests.{calls_in, part_in, parts_in}

-- a node of this lifetime belongs to the session, or to no session
abbrev pub IsForSession : ℕ → Lifetime → Type 0
IsForSession session (Ephemeral owner) = owner ≡ session
IsForSession session Persistent = Unit {0}
IsForSession session (WithTtl ttl) = Unit {0}
IsForSession session Container = Unit {0}

-- a part of a multi acts for the session
abbrev pub PartIsFor : ℕ → OfMulti → Type 0
PartIsFor session (part.Create create) = IsForSession session create.kind.lifetime
PartIsFor session (part.Delete delete) = Unit {0}
PartIsFor session (part.SetData set) = Unit {0}
PartIsFor session (part.Check check) = Unit {0}

-- an update acts for the session: it opens no session, renews none, moves no clock, and closes no
-- other session
abbrev pub UpdateIsFor : ℕ → Act → Type 0
UpdateIsFor session (act.Create create) = IsForSession session create.kind.lifetime
UpdateIsFor session (act.Delete delete) = Unit {0}
UpdateIsFor session (act.SetData set) = Unit {0}
UpdateIsFor session (act.SetAcl set) = Unit {0}
UpdateIsFor session (act.Multi parts) = AllByRecursion (PartIsFor session) parts
UpdateIsFor session (act.Open ticks) = ⊥
UpdateIsFor session (act.Ping id) = ⊥
UpdateIsFor session (act.Close id) = id ≡ session
UpdateIsFor session act.Tick = ⊥

-- a call acts for the session
abbrev pub CallIsFor : ℕ → Call → Type 0
CallIsFor session (Update update) = UpdateIsFor session update
CallIsFor session (Query query) = Unit {0}

-- the calls of a request act for the session of its connection only
abbrev pub CallsAreForTheirSession : Type 0
CallsAreForTheirSession =
    (terms : Terms) (session : ℕ) (asked : Asked) (calls : List Call) → calls_in terms session asked ≡ Ok calls
    → AllByRecursion (CallIsFor session) calls

-- a multi that has a part that is refused at once leaves the whole tree unchanged, whatever the tree
-- and its other parts are
abbrev pub RefusedPartsAreNeverDone : Type 0
RefusedPartsAreNeverDone =
    (t : Tree) (terms : Terms) (client session : ℕ) (parts : List AskedPart)
    → list_any (λ part. is_err (part_in terms session part)) parts ≡ true
    → (step t client (act.Multi (parts_in terms session parts))).0 ≡ t

-- no node has version `NO_VERSION`, and no access control list has, in any tree that a machine holds
abbrev pub NoNodeHasNoVersion : Type 0
NoNodeHasNoVersion =
    (t : Tree) (path : Path) (n : Node) → IsBounded t → get t.nodes path ≡ Some n → (n.version < NO_VERSION) × (n.aversion < NO_VERSION)
