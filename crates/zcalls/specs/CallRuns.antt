-- Laws of runs of calls from an initial tree, within any limits. Each is the contract of a function
-- in `src/laws.rt`.
use Rattle.std.specs.Prelude.{◌≡◌, ℕ, ◌<◌, ◌+◌, Bool, true, false, ◌&&◌, ◌||◌, List, [], ◌∷◌, ◌++◌, Some, Result, Ok, Err, if◌then◌else◌, nat_lt}
use Rattle.std.specs.List.{IsDistinct}
use Rattle.std.specs.Ordering.{eq_by_cmp}
use Rattle.std.specs.FinMap as finite
use Rattle.zpath.specs.Grammar.{path_cmp}
use Rattle.ztree.specs.Limits.{AreLimits}
use Rattle.ztree.specs.Tree.{Tree, Path, opening_within, parent_of}
use Rattle.ztree.specs.declared.limits.TreeLimits.{TreeLimits}
use Rattle.ztree.specs.declared.node.Node.{Node}
use Rattle.zcalls.specs.declared.call.Part.{Part}
use Rattle.zcalls.specs.declared.call.Part.TheVariants as part_of
use Rattle.zcalls.specs.declared.call.Update.{Update}
use Rattle.zcalls.specs.declared.call.Update.TheVariants.{Create, Delete, SetData, SetAcl, Multi, Open, Ping, Close, Tick}
use Rattle.zcalls.specs.declared.refusal.Refusal.{Refusal}
use Rattle.zcalls.specs.declared.reply.PartReply.{PartReply}
use Rattle.zcalls.specs.declared.reply.PartReply.TheVariants as part_reply
use Rattle.zcalls.specs.declared.reply.Reply.{Reply}
use Rattle.zcalls.specs.declared.reply.Reply.TheVariants as reply
use Rattle.zcalls.specs.Part.{part_step}
use Rattle.zcalls.specs.Multi.{Run, run}
use Rattle.zcalls.specs.Step.{step, is_exhausted}

-- the tree after these calls, each with its client
abbrev pub after_calls : Tree → List (ℕ × Update) → Tree
after_calls t [] = t
after_calls t (call ∷ calls) = after_calls (step t call.0 call.1).0 calls

-- the reply is a success
abbrev pub is_success : Reply → Bool
is_success (reply.Refused refusal) = false
is_success (reply.MultiRefused number refusal) = false
is_success (reply.Created path) = true
is_success reply.Deleted = true
is_success (reply.Set stat) = true
is_success (reply.Multi replies) = true
is_success (reply.Opened session timeout) = true
is_success reply.Pinged = true
is_success reply.Closed = true
is_success (reply.Ticked time ended removed) = true
is_success (reply.Data bytes stat) = true
is_success (reply.Exists stat) = true
is_success (reply.Children names) = true

-- The reply says that the call changed the tree. A ping never does; a tick does only if it ends a
-- session or removes a node.
abbrev pub is_change : Reply → Bool
is_change (reply.Refused refusal) = false
is_change (reply.MultiRefused number refusal) = false
is_change (reply.Created path) = true
is_change reply.Deleted = true
is_change (reply.Set stat) = true
is_change (reply.Multi replies) = true
is_change (reply.Opened session timeout) = true
is_change reply.Pinged = false
is_change reply.Closed = true
is_change (reply.Ticked time ended removed) = nat_lt 0 ended || nat_lt 0 removed
is_change (reply.Data bytes stat) = false
is_change (reply.Exists stat) = false
is_change (reply.Children names) = false

-- every zxid of the node is below this one
pub record IsOlder (zxid : ℕ) (n : Node) : Type 0 where
  pub czxid : n.czxid < zxid
  pub mzxid : n.mzxid < zxid
  pub pzxid : n.pzxid < zxid

-- after any calls from an initial tree, the zxid of a change is greater than every zxid in the
-- tree before it
abbrev pub ZxidsRise : Type 0
ZxidsRise =
    (limits : TreeLimits) → AreLimits limits
    → (calls : List (ℕ × Update)) (client : ℕ) (update : Update) (path : Path) (n : Node)
    → is_change (step (after_calls (opening_within limits) calls) client update).1 ≡ true
    → finite.get (after_calls (opening_within limits) calls).nodes path ≡ Some n
    → IsOlder (step (after_calls (opening_within limits) calls) client update).0.zxid n

-- a call takes one zxid if it makes a change, and otherwise none
abbrev pub ChangesTakeOneZxid : Type 0
ChangesTakeOneZxid =
    (t : Tree) (client : ℕ) (update : Update)
    → (step t client update).0.zxid ≡ t.zxid + (if is_change (step t client update).1 then 1 else 0)

-- a part that was done, with its reply
abbrev pub Done : Type 0
Done = Part × PartReply

-- the part, if it was done, and the parts done after it
abbrev pub and_done : Part → Result (Tree × PartReply) Refusal → (Tree → List Done) → List Done
and_done part (Err refusal) more = []
and_done part (Ok (t, answer)) more = (part, answer) ∷ more t

-- a client's parts as separate changes in sequence, up to the first refusal
unfoldable pub parts_done : Tree → ℕ → List Part → List Done
parts_done t client [] = []
parts_done t client (part ∷ parts) = and_done part (part_step t client part) (λ u. parts_done u client parts)

-- the parts of a multi if it succeeded, and none if it was refused
abbrev pub where_done : Run → List Done → List Done
where_done (Err stopped) parts = []
where_done (Ok did) parts = parts

-- the parts that a client's call did; writes of access control lists, session calls and ticks have
-- none
abbrev pub update_done : Tree → ℕ → Update → List Done
update_done t client (Create create) = parts_done t client (part_of.Create create ∷ [])
update_done t client (Delete delete) = parts_done t client (part_of.Delete delete ∷ [])
update_done t client (SetData set) = parts_done t client (part_of.SetData set ∷ [])
update_done t client (SetAcl set) = []
update_done t client (Multi parts) = where_done (run t client parts) (parts_done t client parts)
update_done t client (Open ticks) = []
update_done t client (Ping session) = []
update_done t client (Close session) = []
update_done t client Tick = []

-- the parts that a client's call did, and none where it is refused as exhausted
abbrev pub call_done : Tree → ℕ → Update → List Done
call_done t client update = if is_exhausted t update then [] else update_done t client update

-- the parts that these calls did, in order
abbrev pub calls_done : Tree → List (ℕ × Update) → List Done
calls_done t [] = []
calls_done t (call ∷ calls) = call_done t call.0 call.1 ++ calls_done (step t call.0 call.1).0 calls

-- a fold over the parts that were done, in order
abbrev pub through : {S : Type 0} → (S → Part → PartReply → S) → S → List Done → S
through next s [] = s
through next s (done ∷ more) = through next (next s done.0 done.1) more

-- the two paths are equal
abbrev pub is_same : Path → Path → Bool
is_same = eq_by_cmp path_cmp

-- the part created this path
abbrev pub is_made : Path → PartReply → Bool
is_made path (part_reply.Created made) = is_same path made
is_made path part_reply.Deleted = false
is_made path (part_reply.Set stat) = false
is_made path part_reply.Checked = false

-- the count of sets of a node since the part that created it, after one more part
abbrev pub sets_since : Path → ℕ → Part → PartReply → ℕ
sets_since path sets (part_of.Create create) answer = if is_made path answer then 0 else sets
sets_since path sets (part_of.Delete delete) answer = sets
sets_since path sets (part_of.SetData set) answer = if is_same path set.path then sets + 1 else sets
sets_since path sets (part_of.Check check) answer = sets

-- a node's version is the number of successful sets since the part that created it
abbrev pub VersionCountsSets : Type 0
VersionCountsSets =
    (limits : TreeLimits) (calls : List (ℕ × Update)) (path : Path) (n : Node)
    → finite.get (after_calls (opening_within limits) calls).nodes path ≡ Some n
    → n.version ≡ through (sets_since path) 0 (calls_done (opening_within limits) calls)

-- The paths after one more create. A sequential node beneath `above` is added; the creation of
-- `above` itself empties the list.
abbrev pub with_made : Path → List Path → Bool → PartReply → List Path
with_made above made sequential (part_reply.Created path) =
    if is_same above path then [] else
    if sequential && is_same above (parent_of path) then path ∷ made else
    made
with_made above made sequential part_reply.Deleted = made
with_made above made sequential (part_reply.Set stat) = made
with_made above made sequential part_reply.Checked = made

-- the paths that sequential creates made beneath a node since the part that created it, after one
-- more part
abbrev pub numbered_since : Path → List Path → Part → PartReply → List Path
numbered_since above made (part_of.Create create) answer = with_made above made create.kind.is_sequential answer
numbered_since above made (part_of.Delete delete) answer = made
numbered_since above made (part_of.SetData set) answer = made
numbered_since above made (part_of.Check check) answer = made

-- two sequential creates beneath one node never make the same name, from the node's creation until
-- its removal
abbrev pub NumbersDiffer : Type 0
NumbersDiffer =
    (limits : TreeLimits) (calls : List (ℕ × Update)) (above : Path)
    → IsDistinct is_same (through (numbered_since above) [] (calls_done (opening_within limits) calls))
