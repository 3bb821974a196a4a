-- The events of an update that is no multi: each is at another path, where a node was or is.
use Rattle.std.proofs.Common.{◌≡◌, ◌≢◌, ◌∙◌, ◌+◌, Bool, true, false, List, [], ◌∷◌, Option, Some, None, Result, Ok, Err, refl, sym, ap, subst, inl, inr}
use mathlib.Core.Bool.{true≢false}
use Rattle.std.specs.Prelude.{◌⊎◌, is_some, not, if◌then◌else◌}
use Rattle.std.specs.FinMap as finite
use Rattle.zpath.specs.First.{first_that_holds}
use Rattle.zpath.proofs.First.{no_test_holds}
use Rattle.ztree.specs.Lawful.{IsLawful, IsPersistent}
use Rattle.ztree.specs.declared.node.Node.{Node}
use Rattle.ztree.specs.Tree.{Tree, Path, Nodes, has_node, parent_of, new_node, with_node, without_node, with_child, with_data}
use Rattle.ztree.proofs.Ending.{has_node-changed}
use Rattle.ztree.proofs.Maps.{get-insert-here}
use Rattle.ztree.proofs.Nodes.{parent_is_other}
use Rattle.ztree.proofs.Sorted.{paths_total, same_path}
use Rattle.zcalls.specs.Lists.{Among}
use Rattle.zcalls.specs.declared.call.Create.{Create}
use Rattle.zcalls.specs.declared.call.Delete.{Delete}
use Rattle.zcalls.specs.declared.call.Part.{Part}
use Rattle.zcalls.specs.declared.call.SetData.{SetData}
use Rattle.zcalls.specs.declared.call.Update.{Update as Act}
use Rattle.zcalls.specs.declared.call.Update.TheVariants as act
use Rattle.zcalls.specs.declared.change.ChangeReply.{ChangeReply}
use Rattle.zcalls.specs.declared.change.ChangeReply.TheVariants.{Created, Deleted, Set}
use Rattle.zcalls.specs.declared.refusal.Refusal.{Refusal}
use Rattle.zcalls.specs.declared.refusal.Refusal.TheVariants.{BadVersion, Exhausted}
use Rattle.zcalls.specs.declared.reply.Reply.{Reply}
use Rattle.zcalls.specs.declared.reply.Reply.TheVariants as reply
use Rattle.zcalls.specs.Part.{create_step, delete_step, set_step, create_refusals, delete_refusals, unless_refused}
use Rattle.zcalls.specs.Part.{made_path, owner_of, term_of, on_version, has_other_version, with_node_set, is_root}
use Rattle.zcalls.specs.Step.{step, is_exhausted, update_result, change_result}
use Rattle.zjute.specs.declared.event.EventKind.{EventKind}
use Rattle.zjute.specs.declared.event.EventKind.TheVariants.{NodeCreated, NodeDeleted, NodeDataChanged}
use Rattle.zwatches.specs.declared.changes.event.Event.{Event}
use Rattle.zwatches.specs.changes.Events.{event, events_of, with_parent}
use Rattle.zfront_laws.proofs.watches_lemmas.Telling.{AreApart}
use Rattle.zfront_laws.proofs.watches_lemmas.Waiting.{of_create, of_delete, of_set}

-- a node is there, before or after
abbrev pub Stood : Nodes → Nodes → Path → Type 0
Stood old now path = (has_node old path ≡ true) ⊎ (has_node now path ≡ true)

pub record IsSingle (old now : Nodes) (es : List Event) : Type 0 where
  pub stood : (e : Event) → Among e es → Stood old now e.path
  pub apart : AreApart es

nothing : (old now : Nodes) → IsSingle old now []
nothing old now = record { stood = λ e none. absurd none; apart = tt }

alone : (old now : Nodes) (k : EventKind) (at : Path) → Stood old now at → IsSingle old now (event k at ∷ [])
alone old now k at here = record { stood = by; apart = (tt, tt) }
  where
    by : (e : Event) → Among e (event k at ∷ []) → Stood old now e.path
    by e (inl is) = subst (λ (e : Event). Stood old now e.path) is here
    by e (inr none) = absurd none

family : (old now : Nodes) (k : EventKind) (at : Path) → at ≢ [] → Stood old now at → Stood old now (parent_of at)
    → IsSingle old now (with_parent k at)
family old now k at below here over = record { stood = by; apart = ((parent_is_other at below, tt), (tt, tt)) }
  where
    by : (e : Event) → Among e (with_parent k at) → Stood old now e.path
    by e (inl is) = subst (λ (e : Event). Stood old now e.path) is here
    by e (inr (inl is)) = subst (λ (e : Event). Stood old now e.path) is over
    by e (inr (inr none)) = absurd none

-- ---- changes

-- each node has its parent
abbrev HasParents : Nodes → Type 0
HasParents nodes = (path : Path) → has_node nodes path ≡ true → IsPersistent (finite.get nodes (parent_of path))

-- what a change did, where it leaves each node its parent
abbrev Did : Tree → (ChangeReply → List Event) → Result (Tree × ChangeReply) Refusal → Type 0
Did t events (Err refusal) = Unit {0}
Did t events (Ok (u, did)) = HasParents u.nodes → IsSingle t.nodes u.nodes (events did)

is_there : (o : Option Node) → IsPersistent o → is_some o ≡ true
is_there o kept = ap is_some kept.1

create_did : (t : Tree) (create : Create) → IsLawful t → Did t of_create (create_step t 0 create)
unfolding create_step
create_did t create lawful = by (first_that_holds (create_refusals t 0 create)) refl
  where
    at : Path
    at = made_path t.nodes create.kind create.path

    new : Node
    new = new_node create.bytes (owner_of create.kind.lifetime) (term_of create.kind.lifetime) (t.zxid + 1) t.time

    u : Tree
    u = with_node t at create.bytes (owner_of create.kind.lifetime) (term_of create.kind.lifetime) create.kind.is_sequential

    here : has_node u.nodes at ≡ true
    here =
        has_node-changed (finite.insert t.nodes at new) (parent_of at) (with_child (t.zxid + 1) create.kind.is_sequential) at
        ∙ ap is_some (get-insert-here paths_total same_path t.nodes at new)

    by : (refused : Option Refusal) → first_that_holds (create_refusals t 0 create) ≡ refused → Did t of_create (unless_refused refused (u, Created at))
    by (Some refusal) is = tt
    by None is =
        let tests = no_test_holds (create_refusals t 0 create) is in
        λ after.
        family t.nodes u.nodes NodeCreated at
        (λ root. true≢false (sym (is_there (finite.get t.nodes []) lawful.root) ∙ ap (has_node t.nodes) (sym root) ∙ tests.1.1.1.1.1.1.0))
        (inr here) (inr (is_there (finite.get u.nodes (parent_of at)) (after at here)))

turned : (b : Bool) → not b ≡ false → b ≡ true
turned true is = refl
turned false is = absurd (true≢false is)

delete_did : (t : Tree) (delete : Delete) → IsLawful t → Did t (of_delete delete) (delete_step t delete)
unfolding delete_step
delete_did t delete lawful = by (first_that_holds (delete_refusals t.nodes delete)) refl
  where
    u : Tree
    u = without_node t delete.path

    by : (refused : Option Refusal) → first_that_holds (delete_refusals t.nodes delete) ≡ refused → Did t (of_delete delete) (unless_refused refused (u, Deleted))
    by (Some refusal) is = tt
    by None is =
        let tests = no_test_holds (delete_refusals t.nodes delete) is in
        let here = turned (has_node t.nodes delete.path) tests.1.0 in
        λ after.
        family t.nodes u.nodes NodeDeleted delete.path (λ root. true≢false (sym (ap is_root root) ∙ tests.0)) (inl here)
        (inl (is_there (finite.get t.nodes (parent_of delete.path)) (lawful.parents delete.path here)))

set_did : (t : Tree) (set : SetData) → Did t (of_set set) (set_step t set)
unfolding set_step
set_did t set = by (finite.get t.nodes set.path) refl
  where
    write : Node → Node
    write = with_data set.bytes (t.zxid + 1) t.time

    chosen : (n : Node) → finite.get t.nodes set.path ≡ Some n → (test : Bool)
        → Did t (of_set set) (if test then Err BadVersion else Ok (with_node_set t set.path (write n)))
    chosen n is true = tt
    chosen n is false = λ after.
        alone t.nodes (finite.insert t.nodes set.path (write n)) NodeDataChanged set.path (inl (ap is_some is))

    by : (o : Option Node) → finite.get t.nodes set.path ≡ o → Did t (of_set set) (on_version set.version o (λ n. with_node_set t set.path (write n)))
    by None is = tt
    by (Some n) is = chosen n is (has_other_version set.version n)

-- ---- updates

-- what an update did
abbrev UpdateDid : Tree → Act → Tree × Reply → Type 0
UpdateDid t u did = HasParents did.0.nodes → IsSingle t.nodes did.0.nodes (events_of u did.1)

create_reported : (t : Tree) (create : Create) (r : Result (Tree × ChangeReply) Refusal) → Did t of_create r
    → UpdateDid t (act.Create create) (change_result t r)
create_reported t create (Err refusal) did = λ after. nothing t.nodes t.nodes
create_reported t create (Ok (u, Created at)) did = did
create_reported t create (Ok (u, Deleted)) did = did
create_reported t create (Ok (u, Set stat)) did = did

delete_reported : (t : Tree) (delete : Delete) (r : Result (Tree × ChangeReply) Refusal) → Did t (of_delete delete) r
    → UpdateDid t (act.Delete delete) (change_result t r)
delete_reported t delete (Err refusal) did = λ after. nothing t.nodes t.nodes
delete_reported t delete (Ok (u, Created at)) did = did
delete_reported t delete (Ok (u, Deleted)) did = did
delete_reported t delete (Ok (u, Set stat)) did = did

set_reported : (t : Tree) (set : SetData) (r : Result (Tree × ChangeReply) Refusal) → Did t (of_set set) r
    → UpdateDid t (act.SetData set) (change_result t r)
set_reported t set (Err refusal) did = λ after. nothing t.nodes t.nodes
set_reported t set (Ok (u, Created at)) did = did
set_reported t set (Ok (u, Deleted)) did = did
set_reported t set (Ok (u, Set stat)) did = did

either : (t : Tree) (u : Act) (b : Bool) (r s : Tree × Reply) → UpdateDid t u r → UpdateDid t u s → UpdateDid t u (if b then r else s)
either t u true r s first second = first
either t u false r s first second = second

-- a multi
abbrev pub OfMulti : Act → Type 0
OfMulti u = (parts : List Part) × (u ≡ act.Multi parts)

kind_of : (t : Tree) (u : Act) → IsLawful t → OfMulti u ⊎ UpdateDid t u (step t 0 u)
unfolding step
kind_of t (act.Create create) lawful =
    let u = act.Create create in
    inr (either t u (is_exhausted t u) (t, reply.Refused Exhausted) (update_result t 0 u) (λ after. nothing t.nodes t.nodes)
    (create_reported t create (create_step t 0 create) (create_did t create lawful)))
kind_of t (act.Delete delete) lawful =
    let u = act.Delete delete in
    inr (either t u (is_exhausted t u) (t, reply.Refused Exhausted) (update_result t 0 u) (λ after. nothing t.nodes t.nodes)
    (delete_reported t delete (delete_step t delete) (delete_did t delete lawful)))
kind_of t (act.SetData set) lawful =
    let u = act.SetData set in
    inr (either t u (is_exhausted t u) (t, reply.Refused Exhausted) (update_result t 0 u) (λ after. nothing t.nodes t.nodes)
    (set_reported t set (set_step t set) (set_did t set)))
kind_of t (act.SetAcl set) lawful = inr (λ after. nothing t.nodes (step t 0 (act.SetAcl set)).0.nodes)
kind_of t (act.Multi parts) lawful = inl (parts, refl)
kind_of t (act.Open ticks) lawful = inr (λ after. nothing t.nodes (step t 0 (act.Open ticks)).0.nodes)
kind_of t (act.Ping session) lawful = inr (λ after. nothing t.nodes (step t 0 (act.Ping session)).0.nodes)
kind_of t (act.Close session) lawful = inr (λ after. nothing t.nodes (step t 0 (act.Close session)).0.nodes)
kind_of t act.Tick lawful = inr (λ after. nothing t.nodes (step t 0 act.Tick).0.nodes)

pub single_or_multi : (t : Tree) (u : Act) → IsLawful t → IsLawful (step t 0 u).0
    → OfMulti u ⊎ IsSingle t.nodes (step t 0 u).0.nodes (events_of u (step t 0 u).1)
single_or_multi t u lawful after = by (kind_of t u lawful)
  where
    by : OfMulti u ⊎ UpdateDid t u (step t 0 u) → OfMulti u ⊎ IsSingle t.nodes (step t 0 u).0.nodes (events_of u (step t 0 u).1)
    by (inl multi) = inl multi
    by (inr did) = inr (did after.parents)
