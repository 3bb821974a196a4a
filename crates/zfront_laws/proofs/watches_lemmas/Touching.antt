-- What an event of an update reports has changed: the node is gone, or has the zxid of this change.
use Rattle.std.proofs.Common.{◌≡◌, ◌≢◌, ◌∙◌, ◌+◌, ℕ, Bool, true, false, List, [], ◌∷◌, ◌++◌, Option, Some, None, Result}
use Rattle.std.proofs.Common.{Ok, Err, refl, sym, ap, subst, inl, inr, if◌then◌else◌}
use Rattle.std.specs.Prelude.{◌⊎◌}
use Rattle.std.specs.Option.{option_map_or}
use Rattle.std.specs.FinMap as finite
use Rattle.zpath.specs.First.{first_that_holds}
use Rattle.ztree.specs.declared.node.Node.{Node}
use Rattle.ztree.specs.Tree.{Tree, Path, Nodes, parent_of, new_node, with_node, without_node, with_child}
use Rattle.ztree.specs.Tree.{without_child, with_data, with_change_at}
use Rattle.ztree.proofs.Sorted.{paths_total, same_path}
use Rattle.ztree.proofs.Maps.{same_or_other, get-insert-here, get-remove-here, get-remove-elsewhere}
use Rattle.ztree.proofs.Nodes.{get-insert-other}
use Rattle.zcalls.specs.Lists.{Among}
use Rattle.zcalls.specs.declared.refusal.Refusal.{Refusal}
use Rattle.zcalls.specs.declared.refusal.Refusal.TheVariants.{BadVersion, Exhausted}
use Rattle.zcalls.specs.declared.call.Create.{Create}
use Rattle.zcalls.specs.declared.call.Delete.{Delete}
use Rattle.zcalls.specs.declared.call.SetData.{SetData}
use Rattle.zcalls.specs.declared.call.Check.{Check}
use Rattle.zcalls.specs.declared.call.Update.{Update}
use Rattle.zcalls.specs.declared.call.Update.TheVariants as act
use Rattle.zcalls.specs.declared.reply.Reply.{Reply}
use Rattle.zcalls.specs.declared.reply.Reply.TheVariants as reply
use Rattle.zcalls.specs.Step.{step, is_exhausted, update_result, change_result, multi_result}
use Rattle.zcalls.specs.declared.call.Part.{Part}
use Rattle.zcalls.specs.declared.call.Part.TheVariants as part
use Rattle.zcalls.specs.declared.change.ChangeReply.{ChangeReply}
use Rattle.zcalls.specs.declared.change.ChangeReply.TheVariants.{Created, Deleted, Set}
use Rattle.zcalls.specs.declared.reply.PartReply.{PartReply}
use Rattle.zcalls.specs.declared.reply.PartReply.TheVariants as part_reply
use Rattle.zcalls.specs.Part.{create_step, delete_step, set_step, check_step, part_step, reported_as_part, create_refusals}
use Rattle.zcalls.specs.Part.{delete_refusals, unless_refused, made_path, owner_of, term_of, on_version}
use Rattle.zcalls.specs.Part.{has_other_version, with_node_set}
use Rattle.zcalls.specs.Multi.{Run, run, behind, and_then}
use Rattle.zcalls.proofs.Leaving.{Leaves, create_step-leaves, delete_step-leaves, set_step-leaves, part_step-leaves, run-leaves}
use Rattle.zjute.specs.declared.event.EventKind.{EventKind}
use Rattle.zjute.specs.declared.event.EventKind.TheVariants.{NodeCreated, NodeDeleted, NodeDataChanged}
use Rattle.zwatches.specs.declared.changes.event.Event.{Event}
use Rattle.zwatches.specs.changes.Events.{event, events_of, with_parent, part_events, parts_events}
use Rattle.zwatches.specs.changes.Laws.{reports_data}
use Rattle.zfront_laws.proofs.watches_lemmas.Waiting.{reports_loss}

-- what is read of a node reports that it is gone, or that its last change is this one
abbrev pub Dated : (Node → ℕ) → ℕ → Nodes → Path → Type 0
Dated of_node zxid nodes path = (n : Node) → finite.get nodes path ≡ Some n → of_node n ≡ zxid

-- a change of a node leaves it so
module _ (of_node : Node → ℕ) (zxid : ℕ) (path : Path) where
  abbrev At : Nodes → Type 0
  At nodes = Dated of_node zxid nodes path

  changed : (nodes : Nodes) (q : Path) (f : Node → Node) → ((n : Node) → of_node n ≡ zxid → of_node (f n) ≡ zxid)
      → At nodes → At (with_change_at nodes q f)
  changed nodes q f keeps dated = by (finite.get nodes q) refl
    where
      near : (n : Node) → finite.get nodes q ≡ Some n → (path ≡ q) ⊎ (path ≢ q) → At (finite.insert nodes q (f n))
      near n is (inl same) m found =
          let here : Some (f n) ≡ Some m = sym (ap (finite.get (finite.insert nodes q (f n))) same
          ∙ get-insert-here paths_total same_path nodes q (f n)) ∙ found in
          let that : f n ≡ m = cc here in
          ap of_node (sym that) ∙ keeps n (dated n (ap (finite.get nodes) same ∙ is))
      near n is (inr apart) m found = dated m (sym (get-insert-other nodes q (f n) path apart) ∙ found)

      by : (o : Option Node) → finite.get nodes q ≡ o → At (option_map_or (λ n. finite.insert nodes q (f n)) o nodes)
      by None is = dated
      by (Some n) is = near n is (same_or_other paths_total same_path path q)

  inserted : (nodes : Nodes) (q : Path) (new : Node) → of_node new ≡ zxid → At nodes → At (finite.insert nodes q new)
  inserted nodes q new is dated = near (same_or_other paths_total same_path path q)
    where
      near : (path ≡ q) ⊎ (path ≢ q) → At (finite.insert nodes q new)
      near (inl same) m found =
          let here : Some new ≡ Some m = sym (ap (finite.get (finite.insert nodes q new)) same
          ∙ get-insert-here paths_total same_path nodes q new) ∙ found in
          let that : new ≡ m = cc here in
          ap of_node (sym that) ∙ is
      near (inr apart) m found = dated m (sym (get-insert-other nodes q new path apart) ∙ found)

  removed : (nodes : Nodes) (q : Path) → At nodes → At (finite.remove nodes q)
  removed nodes q dated = near (same_or_other paths_total same_path path q)
    where
      near : (path ≡ q) ⊎ (path ≢ q) → At (finite.remove nodes q)
      near (inl same) m found =
          let none : None ≡ Some m = sym (ap (finite.get (finite.remove nodes q)) same ∙ get-remove-here paths_total same_path nodes q) ∙ found in
          absurd (cc none)
      near (inr apart) m found = dated m (sym (get-remove-elsewhere paths_total same_path nodes q path apart) ∙ found)

  -- a node is changed here
  set_here : (nodes : Nodes) (q : Path) (f : Node → Node) → ((n : Node) → of_node (f n) ≡ zxid) → q ≡ path → At (with_change_at nodes q f)
  set_here nodes q f now same = by (finite.get nodes q) refl
    where
      by : (o : Option Node) → finite.get nodes q ≡ o → At (option_map_or (λ n. finite.insert nodes q (f n)) o nodes)
      by None is m found =
          let none : None ≡ Some m = sym (ap (finite.get nodes) (sym same) ∙ is) ∙ found in
          absurd (cc none)
      by (Some n) is m found =
          let here : Some (f n) ≡ Some m = sym (ap (finite.get (finite.insert nodes q (f n))) (sym same)
          ∙ get-insert-here paths_total same_path nodes q (f n)) ∙ found in
          let that : f n ≡ m = cc here in
          ap of_node (sym that) ∙ now n

  made_here : (nodes : Nodes) (q : Path) (new : Node) → of_node new ≡ zxid → q ≡ path → At (finite.insert nodes q new)
  made_here nodes q new is same m found =
      let here : Some new ≡ Some m = sym (ap (finite.get (finite.insert nodes q new)) (sym same)
      ∙ get-insert-here paths_total same_path nodes q new) ∙ found in
      let that : new ≡ m = cc here in
      ap of_node (sym that) ∙ is

  gone_here : (nodes : Nodes) (q : Path) → q ≡ path → At (finite.remove nodes q)
  gone_here nodes q same m found =
      let none : None ≡ Some m = sym (ap (finite.get (finite.remove nodes q)) (sym same) ∙ get-remove-here paths_total same_path nodes q) ∙ found in
      absurd (cc none)

-- the zxid of the data's last change, and of the children's
abbrev pub written_at : Node → ℕ
written_at n = n.mzxid

abbrev pub children_changed_at : Node → ℕ
children_changed_at n = n.pzxid

-- before this change, and so dated
abbrev pub IsDated : (Node → ℕ) → ℕ → Path → Tree → Type 0
IsDated of_node zxid path t = (t.zxid + 1 ≡ zxid) × Dated of_node zxid t.nodes path

module _ (zxid : ℕ) (path : Path) where
  data_kept : (t : Tree) (client : ℕ) (p : Part) → IsDated written_at zxid path t → Leaves (IsDated written_at zxid path) (part_step t client p)
  data_kept t client p dated =
      part_step-leaves (IsDated written_at zxid path) t client p
      (λ create.
      create_step-leaves (IsDated written_at zxid path) t client create
      (λ none.
      let at = made_path t.nodes create.kind create.path in
      let new = new_node create.bytes (owner_of create.kind.lifetime) (term_of create.kind.lifetime) (t.zxid + 1) t.time in (
        dated.0,
        changed written_at zxid path (finite.insert t.nodes at new) (parent_of at) (with_child (t.zxid + 1) create.kind.is_sequential) (λ n is. is)
            (inserted written_at zxid path t.nodes at new dated.0 dated.1),
      )))
      (λ delete.
      delete_step-leaves (IsDated written_at zxid path) t delete
      (λ none. (
        dated.0,
        changed written_at zxid path (finite.remove t.nodes delete.path) (parent_of delete.path) (without_child (t.zxid + 1)) (λ n is. is)
            (removed written_at zxid path t.nodes delete.path dated.1),
      )))
      (λ set.
      set_step-leaves (IsDated written_at zxid path) t set
      (dated.0, changed written_at zxid path t.nodes set.path (with_data set.bytes (t.zxid + 1) t.time) (λ n is. dated.0) dated.1))
      dated

  children_kept : (t : Tree) (client : ℕ) (p : Part) → IsDated children_changed_at zxid path t
      → Leaves (IsDated children_changed_at zxid path) (part_step t client p)
  children_kept t client p dated =
      part_step-leaves (IsDated children_changed_at zxid path) t client p
      (λ create.
      create_step-leaves (IsDated children_changed_at zxid path) t client create
      (λ none.
      let at = made_path t.nodes create.kind create.path in
      let new = new_node create.bytes (owner_of create.kind.lifetime) (term_of create.kind.lifetime) (t.zxid + 1) t.time in (
        dated.0,
        changed children_changed_at zxid path (finite.insert t.nodes at new) (parent_of at) (with_child (t.zxid + 1) create.kind.is_sequential)
            (λ n is. dated.0)
            (inserted children_changed_at zxid path t.nodes at new dated.0 dated.1),
      )))
      (λ delete.
      delete_step-leaves (IsDated children_changed_at zxid path) t delete
      (λ none. (
        dated.0,
        changed children_changed_at zxid path (finite.remove t.nodes delete.path) (parent_of delete.path)
            (without_child (t.zxid + 1)) (λ n is. dated.0)
            (removed children_changed_at zxid path t.nodes delete.path dated.1),
      )))
      (λ set.
      set_step-leaves (IsDated children_changed_at zxid path) t set
      (dated.0, changed children_changed_at zxid path t.nodes set.path (with_data set.bytes (t.zxid + 1) t.time) (λ n is. is) dated.1))
      dated

-- one of the events reports this of the path
abbrev pub Reports : (EventKind → Bool) → Path → List Event → Type 0
Reports reports path events = (e : Event) × Among e events × (reports e.kind ≡ true) × (e.path ≡ path)

reports-append : (reports : EventKind → Bool) (path : Path) (events more : List Event) → Reports reports path (events ++ more)
    → Reports reports path events ⊎ Reports reports path more
reports-append reports path [] more has = inr has
reports-append reports path (e ∷ events) more (it, inl here, does, at) = inl (it, inl here, does, at)
reports-append reports path (e ∷ events) more (it, inr there, does, at) = by (reports-append reports path events more (it, there, does, at))
  where
    by : Reports reports path events ⊎ Reports reports path more → Reports reports path (e ∷ events) ⊎ Reports reports path more
    by (inl has) = inl (has.0, inr has.1, has.2, has.3)
    by (inr has) = inr has

pub no_event : {P : Type 0} (reports : EventKind → Bool) (path : Path) → Reports reports path [] → P
no_event reports path has = absurd has.1

-- the two events of a node that came or went
with_parent_data : {P : Type 0} (k : EventKind) (at path : Path) → (at ≡ path → P) → Reports reports_data path (with_parent k at) → P
with_parent_data k at path here (e, inl is, does, same) = here (ap (λ (e : Event). e.path) is ∙ same)
with_parent_data k at path here (e, inr (inl is), does, same) =
    absurd (cc (ap (λ (e : Event). reports_data e.kind) is ∙ does))
with_parent_data k at path here (e, inr (inr none), does, same) = absurd none

with_parent_children : {P : Type 0} (k : EventKind) (at path : Path) → (reports_loss k ≡ true → at ≡ path → P)
    → (parent_of at ≡ path → P) → Reports reports_loss path (with_parent k at) → P
with_parent_children k at path here above (e, inl is, does, same) =
    here (ap (λ (e : Event). reports_loss e.kind) is ∙ does) (ap (λ (e : Event). e.path) is ∙ same)
with_parent_children k at path here above (e, inr (inl is), does, same) = above (ap (λ (e : Event). e.path) is ∙ same)
with_parent_children k at path here above (e, inr (inr none), does, same) = absurd none

-- what a change did where its events report it
abbrev ChangeDid : ℕ → Path → (ChangeReply → List Event) → Result (Tree × ChangeReply) Refusal → Type 0
ChangeDid zxid path events (Err refusal) = Unit {0}
ChangeDid zxid path events (Ok (u, did)) =
    (Reports reports_data path (events did) → Dated written_at zxid u.nodes path)
    × (Reports reports_loss path (events did) → Dated children_changed_at zxid u.nodes path)

abbrev of_create : ChangeReply → List Event
of_create (Created path) = with_parent NodeCreated path
of_create other = []

abbrev of_delete : Delete → ChangeReply → List Event
of_delete delete Deleted = with_parent NodeDeleted delete.path
of_delete delete other = []

abbrev of_set : SetData → ChangeReply → List Event
of_set set (Set stat) = event NodeDataChanged set.path ∷ []
of_set set other = []

create_did : (t : Tree) (client : ℕ) (create : Create) (path : Path) → ChangeDid (t.zxid + 1) path of_create (create_step t client create)
unfolding create_step
create_did t client create path = by (first_that_holds (create_refusals t client create))
  where
    at : Path
    at = made_path t.nodes create.kind create.path

    new : Node
    new = new_node create.bytes (owner_of create.kind.lifetime) (term_of create.kind.lifetime) (t.zxid + 1) t.time

    more : Nodes
    more = finite.insert t.nodes at new

    f : Node → Node
    f = with_child (t.zxid + 1) create.kind.is_sequential

    by : (refused : Option Refusal) → ChangeDid (t.zxid + 1) path of_create (unless_refused refused (
      with_node t at create.bytes (owner_of create.kind.lifetime) (term_of create.kind.lifetime) create.kind.is_sequential,
      Created at,
    ))
    by (Some refusal) = tt
    by None = (
      with_parent_data NodeCreated at path
          (λ same. changed written_at (t.zxid + 1) path more (parent_of at) f (λ n is. is)
          (made_here written_at (t.zxid + 1) path t.nodes at new refl same)),
      with_parent_children NodeCreated at path (λ never same. absurd (cc never))
          (λ same. set_here children_changed_at (t.zxid + 1) path more (parent_of at) f (λ n. refl) same),
    )

delete_did : (t : Tree) (delete : Delete) (path : Path) → ChangeDid (t.zxid + 1) path (of_delete delete) (delete_step t delete)
unfolding delete_step
delete_did t delete path = by (first_that_holds (delete_refusals t.nodes delete))
  where
    fewer : Nodes
    fewer = finite.remove t.nodes delete.path

    f : Node → Node
    f = without_child (t.zxid + 1)

    by : (refused : Option Refusal) → ChangeDid (t.zxid + 1) path (of_delete delete) (unless_refused refused (without_node t delete.path, Deleted))
    by (Some refusal) = tt
    by None = (
      with_parent_data NodeDeleted delete.path path
          (λ same. changed written_at (t.zxid + 1) path fewer (parent_of delete.path) f (λ n is. is)
          (gone_here written_at (t.zxid + 1) path t.nodes delete.path same)),
      with_parent_children NodeDeleted delete.path path
          (λ does same. changed children_changed_at (t.zxid + 1) path fewer (parent_of delete.path) f (λ n is. refl)
          (gone_here children_changed_at (t.zxid + 1) path t.nodes delete.path same))
          (λ same. set_here children_changed_at (t.zxid + 1) path fewer (parent_of delete.path) f (λ n. refl) same),
    )

written_data : {P : Type 0} (at path : Path) → (at ≡ path → P) → Reports reports_data path (event NodeDataChanged at ∷ []) → P
written_data at path here (e, inl is, does, same) = here (ap (λ (e : Event). e.path) is ∙ same)
written_data at path here (e, inr none, does, same) = absurd none

written_children : {P : Type 0} (at path : Path) → Reports reports_loss path (event NodeDataChanged at ∷ []) → P
written_children at path (e, inl is, does, same) = absurd (cc (ap (λ (e : Event). reports_loss e.kind) is ∙ does))
written_children at path (e, inr none, does, same) = absurd none

set_did : (t : Tree) (set : SetData) (path : Path) → ChangeDid (t.zxid + 1) path (of_set set) (set_step t set)
unfolding set_step
set_did t set path = by (finite.get t.nodes set.path)
  where
    write : Node → Node
    write = with_data set.bytes (t.zxid + 1) t.time

    chosen : (n : Node) (test : Bool) → ChangeDid (t.zxid + 1) path (of_set set) (if test then Err BadVersion
        else Ok (with_node_set t set.path (write n)))
    chosen n true = tt
    chosen n false = (
      written_data set.path path (λ same. made_here written_at (t.zxid + 1) path t.nodes set.path (write n) refl same),
      written_children set.path path,
    )

    by : (o : Option Node) → ChangeDid (t.zxid + 1) path (of_set set) (on_version set.version o (λ n. with_node_set t set.path (write n)))
    by None = tt
    by (Some n) = chosen n (has_other_version set.version n)

-- what a part did
abbrev PartDid : ℕ → Path → Part → Result (Tree × PartReply) Refusal → Type 0
PartDid zxid path p (Err refusal) = Unit {0}
PartDid zxid path p (Ok (u, reported)) =
    (Reports reports_data path (part_events p reported) → Dated written_at zxid u.nodes path)
    × (Reports reports_loss path (part_events p reported) → Dated children_changed_at zxid u.nodes path)

part_create : (zxid : ℕ) (path : Path) (create : Create) (r : Result (Tree × ChangeReply) Refusal) → ChangeDid zxid path of_create r
    → PartDid zxid path (part.Create create) (reported_as_part r)
part_create zxid path create (Err refusal) did = tt
part_create zxid path create (Ok (u, Created at)) did = did
part_create zxid path create (Ok (u, Deleted)) did = did
part_create zxid path create (Ok (u, Set stat)) did = did

part_delete : (zxid : ℕ) (path : Path) (delete : Delete) (r : Result (Tree × ChangeReply) Refusal) → ChangeDid zxid path (of_delete delete) r
    → PartDid zxid path (part.Delete delete) (reported_as_part r)
part_delete zxid path delete (Err refusal) did = tt
part_delete zxid path delete (Ok (u, Created at)) did = did
part_delete zxid path delete (Ok (u, Deleted)) did = did
part_delete zxid path delete (Ok (u, Set stat)) did = did

part_set : (zxid : ℕ) (path : Path) (set : SetData) (r : Result (Tree × ChangeReply) Refusal) → ChangeDid zxid path (of_set set) r
    → PartDid zxid path (part.SetData set) (reported_as_part r)
part_set zxid path set (Err refusal) did = tt
part_set zxid path set (Ok (u, Created at)) did = did
part_set zxid path set (Ok (u, Deleted)) did = did
part_set zxid path set (Ok (u, Set stat)) did = did

part_check : (t : Tree) (check : Check) (path : Path) → PartDid (t.zxid + 1) path (part.Check check) (check_step t check)
unfolding check_step
part_check t check path = by (finite.get t.nodes check.path)
  where
    chosen : (test : Bool) → PartDid (t.zxid + 1) path (part.Check check) (if test then Err BadVersion else Ok (t, part_reply.Checked))
    chosen true = tt
    chosen false = (no_event reports_data path, no_event reports_loss path)

    by : (o : Option Node) → PartDid (t.zxid + 1) path (part.Check check) (on_version check.version o (λ n. (t, part_reply.Checked)))
    by None = tt
    by (Some n) = chosen (has_other_version check.version n)

part_did : (t : Tree) (client : ℕ) (p : Part) (path : Path) → PartDid (t.zxid + 1) path p (part_step t client p)
part_did t client (part.Create create) path = part_create (t.zxid + 1) path create (create_step t client create) (create_did t client create path)
part_did t client (part.Delete delete) path = part_delete (t.zxid + 1) path delete (delete_step t delete) (delete_did t delete path)
part_did t client (part.SetData set) path = part_set (t.zxid + 1) path set (set_step t set) (set_did t set path)
part_did t client (part.Check check) path = part_check t check path

-- each part has the same zxid
same_zxid : (zxid : ℕ) (t : Tree) (client : ℕ) (p : Part) → t.zxid + 1 ≡ zxid → Leaves (λ u. u.zxid + 1 ≡ zxid) (part_step t client p)
same_zxid zxid t client p is =
    part_step-leaves (λ u. u.zxid + 1 ≡ zxid) t client p
    (λ create. create_step-leaves (λ u. u.zxid + 1 ≡ zxid) t client create (λ none. is))
    (λ delete. delete_step-leaves (λ u. u.zxid + 1 ≡ zxid) t delete (λ none. is))
    (λ set. set_step-leaves (λ u. u.zxid + 1 ≡ zxid) t set is) is

-- what the parts of a multi did
abbrev RunDid : ℕ → Path → List Part → Run → Type 0
RunDid zxid path parts (Err refused) = Unit {0}
RunDid zxid path parts (Ok (u, reported)) =
    (Reports reports_data path (parts_events parts reported) → Dated written_at zxid u.nodes path)
    × (Reports reports_loss path (parts_events parts reported) → Dated children_changed_at zxid u.nodes path)

run_behind : (zxid : ℕ) (path : Path) (v : Tree) (p : Part) (parts : List Part) (first : PartReply) (r : Run)
    → ((Reports reports_data path (part_events p first) → Dated written_at zxid v.nodes path)
    × (Reports reports_loss path (part_events p first) → Dated children_changed_at zxid v.nodes path))
    → (Dated written_at zxid v.nodes path → Leaves (IsDated written_at zxid path) r)
    → (Dated children_changed_at zxid v.nodes path → Leaves (IsDated children_changed_at zxid path) r)
    → RunDid zxid path parts r → RunDid zxid path (p ∷ parts) (behind first r)
run_behind zxid path v p parts first (Err (number, refusal)) did by_data by_children rest = tt
run_behind zxid path v p parts first (Ok (u, reported)) did by_data by_children rest = (
  λ reports. of_data (reports-append reports_data path (part_events p first) (parts_events parts reported) reports),
  λ reports. of_children (reports-append reports_loss path (part_events p first) (parts_events parts reported) reports),
)
  where
    of_data : Reports reports_data path (part_events p first) ⊎ Reports reports_data path (parts_events parts reported) → Dated written_at zxid u.nodes path
    of_data (inl now) = (by_data (did.0 now)).1
    of_data (inr later) = rest.0 later

    of_children : Reports reports_loss path (part_events p first) ⊎ Reports reports_loss path (parts_events parts reported)
        → Dated children_changed_at zxid u.nodes path
    of_children (inl now) = (by_children (did.1 now)).1
    of_children (inr later) = rest.1 later

run_then : (zxid : ℕ) (path : Path) (client : ℕ) (p : Part) (parts : List Part) (r : Result (Tree × PartReply) Refusal) → PartDid zxid path p r
    → Leaves (λ u. u.zxid + 1 ≡ zxid) r → ((v : Tree) → v.zxid + 1 ≡ zxid → RunDid zxid path parts (run v client parts))
    → RunDid zxid path (p ∷ parts) (and_then r (λ v. run v client parts))
run_then zxid path client p parts (Err refusal) did same rest = tt
run_then zxid path client p parts (Ok (v, first)) did same rest =
    run_behind zxid path v p parts first (run v client parts) did
    (λ dated. run-leaves (IsDated written_at zxid path) (data_kept zxid path) parts v client (same, dated))
    (λ dated. run-leaves (IsDated children_changed_at zxid path) (children_kept zxid path) parts v client (same, dated))
    (rest v same)

run_did : (zxid : ℕ) (path : Path) (client : ℕ) (parts : List Part) (t : Tree) → t.zxid + 1 ≡ zxid → RunDid zxid path parts (run t client parts)
unfolding run
run_did zxid path client [] t is = (no_event reports_data path, no_event reports_loss path)
run_did zxid path client (p ∷ parts) t is =
    run_then zxid path client p parts (part_step t client p) (subst (λ z. PartDid z path p (part_step t client p)) is (part_did t client p path))
    (same_zxid zxid t client p is) (λ v same. run_did zxid path client parts v same)

-- what an update did, where its events report it
abbrev pub Touches : ℕ → Path → Update → Tree × Reply → Type 0
Touches zxid path u did =
    (Reports reports_data path (events_of u did.1) → Dated written_at zxid did.0.nodes path)
    × (Reports reports_loss path (events_of u did.1) → Dated children_changed_at zxid did.0.nodes path)

no_events : (zxid : ℕ) (path : Path) (u : Update) (did : Tree × Reply) → events_of u did.1 ≡ [] → Touches zxid path u did
no_events zxid path u did none = (
  λ reports. no_event reports_data path (subst (Reports reports_data path) none reports),
  λ reports. no_event reports_loss path (subst (Reports reports_loss path) none reports),
)

create_touches : (zxid : ℕ) (path : Path) (t : Tree) (create : Create) (r : Result (Tree × ChangeReply) Refusal) → ChangeDid zxid path of_create r
    → Touches zxid path (act.Create create) (change_result t r)
create_touches zxid path t create (Err refusal) did = no_events zxid path (act.Create create) (t, reply.Refused refusal) refl
create_touches zxid path t create (Ok (u, Created at)) did = did
create_touches zxid path t create (Ok (u, Deleted)) did = did
create_touches zxid path t create (Ok (u, Set stat)) did = did

delete_touches : (zxid : ℕ) (path : Path) (t : Tree) (delete : Delete) (r : Result (Tree × ChangeReply) Refusal)
    → ChangeDid zxid path (of_delete delete) r
    → Touches zxid path (act.Delete delete) (change_result t r)
delete_touches zxid path t delete (Err refusal) did = no_events zxid path (act.Delete delete) (t, reply.Refused refusal) refl
delete_touches zxid path t delete (Ok (u, Created at)) did = did
delete_touches zxid path t delete (Ok (u, Deleted)) did = did
delete_touches zxid path t delete (Ok (u, Set stat)) did = did

set_touches : (zxid : ℕ) (path : Path) (t : Tree) (set : SetData) (r : Result (Tree × ChangeReply) Refusal) → ChangeDid zxid path (of_set set) r
    → Touches zxid path (act.SetData set) (change_result t r)
set_touches zxid path t set (Err refusal) did = no_events zxid path (act.SetData set) (t, reply.Refused refusal) refl
set_touches zxid path t set (Ok (u, Created at)) did = did
set_touches zxid path t set (Ok (u, Deleted)) did = did
set_touches zxid path t set (Ok (u, Set stat)) did = did

multi_touches : (zxid : ℕ) (path : Path) (t : Tree) (parts : List Part) (r : Run) → RunDid zxid path parts r
    → Touches zxid path (act.Multi parts) (multi_result t r)
multi_touches zxid path t parts (Err (number, refusal)) did = no_events zxid path (act.Multi parts) (t, reply.MultiRefused number refusal) refl
multi_touches zxid path t parts (Ok (u, reported)) did = did

either : (zxid : ℕ) (path : Path) (u : Update) (b : Bool) (r s : Tree × Reply) → Touches zxid path u r → Touches zxid path u s
    → Touches zxid path u (if b then r else s)
either zxid path u true r s first second = first
either zxid path u false r s first second = second

result_touches : (t : Tree) (u : Update) (path : Path) → Touches (t.zxid + 1) path u (update_result t 0 u)
result_touches t (act.Create create) path = create_touches (t.zxid + 1) path t create (create_step t 0 create) (create_did t 0 create path)
result_touches t (act.Delete delete) path = delete_touches (t.zxid + 1) path t delete (delete_step t delete) (delete_did t delete path)
result_touches t (act.SetData set) path = set_touches (t.zxid + 1) path t set (set_step t set) (set_did t set path)
result_touches t (act.SetAcl set) path = no_events (t.zxid + 1) path (act.SetAcl set) (update_result t 0 (act.SetAcl set)) refl
result_touches t (act.Multi parts) path = multi_touches (t.zxid + 1) path t parts (run t 0 parts) (run_did (t.zxid + 1) path 0 parts t refl)
result_touches t (act.Open ticks) path = no_events (t.zxid + 1) path (act.Open ticks) (update_result t 0 (act.Open ticks)) refl
result_touches t (act.Ping session) path = no_events (t.zxid + 1) path (act.Ping session) (update_result t 0 (act.Ping session)) refl
result_touches t (act.Close session) path = no_events (t.zxid + 1) path (act.Close session) (update_result t 0 (act.Close session)) refl
result_touches t act.Tick path = no_events (t.zxid + 1) path act.Tick (update_result t 0 act.Tick) refl

refused_events : (u : Update) (refusal : Refusal) → events_of u (reply.Refused refusal) ≡ []
refused_events (act.Create create) refusal = refl
refused_events (act.Delete delete) refusal = refl
refused_events (act.SetData set) refusal = refl
refused_events (act.Multi parts) refusal = refl
refused_events other refusal = refl

pub update_touches : (t : Tree) (u : Update) (path : Path) → Touches (t.zxid + 1) path u (step t 0 u)
unfolding step
update_touches t u path =
    either (t.zxid + 1) path u (is_exhausted t u) (t, reply.Refused Exhausted) (update_result t 0 u)
    (no_events (t.zxid + 1) path u (t, reply.Refused Exhausted) (refused_events u Exhausted)) (result_touches t u path)
