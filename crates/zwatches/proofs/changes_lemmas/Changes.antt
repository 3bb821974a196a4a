-- Every change that an update makes is reported.
use Rattle.std.proofs.Common.{◌≡◌, ◌≢◌, ◌+◌, ℕ, Bool, true, false, List, [], ◌∷◌, ◌++◌, Option, Some, None, Result, Ok, Err, refl, sym, ap, inl, inr, ◌∙◌, if◌then◌else◌}
use Rattle.std.specs.Option.{option_map, option_map_or}
use Rattle.std.specs.FinMap as finite
use Rattle.zpath.specs.First.{first_that_holds}
use Rattle.ztree.specs.declared.node.Node.{Node}
use Rattle.ztree.specs.Tree.{Tree, Path, Nodes, parent_of, new_node, with_node, without_node, with_child, without_child, with_data, with_acl, with_change_at}
use Rattle.ztree.proofs.Sorted.{paths_total, same_path}
use Rattle.ztree.proofs.Maps.{same_or_other, get-insert-here, get-remove-elsewhere}
use Rattle.ztree.proofs.Nodes.{get-insert-other, changed_at-some}
use Rattle.zcalls.specs.declared.refusal.Refusal.{Refusal}
use Rattle.zcalls.specs.declared.refusal.Refusal.TheVariants.{Exhausted, BadVersion}
use Rattle.zcalls.specs.declared.call.Create.{Create}
use Rattle.zcalls.specs.declared.call.Delete.{Delete}
use Rattle.zcalls.specs.declared.call.SetData.{SetData}
use Rattle.zcalls.specs.declared.call.SetAcl.{SetAcl}
use Rattle.zcalls.specs.declared.call.Check.{Check}
use Rattle.zcalls.specs.declared.call.Part.{Part}
use Rattle.zcalls.specs.declared.call.Part.TheVariants as part
use Rattle.zcalls.specs.declared.call.Update.{Update}
use Rattle.zcalls.specs.declared.call.Update.TheVariants as act
use Rattle.zcalls.specs.declared.change.ChangeReply.{ChangeReply}
use Rattle.zcalls.specs.declared.change.ChangeReply.TheVariants.{Created, Deleted, Set}
use Rattle.zcalls.specs.declared.reply.PartReply.{PartReply}
use Rattle.zcalls.specs.declared.reply.PartReply.TheVariants as part_reply
use Rattle.zcalls.specs.declared.reply.Reply.{Reply}
use Rattle.zcalls.specs.declared.reply.Reply.TheVariants as reply
use Rattle.zcalls.specs.Part.{create_step, delete_step, set_step, acl_step, check_step, part_step, reported_as_part, create_refusals, delete_refusals, unless_refused, made_path, owner_of, term_of, on_version, has_other_version, unless_other, has_other_acl, with_node_set}
use Rattle.zcalls.specs.Multi.{Run, run, behind, and_then}
use Rattle.zcalls.specs.Step.{step, is_exhausted, update_result, change_result, multi_result}
use Rattle.zjute.specs.declared.event.EventKind.{EventKind}
use Rattle.zwatches.specs.declared.changes.event.Event.{Event}
use Rattle.zjute.specs.declared.event.EventKind.TheVariants.{NodeCreated, NodeDeleted, NodeDataChanged}
use Rattle.zwatches.specs.changes.Events.{event, with_parent, events_of, part_events, parts_events}
use Rattle.zwatches.specs.changes.Laws.{but_children, data_at, children_at, reports_data, reports_children, Misses, takes_away, ReportsChanges, EventsReportEveryChange}

-- what is read of the node at a path
abbrev read_at : {X : Type 0} → (Node → X) → Nodes → Path → Option X
read_at F nodes path = option_map F (finite.get nodes path)

-- a change of a node that leaves what is read of it
change_keeps : {X : Type 0} (F : Node → X) (nodes : Nodes) (q : Path) (f : Node → Node) (path : Path) → ((n : Node) → F (f n) ≡ F n) → read_at F (with_change_at nodes q f) path ≡ read_at F nodes path
change_keeps {X} F nodes q f path keeps = by (finite.get nodes q) refl
  where
    by : (o : Option Node) → finite.get nodes q ≡ o → read_at F (option_map_or (λ n. finite.insert nodes q (f n)) o nodes) path ≡ read_at F nodes path
    by None is = refl
    by (Some n) is =
        elim (same_or_other paths_total same_path path q) [
          | inl same ↦
              ap (read_at F (finite.insert nodes q (f n))) same
              ∙ ap (option_map F) (get-insert-here paths_total same_path nodes q (f n))
              ∙ ap Some (keeps n)
              ∙ ap (option_map F) (sym is)
              ∙ ap (read_at F nodes) (sym same)
          | inr other ↦ ap (option_map F) (get-insert-other nodes q (f n) path other)
        ]

-- a change of another node
change_other : {X : Type 0} (F : Node → X) (nodes : Nodes) (q : Path) (f : Node → Node) (path : Path) → path ≢ q → read_at F (with_change_at nodes q f) path ≡ read_at F nodes path
change_other {X} F nodes q f path other = by (finite.get nodes q)
  where
    by : (o : Option Node) → read_at F (option_map_or (λ n. finite.insert nodes q (f n)) o nodes) path ≡ read_at F nodes path
    by None = refl
    by (Some n) = ap (option_map F) (get-insert-other nodes q (f n) path other)

-- what changed: the data of one path, and the children of that path and of its parent
pub record IsChangedAt (at : Path) (nodes changed : Nodes) (path : Path) : Type 0 where
  pub same_data : path ≢ at → data_at changed path ≡ data_at nodes path
  pub same_children : path ≢ at → path ≢ parent_of at → children_at changed path ≡ children_at nodes path

-- what a create, a delete and a set did
abbrev CreateDid : Tree → Path → Result (Tree × ChangeReply) Refusal → Type 0
CreateDid t path (Err refusal) = Unit {0}
CreateDid t path (Ok (u, Created made)) = IsChangedAt made t.nodes u.nodes path
CreateDid t path (Ok (u, Deleted)) = ⊥
CreateDid t path (Ok (u, Set stat)) = ⊥

abbrev DeleteDid : Tree → Delete → Path → Result (Tree × ChangeReply) Refusal → Type 0
DeleteDid t delete path (Err refusal) = Unit {0}
DeleteDid t delete path (Ok (u, Created made)) = ⊥
DeleteDid t delete path (Ok (u, Deleted)) = IsChangedAt delete.path t.nodes u.nodes path
DeleteDid t delete path (Ok (u, Set stat)) = ⊥

abbrev SetDid : Tree → SetData → Path → Result (Tree × ChangeReply) Refusal → Type 0
SetDid t set path (Err refusal) = Unit {0}
SetDid t set path (Ok (u, Created made)) = ⊥
SetDid t set path (Ok (u, Deleted)) = ⊥
SetDid t set path (Ok (u, Set stat)) =
    (path ≢ set.path → data_at u.nodes path ≡ data_at t.nodes path) × (children_at u.nodes path ≡ children_at t.nodes path)

create_did : (t : Tree) (client : ℕ) (create : Create) (path : Path) → CreateDid t path (create_step t client create)
unfolding create_step
create_did t client create path = by (first_that_holds (create_refusals t client create))
  where
    by : (refused : Option Refusal) → CreateDid t path (unless_refused refused (
      with_node t (made_path t.nodes create.kind create.path) create.bytes (owner_of create.kind.lifetime) (term_of create.kind.lifetime) create.kind.is_sequential,
      Created (made_path t.nodes create.kind create.path),
    ))
    by (Some refusal) = tt
    by None =
        let made = made_path t.nodes create.kind create.path in
        let new = new_node create.bytes (owner_of create.kind.lifetime) (term_of create.kind.lifetime) (t.zxid + 1) t.time in
        let more = finite.insert t.nodes made new in
        let f = with_child (t.zxid + 1) create.kind.is_sequential in
        record {
          same_data = λ other. change_keeps but_children more (parent_of made) f path (λ n. refl) ∙ ap (option_map but_children) (get-insert-other t.nodes made new path other);
          same_children = λ other above. change_other (λ (n : Node). n.pzxid) more (parent_of made) f path above ∙ ap (option_map (λ (n : Node). n.pzxid)) (get-insert-other t.nodes made new path other);
        }

delete_did : (t : Tree) (delete : Delete) (path : Path) → DeleteDid t delete path (delete_step t delete)
unfolding delete_step
delete_did t delete path = by (first_that_holds (delete_refusals t.nodes delete))
  where
    by : (refused : Option Refusal) → DeleteDid t delete path (unless_refused refused (without_node t delete.path, Deleted))
    by (Some refusal) = tt
    by None =
        let fewer = finite.remove t.nodes delete.path in
        let f = without_child (t.zxid + 1) in
        record {
          same_data = λ other. change_keeps but_children fewer (parent_of delete.path) f path (λ n. refl) ∙ ap (option_map but_children) (get-remove-elsewhere paths_total same_path t.nodes delete.path path other);
          same_children = λ other above. change_other (λ (n : Node). n.pzxid) fewer (parent_of delete.path) f path above ∙ ap (option_map (λ (n : Node). n.pzxid)) (get-remove-elsewhere paths_total same_path t.nodes delete.path path other);
        }

set_did : (t : Tree) (set : SetData) (path : Path) → SetDid t set path (set_step t set)
unfolding set_step
set_did t set path = by (finite.get t.nodes set.path) refl
  where
    write : Node → Node
    write = with_data set.bytes (t.zxid + 1) t.time

    kept : (n : Node) → finite.get t.nodes set.path ≡ Some n → children_at (finite.insert t.nodes set.path (write n)) path ≡ children_at t.nodes path
    kept n is =
        ap (λ (m : Nodes). children_at m path) (sym (changed_at-some t.nodes set.path write n is))
        ∙ change_keeps (λ (n : Node). n.pzxid) t.nodes set.path write path (λ n. refl)

    chosen : (n : Node) → finite.get t.nodes set.path ≡ Some n → (test : Bool) → SetDid t set path (if test then Err BadVersion else Ok (with_node_set t set.path (write n)))
    chosen n is true = tt
    chosen n is false = (λ other. ap (option_map but_children) (get-insert-other t.nodes set.path (write n) path other), kept n is)

    by : (o : Option Node) → finite.get t.nodes set.path ≡ o → SetDid t set path (on_version set.version o (λ n. with_node_set t set.path (write n)))
    by None is = tt
    by (Some n) is = chosen n is (has_other_version set.version n)

-- what a write of an access control list did: nothing that is to be reported
abbrev AclDid : Tree → Path → Result (Tree × ChangeReply) Refusal → Type 0
AclDid t path (Err refusal) = Unit {0}
AclDid t path (Ok (u, Created made)) = ⊥
AclDid t path (Ok (u, Deleted)) = ⊥
AclDid t path (Ok (u, Set stat)) = (data_at u.nodes path ≡ data_at t.nodes path) × (children_at u.nodes path ≡ children_at t.nodes path)

acl_did : (t : Tree) (set : SetAcl) (path : Path) → AclDid t path (acl_step t set)
unfolding acl_step
acl_did t set path = by (finite.get t.nodes set.path) refl
  where
    kept : {X : Type 0} (F : Node → X) (n : Node) → finite.get t.nodes set.path ≡ Some n → ((n : Node) → F (with_acl n) ≡ F n) → read_at F (finite.insert t.nodes set.path (with_acl n)) path ≡ read_at F t.nodes path
    kept F n is keeps =
        ap (λ (m : Nodes). read_at F m path) (sym (changed_at-some t.nodes set.path with_acl n is))
        ∙ change_keeps F t.nodes set.path with_acl path keeps

    chosen : (n : Node) → finite.get t.nodes set.path ≡ Some n → (test : Bool) → AclDid t path (if test then Err BadVersion else Ok (with_node_set t set.path (with_acl n)))
    chosen n is true = tt
    chosen n is false = (kept but_children n is (λ n. refl), kept (λ (n : Node). n.pzxid) n is (λ n. refl))

    by : (o : Option Node) → finite.get t.nodes set.path ≡ o → AclDid t path (unless_other (has_other_acl set.version) o (λ n. with_node_set t set.path (with_acl n)))
    by None is = tt
    by (Some n) is = chosen n is (has_other_acl set.version n)

-- where nothing changed, nothing is to be reported
untouched : (nodes : Nodes) (path : Path) (events : List Event) → ReportsChanges nodes nodes path events
untouched nodes path events = record { of_data = λ misses. refl; of_children = λ misses. refl }

-- the two events of a node that came or went
reported_with_parent : (kind : EventKind) (at : Path) (nodes changed : Nodes) (path : Path) → reports_data kind ≡ true → reports_children kind ≡ true
    → IsChangedAt at nodes changed path → ReportsChanges nodes changed path (with_parent kind at)
reported_with_parent kind at nodes changed path by_data by_children is = record {
  of_data = λ misses. is.same_data (λ e. misses.0 by_data (sym e));
  of_children = λ misses. is.same_children (λ e. misses.0 by_children (sym e)) (λ e. misses.1.0 refl (sym e));
}

-- the event of a write
reported_write : (t : Tree) (set : SetData) (u : Tree) (path : Path)
    → (path ≢ set.path → data_at u.nodes path ≡ data_at t.nodes path) × (children_at u.nodes path ≡ children_at t.nodes path)
    → ReportsChanges t.nodes u.nodes path (event NodeDataChanged set.path ∷ [])
reported_write t set u path did = record { of_data = λ misses. did.0 (λ e. misses.0 refl (sym e)); of_children = λ misses. did.1 }

-- one change after another
misses-append : (reports : EventKind → Bool) (path : Path) (events more : List Event) → Misses reports path (events ++ more) → Misses reports path events × Misses reports path more
misses-append reports path [] more misses = (tt, misses)
misses-append reports path (e ∷ events) more misses =
    let rest = misses-append reports path events more misses.1 in
    ((misses.0, rest.0), rest.1)

joined : (first second third : Nodes) (path : Path) (events more : List Event) → ReportsChanges first second path events → ReportsChanges second third path more → ReportsChanges first third path (events ++ more)
joined first second third path events more d e = record {
  of_data = λ misses. let parts = misses-append reports_data path events more misses in e.of_data parts.1 ∙ d.of_data parts.0;
  of_children = λ misses. let parts = misses-append reports_children path events more misses in e.of_children parts.1 ∙ d.of_children parts.0;
}

-- what a part did
abbrev PartDid : Tree → Part → Path → Result (Tree × PartReply) Refusal → Type 0
PartDid t p path (Err refusal) = Unit {0}
PartDid t p path (Ok (u, reported)) = ReportsChanges t.nodes u.nodes path (part_events p reported)

part_create : (t : Tree) (create : Create) (path : Path) (r : Result (Tree × ChangeReply) Refusal) → CreateDid t path r → PartDid t (part.Create create) path (reported_as_part r)
part_create t create path (Err refusal) did = tt
part_create t create path (Ok (u, Created made)) did = reported_with_parent NodeCreated made t.nodes u.nodes path refl refl did
part_create t create path (Ok (u, Deleted)) did = absurd did
part_create t create path (Ok (u, Set stat)) did = absurd did

part_delete : (t : Tree) (delete : Delete) (path : Path) (r : Result (Tree × ChangeReply) Refusal) → DeleteDid t delete path r → PartDid t (part.Delete delete) path (reported_as_part r)
part_delete t delete path (Err refusal) did = tt
part_delete t delete path (Ok (u, Created made)) did = absurd did
part_delete t delete path (Ok (u, Deleted)) did = reported_with_parent NodeDeleted delete.path t.nodes u.nodes path refl refl did
part_delete t delete path (Ok (u, Set stat)) did = absurd did

part_set : (t : Tree) (set : SetData) (path : Path) (r : Result (Tree × ChangeReply) Refusal) → SetDid t set path r → PartDid t (part.SetData set) path (reported_as_part r)
part_set t set path (Err refusal) did = tt
part_set t set path (Ok (u, Created made)) did = absurd did
part_set t set path (Ok (u, Deleted)) did = absurd did
part_set t set path (Ok (u, Set stat)) did = reported_write t set u path did

part_check : (t : Tree) (check : Check) (path : Path) → PartDid t (part.Check check) path (check_step t check)
unfolding check_step
part_check t check path = by (finite.get t.nodes check.path)
  where
    chosen : (test : Bool) → PartDid t (part.Check check) path (if test then Err BadVersion else Ok (t, part_reply.Checked))
    chosen true = tt
    chosen false = untouched t.nodes path []

    by : (o : Option Node) → PartDid t (part.Check check) path (on_version check.version o (λ n. (t, part_reply.Checked)))
    by None = tt
    by (Some n) = chosen (has_other_version check.version n)

part_did : (t : Tree) (client : ℕ) (p : Part) (path : Path) → PartDid t p path (part_step t client p)
part_did t client (part.Create create) path = part_create t create path (create_step t client create) (create_did t client create path)
part_did t client (part.Delete delete) path = part_delete t delete path (delete_step t delete) (delete_did t delete path)
part_did t client (part.SetData set) path = part_set t set path (set_step t set) (set_did t set path)
part_did t client (part.Check check) path = part_check t check path

-- what the parts of a multi did
abbrev RunDid : Tree → List Part → Path → Run → Type 0
RunDid t parts path (Err refused) = Unit {0}
RunDid t parts path (Ok (u, reported)) = ReportsChanges t.nodes u.nodes path (parts_events parts reported)

run_behind : (t v : Tree) (p : Part) (parts : List Part) (path : Path) (first : PartReply) (r : Run)
    → ReportsChanges t.nodes v.nodes path (part_events p first) → RunDid v parts path r → RunDid t (p ∷ parts) path (behind first r)
run_behind t v p parts path first (Err (number, refusal)) did rest = tt
run_behind t v p parts path first (Ok (u, reported)) did rest = joined t.nodes v.nodes u.nodes path (part_events p first) (parts_events parts reported) did rest

run_then : (t : Tree) (client : ℕ) (p : Part) (parts : List Part) (path : Path) (r : Result (Tree × PartReply) Refusal)
    → PartDid t p path r → ((v : Tree) → RunDid v parts path (run v client parts)) → RunDid t (p ∷ parts) path (and_then r (λ v. run v client parts))
run_then t client p parts path (Err refusal) did rest = tt
run_then t client p parts path (Ok (v, first)) did rest = run_behind t v p parts path first (run v client parts) did (rest v)

run_did : (t : Tree) (client : ℕ) (parts : List Part) (path : Path) → RunDid t parts path (run t client parts)
unfolding run
run_did t client [] path = untouched t.nodes path []
run_did t client (p ∷ parts) path =
    run_then t client p parts path (part_step t client p) (part_did t client p path) (λ v. run_did v client parts path)

-- what an update did
abbrev Did : Tree → Update → Path → Tree × Reply → Type 0
Did t update path s = ReportsChanges t.nodes s.0.nodes path (events_of update s.1)

create_reported : (t : Tree) (create : Create) (path : Path) (r : Result (Tree × ChangeReply) Refusal) → CreateDid t path r → Did t (act.Create create) path (change_result t r)
create_reported t create path (Err refusal) did = untouched t.nodes path []
create_reported t create path (Ok (u, Created made)) did = reported_with_parent NodeCreated made t.nodes u.nodes path refl refl did
create_reported t create path (Ok (u, Deleted)) did = absurd did
create_reported t create path (Ok (u, Set stat)) did = absurd did

delete_reported : (t : Tree) (delete : Delete) (path : Path) (r : Result (Tree × ChangeReply) Refusal) → DeleteDid t delete path r → Did t (act.Delete delete) path (change_result t r)
delete_reported t delete path (Err refusal) did = untouched t.nodes path []
delete_reported t delete path (Ok (u, Created made)) did = absurd did
delete_reported t delete path (Ok (u, Deleted)) did = reported_with_parent NodeDeleted delete.path t.nodes u.nodes path refl refl did
delete_reported t delete path (Ok (u, Set stat)) did = absurd did

set_reported : (t : Tree) (set : SetData) (path : Path) (r : Result (Tree × ChangeReply) Refusal) → SetDid t set path r → Did t (act.SetData set) path (change_result t r)
set_reported t set path (Err refusal) did = untouched t.nodes path []
set_reported t set path (Ok (u, Created made)) did = absurd did
set_reported t set path (Ok (u, Deleted)) did = absurd did
set_reported t set path (Ok (u, Set stat)) did = reported_write t set u path did

acl_reported : (t : Tree) (set : SetAcl) (path : Path) (r : Result (Tree × ChangeReply) Refusal) → AclDid t path r → Did t (act.SetAcl set) path (change_result t r)
acl_reported t set path (Err refusal) did = untouched t.nodes path []
acl_reported t set path (Ok (u, Created made)) did = absurd did
acl_reported t set path (Ok (u, Deleted)) did = absurd did
acl_reported t set path (Ok (u, Set stat)) did = record { of_data = λ misses. did.0; of_children = λ misses. did.1 }

multi_reported : (t : Tree) (parts : List Part) (path : Path) (r : Run) → RunDid t parts path r → Did t (act.Multi parts) path (multi_result t r)
multi_reported t parts path (Err (number, refusal)) did = untouched t.nodes path []
multi_reported t parts path (Ok (u, reported)) did = did

-- either of two results
either : (t : Tree) (update : Update) (path : Path) (test : Bool) (r s : Tree × Reply) → Did t update path r → Did t update path s → Did t update path (if test then r else s)
either t update path true r s first second = first
either t update path false r s first second = second

update_reported : (t : Tree) (client : ℕ) (update : Update) (path : Path) → takes_away update ≡ false → Did t update path (update_result t client update)
update_reported t client (act.Create create) path stays = create_reported t create path (create_step t client create) (create_did t client create path)
update_reported t client (act.Delete delete) path stays = delete_reported t delete path (delete_step t delete) (delete_did t delete path)
update_reported t client (act.SetData set) path stays = set_reported t set path (set_step t set) (set_did t set path)
update_reported t client (act.SetAcl set) path stays = acl_reported t set path (acl_step t set) (acl_did t set path)
update_reported t client (act.Multi parts) path stays = multi_reported t parts path (run t client parts) (run_did t client parts path)
update_reported t client (act.Open ticks) path stays = either t (act.Open ticks) path _ _ _ (untouched t.nodes path []) (untouched t.nodes path [])
update_reported t client (act.Ping session) path stays = either t (act.Ping session) path _ _ _ (untouched t.nodes path []) (untouched t.nodes path [])
update_reported t client (act.Close session) path stays = cc
update_reported t client act.Tick path stays = cc

-- an update that is refused for good has no events
no_events : (t : Tree) (update : Update) (path : Path) (refusal : Refusal) → Did t update path (t, reply.Refused refusal)
no_events t update path refusal = untouched t.nodes path (events_of update (reply.Refused refusal))

pub events_report_every_change : EventsReportEveryChange
unfolding step
events_report_every_change t client update path stays =
    either t update path (is_exhausted t update) (t, reply.Refused Exhausted) (update_result t client update)
    (no_events t update path Exhausted) (update_reported t client update path stays)
