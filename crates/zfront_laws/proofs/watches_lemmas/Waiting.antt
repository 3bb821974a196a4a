-- What no event of an update reports stays: a path without a node, and a node with its children.
use Rattle.std.proofs.Common.{◌≡◌, ◌≢◌, ◌∙◌, ◌+◌, ℕ, Bool, true, false, cond, List, [], ◌∷◌, ◌++◌, Option, Some, None}
use Rattle.std.proofs.Common.{Result, Ok, Err, refl, sym, ap, inl, inr, if◌then◌else◌}
use mathlib.Core.Bool.{true≢false}
use Rattle.std.specs.Prelude.{◌⊎◌, is_some}
use Rattle.std.specs.Option.{option_map, option_map_or}
use Rattle.std.specs.Ordering.{eq_by_cmp}
use Rattle.std.specs.FinMap as finite
use Rattle.zpath.specs.Grammar.{path_cmp}
use Rattle.zpath.specs.First.{first_that_holds}
use Rattle.zpath.proofs.First.{no_test_holds}
use Rattle.ztree.specs.declared.node.Node.{Node}
use Rattle.ztree.specs.Tree.{Tree, Path, Nodes, has_node, parent_of, new_node, with_node, without_node, with_child}
use Rattle.ztree.specs.Tree.{without_child, with_data, with_acl, with_change_at}
use Rattle.ztree.proofs.Sorted.{paths_total, same_path}
use Rattle.ztree.proofs.Maps.{same_or_other, get-insert-here, get-remove-elsewhere, not_tied}
use Rattle.ztree.proofs.Nodes.{get-insert-other}
use Rattle.ztree.proofs.Ending.{has_node-changed, has_node-dropped}
use Rattle.zcalls.specs.declared.refusal.Refusal.{Refusal}
use Rattle.zcalls.specs.declared.refusal.Refusal.TheVariants.{Exhausted, BadVersion}
use Rattle.zcalls.specs.declared.call.Create.{Create}
use Rattle.zcalls.specs.declared.call.Delete.{Delete}
use Rattle.zcalls.specs.declared.call.SetData.{SetData}
use Rattle.zcalls.specs.declared.call.SetAcl.{SetAcl}
use Rattle.zcalls.specs.declared.call.Check.{Check}
use Rattle.zcalls.specs.declared.call.Part.{Part}
use Rattle.zcalls.specs.declared.call.Part.TheVariants as part
use Rattle.zcalls.specs.declared.call.Update.{Update}
use Rattle.zcalls.specs.declared.call.Update.TheVariants as act
use Rattle.zcalls.specs.declared.change.ChangeReply.{ChangeReply}
use Rattle.zcalls.specs.declared.change.ChangeReply.TheVariants.{Created, Deleted, Set}
use Rattle.zcalls.specs.declared.reply.PartReply.{PartReply}
use Rattle.zcalls.specs.declared.reply.PartReply.TheVariants as part_reply
use Rattle.zcalls.specs.declared.reply.Reply.{Reply}
use Rattle.zcalls.specs.declared.reply.Reply.TheVariants as reply
use Rattle.zcalls.specs.Part.{acl_step, has_other_acl, unless_other}
use Rattle.zcalls.specs.Part.{create_step, delete_step, set_step, check_step, part_step, reported_as_part, create_refusals}
use Rattle.zcalls.specs.Part.{delete_refusals, unless_refused, made_path, owner_of, term_of, on_version}
use Rattle.zcalls.specs.Part.{has_other_version, with_node_set}
use Rattle.zcalls.specs.Multi.{Run, run, behind, and_then}
use Rattle.zcalls.specs.Step.{step, is_exhausted, update_result, change_result, multi_result}
use Rattle.zjute.specs.declared.event.EventKind.{EventKind}
use Rattle.zjute.specs.declared.event.EventKind.TheVariants.{NodeCreated, NodeDeleted, NodeDataChanged, NodeChildrenChanged}
use Rattle.zwatches.specs.declared.changes.event.Event.{Event}
use Rattle.zwatches.specs.changes.Events.{event, with_parent, events_of, part_events, parts_events}
use Rattle.zwatches.specs.changes.Laws.{children_at, Misses, takes_away}

-- the event reports that a node came, or that it went or has other children
abbrev pub reports_creation : EventKind → Bool
reports_creation NodeCreated = true
reports_creation other = false

abbrev pub reports_loss : EventKind → Bool
reports_loss NodeDeleted = true
reports_loss NodeChildrenChanged = true
reports_loss other = false

-- a path without a node stays so, and a node with its children stays so, where no event reports it
pub record Leaves (nodes changed : Nodes) (path : Path) (events : List Event) : Type 0 where
  pub missing : has_node nodes path ≡ false → Misses reports_creation path events → has_node changed path ≡ false
  pub there : has_node nodes path ≡ true → Misses reports_loss path events
      → (has_node changed path ≡ true) × (children_at changed path ≡ children_at nodes path)

untouched : (nodes : Nodes) (path : Path) (events : List Event) → Leaves nodes nodes path events
untouched nodes path events = record { missing = λ none misses. none; there = λ some misses. (some, refl) }

-- a change of another node leaves when the children changed
children_beside : (nodes : Nodes) (q : Path) (f : Node → Node) (path : Path) → path ≢ q → children_at (with_change_at nodes q f) path
    ≡ children_at nodes path
children_beside nodes q f path other = by (finite.get nodes q)
  where
    by : (o : Option Node) → children_at (option_map_or (λ n. finite.insert nodes q (f n)) o nodes) path ≡ children_at nodes path
    by None = refl
    by (Some n) = ap (option_map (λ (n : Node). n.pzxid)) (get-insert-other nodes q (f n) path other)

-- a node is made where none was
made : (t : Tree) (at : Path) (new : Node) (f : Node → Node) (path : Path) → has_node t.nodes at ≡ false
    → Leaves t.nodes (with_change_at (finite.insert t.nodes at new) (parent_of at) f) path (with_parent NodeCreated at)
made t at new f path free = record {
  missing = λ none misses.
      has_node-changed more (parent_of at) f path ∙ ap is_some (get-insert-other t.nodes at new path (λ e. misses.0 refl (sym e))) ∙ none;
  there = λ some misses.
      let apart : path ≢ at = λ e. true≢false (sym some ∙ ap (has_node t.nodes) e ∙ free) in (
        has_node-changed more (parent_of at) f path ∙ ap is_some (get-insert-other t.nodes at new path apart) ∙ some,
        children_beside more (parent_of at) f path (λ e. misses.1.0 refl (sym e))
            ∙ ap (option_map (λ (n : Node). n.pzxid)) (get-insert-other t.nodes at new path apart),
      );
}
  where
    more : Nodes
    more = finite.insert t.nodes at new

-- a node goes
false_if : (b c : Bool) → c ≡ false → cond b false c ≡ false
false_if true c none = refl
false_if false c none = none

dropped : (t : Tree) (at : Path) (path : Path) → Leaves t.nodes (without_node t at).nodes path (with_parent NodeDeleted at)
dropped t at path = record {
  missing = λ none misses. has_node-dropped t at path ∙ false_if (eq_by_cmp path_cmp path at) (has_node t.nodes path) none;
  there = λ some misses.
      let apart : path ≢ at = λ e. misses.0 refl (sym e) in (
        has_node-dropped t at path ∙ ap (λ b. cond b false (has_node t.nodes path)) (not_tied paths_total same_path path at apart) ∙ some,
        children_beside (finite.remove t.nodes at) (parent_of at) (without_child (t.zxid + 1)) path (λ e. misses.1.0 refl (sym e))
            ∙ ap (option_map (λ (n : Node). n.pzxid)) (get-remove-elsewhere paths_total same_path t.nodes at path apart),
      );
}

-- a node is written, whatever events tell of it
written : (nodes : Nodes) (at : Path) (old new : Node) (path : Path) (events : List Event) → finite.get nodes at ≡ Some old
    → new.pzxid ≡ old.pzxid → Leaves nodes (finite.insert nodes at new) path events
written nodes at old new path events is same = near (same_or_other paths_total same_path path at)
  where
    there : has_node nodes at ≡ true
    there = ap is_some is

    near : (path ≡ at) ⊎ (path ≢ at) → Leaves nodes (finite.insert nodes at new) path events
    near (inl here) = record {
      missing = λ none misses. absurd (true≢false (sym there ∙ ap (has_node nodes) (sym here) ∙ none));
      there = λ some misses. (
        ap (λ p. has_node (finite.insert nodes at new) p) here ∙ ap is_some (get-insert-here paths_total same_path nodes at new),
        ap (λ p. children_at (finite.insert nodes at new) p) here
            ∙ ap (option_map (λ (n : Node). n.pzxid)) (get-insert-here paths_total same_path nodes at new)
            ∙ ap (λ z. Some z) same
            ∙ ap (option_map (λ (n : Node). n.pzxid)) (sym is)
            ∙ ap (λ p. children_at nodes p) (sym here),
      );
    }
    near (inr apart) = record {
      missing = λ none misses. ap is_some (get-insert-other nodes at new path apart) ∙ none;
      there = λ some misses. (
        ap is_some (get-insert-other nodes at new path apart) ∙ some,
        ap (option_map (λ (n : Node). n.pzxid)) (get-insert-other nodes at new path apart),
      );
    }

-- one change after another
misses-append : (reports : EventKind → Bool) (path : Path) (events more : List Event) → Misses reports path (events ++ more)
    → Misses reports path events × Misses reports path more
misses-append reports path [] more misses = (tt, misses)
misses-append reports path (e ∷ events) more misses =
    let rest = misses-append reports path events more misses.1 in
    ((misses.0, rest.0), rest.1)

joined : (first second third : Nodes) (path : Path) (events more : List Event) → Leaves first second path events
    → Leaves second third path more → Leaves first third path (events ++ more)
joined first second third path events more d e = record {
  missing = λ none misses. let parts = misses-append reports_creation path events more misses in e.missing (d.missing none parts.0) parts.1;
  there = λ some misses.
      let parts = misses-append reports_loss path events more misses in
      let one = d.there some parts.0 in
      let two = e.there one.0 parts.1 in
      (two.0, two.1 ∙ one.1);
}

-- what a change did
abbrev ChangeDid : Tree → Path → (ChangeReply → List Event) → Result (Tree × ChangeReply) Refusal → Type 0
ChangeDid t path events (Err refusal) = Unit {0}
ChangeDid t path events (Ok (u, did)) = Leaves t.nodes u.nodes path (events did)

abbrev pub of_create : ChangeReply → List Event
of_create (Created path) = with_parent NodeCreated path
of_create other = []

abbrev pub of_delete : Delete → ChangeReply → List Event
of_delete delete Deleted = with_parent NodeDeleted delete.path
of_delete delete other = []

abbrev pub of_set : SetData → ChangeReply → List Event
of_set set (Set stat) = event NodeDataChanged set.path ∷ []
of_set set other = []

create_did : (t : Tree) (client : ℕ) (create : Create) (path : Path) → ChangeDid t path of_create (create_step t client create)
unfolding create_step
create_did t client create path = by (first_that_holds (create_refusals t client create)) refl
  where
    at : Path
    at = made_path t.nodes create.kind create.path

    by : (refused : Option Refusal) → first_that_holds (create_refusals t client create) ≡ refused
        → ChangeDid t path of_create (unless_refused refused (
          with_node t at create.bytes (owner_of create.kind.lifetime) (term_of create.kind.lifetime) create.kind.is_sequential,
          Created at,
        ))
    by (Some refusal) is = tt
    by None is =
        let tests = no_test_holds (create_refusals t client create) is in
        made t at (new_node create.bytes (owner_of create.kind.lifetime) (term_of create.kind.lifetime) (t.zxid + 1) t.time)
        (with_child (t.zxid + 1) create.kind.is_sequential) path tests.1.1.1.1.1.1.0

delete_did : (t : Tree) (delete : Delete) (path : Path) → ChangeDid t path (of_delete delete) (delete_step t delete)
unfolding delete_step
delete_did t delete path = by (first_that_holds (delete_refusals t.nodes delete))
  where
    by : (refused : Option Refusal) → ChangeDid t path (of_delete delete) (unless_refused refused (without_node t delete.path, Deleted))
    by (Some refusal) = tt
    by None = dropped t delete.path path

set_did : (t : Tree) (set : SetData) (path : Path) → ChangeDid t path (of_set set) (set_step t set)
unfolding set_step
set_did t set path = by (finite.get t.nodes set.path) refl
  where
    write : Node → Node
    write = with_data set.bytes (t.zxid + 1) t.time

    chosen : (n : Node) → finite.get t.nodes set.path ≡ Some n → (test : Bool)
        → ChangeDid t path (of_set set) (if test then Err BadVersion else Ok (with_node_set t set.path (write n)))
    chosen n is true = tt
    chosen n is false = written t.nodes set.path n (write n) path (event NodeDataChanged set.path ∷ []) is refl

    by : (o : Option Node) → finite.get t.nodes set.path ≡ o
        → ChangeDid t path (of_set set) (on_version set.version o (λ n. with_node_set t set.path (write n)))
    by None is = tt
    by (Some n) is = chosen n is (has_other_version set.version n)

-- a write of an access control list is told by no event
abbrev no_event : ChangeReply → List Event
no_event did = []

acl_did : (t : Tree) (set : SetAcl) (path : Path) → ChangeDid t path no_event (acl_step t set)
unfolding acl_step
acl_did t set path = by (finite.get t.nodes set.path) refl
  where
    chosen : (n : Node) → finite.get t.nodes set.path ≡ Some n → (test : Bool)
        → ChangeDid t path no_event (if test then Err BadVersion else Ok (with_node_set t set.path (with_acl n)))
    chosen n is true = tt
    chosen n is false = written t.nodes set.path n (with_acl n) path [] is refl

    by : (o : Option Node) → finite.get t.nodes set.path ≡ o
        → ChangeDid t path no_event (unless_other (has_other_acl set.version) o (λ n. with_node_set t set.path (with_acl n)))
    by None is = tt
    by (Some n) is = chosen n is (has_other_acl set.version n)

-- what a part did
abbrev PartDid : Tree → Part → Path → Result (Tree × PartReply) Refusal → Type 0
PartDid t p path (Err refusal) = Unit {0}
PartDid t p path (Ok (u, reported)) = Leaves t.nodes u.nodes path (part_events p reported)

part_create : (t : Tree) (create : Create) (path : Path) (r : Result (Tree × ChangeReply) Refusal) → ChangeDid t path of_create r
    → PartDid t (part.Create create) path (reported_as_part r)
part_create t create path (Err refusal) did = tt
part_create t create path (Ok (u, Created at)) did = did
part_create t create path (Ok (u, Deleted)) did = did
part_create t create path (Ok (u, Set stat)) did = did

part_delete : (t : Tree) (delete : Delete) (path : Path) (r : Result (Tree × ChangeReply) Refusal)
    → ChangeDid t path (of_delete delete) r → PartDid t (part.Delete delete) path (reported_as_part r)
part_delete t delete path (Err refusal) did = tt
part_delete t delete path (Ok (u, Created at)) did = did
part_delete t delete path (Ok (u, Deleted)) did = did
part_delete t delete path (Ok (u, Set stat)) did = did

part_set : (t : Tree) (set : SetData) (path : Path) (r : Result (Tree × ChangeReply) Refusal) → ChangeDid t path (of_set set) r
    → PartDid t (part.SetData set) path (reported_as_part r)
part_set t set path (Err refusal) did = tt
part_set t set path (Ok (u, Created at)) did = did
part_set t set path (Ok (u, Deleted)) did = did
part_set t set path (Ok (u, Set stat)) did = did

part_check : (t : Tree) (check : Check) (path : Path) → PartDid t (part.Check check) path (check_step t check)
unfolding check_step
part_check t check path = by (finite.get t.nodes check.path)
  where
    chosen : (test : Bool) → PartDid t (part.Check check) path (if test then Err BadVersion else Ok (t, part_reply.Checked))
    chosen true = tt
    chosen false = untouched t.nodes path []

    by : (o : Option Node) → PartDid t (part.Check check) path (on_version check.version o (λ n. (t, part_reply.Checked)))
    by None = tt
    by (Some n) = chosen (has_other_version check.version n)

part_did : (t : Tree) (client : ℕ) (p : Part) (path : Path) → PartDid t p path (part_step t client p)
part_did t client (part.Create create) path = part_create t create path (create_step t client create) (create_did t client create path)
part_did t client (part.Delete delete) path = part_delete t delete path (delete_step t delete) (delete_did t delete path)
part_did t client (part.SetData set) path = part_set t set path (set_step t set) (set_did t set path)
part_did t client (part.Check check) path = part_check t check path

-- what the parts of a multi did
abbrev RunDid : Tree → List Part → Path → Run → Type 0
RunDid t parts path (Err refused) = Unit {0}
RunDid t parts path (Ok (u, reported)) = Leaves t.nodes u.nodes path (parts_events parts reported)

run_behind : (t v : Tree) (p : Part) (parts : List Part) (path : Path) (first : PartReply) (r : Run)
    → Leaves t.nodes v.nodes path (part_events p first) → RunDid v parts path r → RunDid t (p ∷ parts) path (behind first r)
run_behind t v p parts path first (Err (number, refusal)) did rest = tt
run_behind t v p parts path first (Ok (u, reported)) did rest = joined t.nodes v.nodes u.nodes path (part_events p first)
    (parts_events parts reported) did rest

run_then : (t : Tree) (client : ℕ) (p : Part) (parts : List Part) (path : Path) (r : Result (Tree × PartReply) Refusal)
    → PartDid t p path r → ((v : Tree) → RunDid v parts path (run v client parts)) → RunDid t (p ∷ parts) path (and_then r (λ v. run v client parts))
run_then t client p parts path (Err refusal) did rest = tt
run_then t client p parts path (Ok (v, first)) did rest = run_behind t v p parts path first (run v client parts) did (rest v)

run_did : (t : Tree) (client : ℕ) (parts : List Part) (path : Path) → RunDid t parts path (run t client parts)
unfolding run
run_did t client [] path = untouched t.nodes path []
run_did t client (p ∷ parts) path =
    run_then t client p parts path (part_step t client p) (part_did t client p path) (λ v. run_did v client parts path)

-- what an update did
abbrev Did : Tree → Update → Path → Tree × Reply → Type 0
Did t update path s = Leaves t.nodes s.0.nodes path (events_of update s.1)

create_reported : (t : Tree) (create : Create) (path : Path) (r : Result (Tree × ChangeReply) Refusal) → ChangeDid t path of_create r
    → Did t (act.Create create) path (change_result t r)
create_reported t create path (Err refusal) did = untouched t.nodes path []
create_reported t create path (Ok (u, Created at)) did = did
create_reported t create path (Ok (u, Deleted)) did = did
create_reported t create path (Ok (u, Set stat)) did = did

delete_reported : (t : Tree) (delete : Delete) (path : Path) (r : Result (Tree × ChangeReply) Refusal)
    → ChangeDid t path (of_delete delete) r → Did t (act.Delete delete) path (change_result t r)
delete_reported t delete path (Err refusal) did = untouched t.nodes path []
delete_reported t delete path (Ok (u, Created at)) did = did
delete_reported t delete path (Ok (u, Deleted)) did = did
delete_reported t delete path (Ok (u, Set stat)) did = did

set_reported : (t : Tree) (set : SetData) (path : Path) (r : Result (Tree × ChangeReply) Refusal) → ChangeDid t path (of_set set) r
    → Did t (act.SetData set) path (change_result t r)
set_reported t set path (Err refusal) did = untouched t.nodes path []
set_reported t set path (Ok (u, Created at)) did = did
set_reported t set path (Ok (u, Deleted)) did = did
set_reported t set path (Ok (u, Set stat)) did = did

acl_reported : (t : Tree) (set : SetAcl) (path : Path) (r : Result (Tree × ChangeReply) Refusal) → ChangeDid t path no_event r
    → Did t (act.SetAcl set) path (change_result t r)
acl_reported t set path (Err refusal) did = untouched t.nodes path []
acl_reported t set path (Ok (u, Created at)) did = did
acl_reported t set path (Ok (u, Deleted)) did = did
acl_reported t set path (Ok (u, Set stat)) did = did

multi_reported : (t : Tree) (parts : List Part) (path : Path) (r : Run) → RunDid t parts path r → Did t (act.Multi parts) path (multi_result t r)
multi_reported t parts path (Err (number, refusal)) did = untouched t.nodes path []
multi_reported t parts path (Ok (u, reported)) did = did

either : (t : Tree) (update : Update) (path : Path) (test : Bool) (r s : Tree × Reply) → Did t update path r
    → Did t update path s → Did t update path (if test then r else s)
either t update path true r s first second = first
either t update path false r s first second = second

update_reported : (t : Tree) (client : ℕ) (update : Update) (path : Path) → takes_away update ≡ false → Did t update path (update_result t client update)
update_reported t client (act.Create create) path stays = create_reported t create path (create_step t client create) (create_did t client create path)
update_reported t client (act.Delete delete) path stays = delete_reported t delete path (delete_step t delete) (delete_did t delete path)
update_reported t client (act.SetData set) path stays = set_reported t set path (set_step t set) (set_did t set path)
update_reported t client (act.SetAcl set) path stays = acl_reported t set path (acl_step t set) (acl_did t set path)
update_reported t client (act.Multi parts) path stays = multi_reported t parts path (run t client parts) (run_did t client parts path)
update_reported t client (act.Open ticks) path stays = either t (act.Open ticks) path _ _ _ (untouched t.nodes path []) (untouched t.nodes path [])
update_reported t client (act.Ping session) path stays = either t (act.Ping session) path _ _ _ (untouched t.nodes path []) (untouched t.nodes path [])
update_reported t client (act.Close session) path stays = cc
update_reported t client act.Tick path stays = cc

no_events : (t : Tree) (update : Update) (path : Path) (refusal : Refusal) → Did t update path (t, reply.Refused refusal)
no_events t update path refusal = untouched t.nodes path (events_of update (reply.Refused refusal))

-- what an update leaves where none of its events reports it
pub update_leaves : (t : Tree) (client : ℕ) (update : Update) (path : Path) → takes_away update ≡ false
    → Leaves t.nodes (step t client update).0.nodes path (events_of update (step t client update).1)
unfolding step
update_leaves t client update path stays =
    either t update path (is_exhausted t update) (t, reply.Refused Exhausted) (update_result t client update)
    (no_events t update path Exhausted) (update_reported t client update path stays)
